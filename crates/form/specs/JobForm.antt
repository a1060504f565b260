-- The whole job.
--   End, read_end t  the operation and the curve, read off the front of t
--   EndAt, EndRead   what job_end answers: an operation and a count, the curve at the front of a lent list and nothing after its line,
--                    or that no such end stands there
--   JobAt            a job stands in t: its modulus and its operation, each list by its count and at the front of a lent one
--   Formed           what job_form answers: a job, or that t is malformed
-- Proved: a job text is read by its family and its end; where the reading stops if a line is missing, and the job if none is.
-- Assumes nothing.
use Rattle.std.proofs.Math.Path.{◌≡◌}
use Rattle.std.specs.Prelude.{refl, ℕ, ◌<◌, ◌≤◌, drop, Option, Some, None}
use Rattle.std.proofs.Common.{sym, ◌∙◌, ap}
use mathlib.Core.List.{List, [], ◌∷◌}
use native.Mathlib.Omega.{arith}
use Rattle.std.proofs.Math.ListN.{length, drop_of_length-le}
use Rattle.std.proofs.Math.Seq.{drop-cons}
use Rattle.definitions.specs.Text.{modulus_key, a_key, b_key, c_key, operation_key, curve_key, WrittenJob}
use Rattle.definitions.specs.Reading.{Front, got, bad, found, malformed, then, whole}
use Rattle.definitions.specs.Reading.{read_number, read_numbers, read_operation, read_line, read_lines, read_job}
use Rattle.definitions.specs.declared.Operation.{Operation}
use Rattle.texts.specs.DecimalReading.{got-not-bad}
use Rattle.reader.specs.Storing.{Stored, ListAt}
use Rattle.reader.specs.Lines.{ReadAt}
use Rattle.form.specs.FamilyLines.{read_rows, FamilyLists, read_family, FamilyAt, then-then}
use Rattle.form.specs.declared.JobEnd.{JobEnd}
use Rattle.form.specs.declared.JobForm.{JobForm}

pub record End : Type 0 where
  pub operation : Operation
  pub curve : List ℕ

unfoldable pub read_end : List ℕ → Front End
read_end t =
    then (read_line operation_key read_operation t) (λ operation t₁.
    then (read_line curve_key read_numbers t₁) (λ curve t₂.
    got (record { operation = operation; curve = curve }) t₂))

-- f: what read_end answers; nv: the count; v and v': the lent list before and after
pub record EndAt (f : Front End) (operation : Operation) (nv : ℕ) (v v' : List ℕ) : Type 0 where
  pub curve : List ℕ
  pub read : f ≡ got (record { operation = operation; curve = curve }) []
  pub stored : Stored curve nv v v'

abbrev pub EndRead : Front End → List ℕ → List ℕ → Option JobEnd → Type 0
EndRead f v v' (Some r) = EndAt f r.operation r.curve v v'
EndRead f v v' None = (end : End) → f ≡ got end [] → ⊥

-- na, nb, nc, nv: the counts; a and a', b and b', c and c', v and v': the lent lists before and after
pub record JobAt (t : List ℕ) (modulus : ℕ) (operation : Operation) (na nb nc nv : ℕ) (a a' b b' c c' v v' : List ℕ) : Type 0 where
  pub job : WrittenJob
  pub read : read_job t ≡ found job
  pub modulus_is : job.modulus ≡ modulus
  pub operation_is : job.operation ≡ operation
  pub a_stored : Stored job.a na a a'
  pub b_stored : Stored job.b nb b b'
  pub c_stored : Stored job.c nc c c'
  pub curve_stored : Stored job.curve nv v v'

abbrev pub Formed : List ℕ → List ℕ → List ℕ → List ℕ → List ℕ → List ℕ → List ℕ → List ℕ → List ℕ → Option JobForm → Type 0
Formed t a a' b b' c c' v v' (Some r) =
    JobAt t r.modulus r.operation r.a r.b r.c r.curve a a' b b' c c' v v'
Formed t a a' b b' c c' v v' None = read_job t ≡ malformed

-- ---- the end, line by line, q being what is left
module _ (q : List ℕ) where
  pub no-operation : read_line operation_key read_operation q ≡ bad → (end : End) → read_end q ≡ got end [] → ⊥
  unfolding read_end
  no-operation e end f = got-not-bad (sym (rw e) ∙ f)

  module _ (t : List ℕ) (o : Operation) (i : ℕ) (lo : ReadAt t (read_line operation_key read_operation q) o i) where
    pub no-curve : read_line curve_key read_numbers (drop i t) ≡ bad → (end : End) → read_end q ≡ got end [] → ⊥
    unfolding read_end
    no-curve e end f = got-not-bad (sym (rw (lo.read, e)) ∙ f)

    module _ (nv j : ℕ) (v v' : List ℕ) (lv : ListAt t (read_line curve_key read_numbers (drop i t)) nv j v v') where
      pub no_end : (j ≡ length t → ⊥) → (end : End) → read_end q ≡ got end [] → ⊥
      unfolding read_end
      no_end n end f =
          let h : j < length t = omega (arith, lv.inside) in
          not-ended (rw (lo.read, lv.read, drop-cons t j 0 h) at f)
        where
          not-ended : {A : Type 0} {x y : A} {b : ℕ} {p : List ℕ} → got x (b ∷ p) ≡ got y [] → ⊥
          not-ended e = let z : ◌≡◌ {A = ℕ} 0 1 = cc in omega arith

      pub end-at : j ≡ length t → EndAt (read_end q) o nv v v'
      unfolding read_end
      end-at e =
          let h : length t ≤ j = omega arith in
          record { curve = lv.xs; read = rw (lo.read, lv.read, drop_of_length-le t); stored = lv.stored }

-- ---- the job, by its family and its end
abbrev job_of : FamilyLists → End → WrittenJob
job_of f end = record {
  modulus = f.modulus;
  a = f.rows.a;
  b = f.rows.b;
  c = f.rows.c;
  operation = end.operation;
  curve = end.curve;
}

abbrev with_end : FamilyLists → List ℕ → Front WrittenJob
with_end f t = then (read_end t) (λ end rest. got (job_of f end) rest)

by_parts : (t : List ℕ) → read_job t ≡ whole (then (read_family t) with_end)
unfolding read_job read_lines read_family read_rows read_end
by_parts t = ap whole (
    then-then (read_line modulus_key read_number t) _ _ _ (λ m t₁.
    then-then (read_line a_key read_numbers t₁) _ _ _ (λ a t₂.
    then-then (read_line b_key read_numbers t₂) _ _ _ (λ b t₃.
    then-then (read_line c_key read_numbers t₃) _ _ _ (λ c t₄.
    then-then (read_line operation_key read_operation t₄) _ _ _ (λ o t₅.
    then-then (read_line curve_key read_numbers t₅) _ _ _ (λ v t₆. refl)))))
    ∙ then-then (read_rows t₁) _ _ _ (λ rows t₂. refl)))

pub no-family : (t : List ℕ) → read_family t ≡ bad → read_job t ≡ malformed
no-family t e = by_parts t ∙ rw e

module _ (t : List ℕ) (modulus na nb nc next : ℕ) (a a' b b' c c' : List ℕ)
    (l : FamilyAt t (read_family t) modulus na nb nc next a a' b b' c c') where
  abbrev family : FamilyLists
  family = record { modulus = modulus; rows = l.rows }

  past-family : read_job t ≡ whole (with_end family (drop next t))
  past-family = by_parts t ∙ rw l.read

  pub job-formed : (operation : Operation) (nv : ℕ) (v v' : List ℕ) → EndAt (read_end (drop next t)) operation nv v v'
      → JobAt t modulus operation na nb nc nv a a' b b' c c' v v'
  job-formed operation nv v v' end = record {
    job = job_of family (record { operation = operation; curve = end.curve });
    read = past-family ∙ rw end.read;
    modulus_is = refl;
    operation_is = refl;
    a_stored = l.stored.in_a;
    b_stored = l.stored.in_b;
    c_stored = l.stored.in_c;
    curve_stored = end.stored;
  }

  pub job-malformed : ((end : End) → read_end (drop next t) ≡ got end [] → ⊥) → read_job t ≡ malformed
  job-malformed none = past-family ∙ cases (read_end (drop next t)) none
    where
      cases : (f : Front End) → ((end : End) → f ≡ got end [] → ⊥) → whole (then f (λ end rest. got (job_of family end) rest)) ≡ malformed
      cases (got end []) n = absurd (n end refl)
      cases (got end (x ∷ q)) n = refl
      cases bad n = refl
