-- Job texts: reading inverts writing both ways.
--   OfTheForm t   t is the text of a written job that is writable
-- Proved: the text of a writable job is read as that job (read-job); what is read as a job is the text of that job, and it is
-- writable (job_read); so a text is of the form exactly if it is read as a job (of-the-form), not of the form exactly if it is
-- malformed (not-of-the-form), and its job is the only one (written-unique).
-- Assumes nothing.
use Rattle.std.specs.Prelude.{◌≡◌, refl, List, [], ◌∷◌, ◌↔◌, ℕ}
use Rattle.std.proofs.Common.{sym, ◌∙◌, ap, arith}
use Rattle.definitions.specs.Text.{decimal, numbers, line, modulus_key, a_key, b_key, c_key, operation_key, curve_key, name}
use Rattle.definitions.specs.Text.{WrittenJob, Writable, job_text}
use Rattle.definitions.specs.Reading.{Front, Read, got, bad, found, malformed}
use Rattle.definitions.specs.Reading.{read_number, read_numbers, read_operation, read_line, whole, read_lines, read_job}
use Rattle.definitions.specs.declared.Operation.{Operation}
use Rattle.texts.specs.NumbersReading.{then-got}
use Rattle.texts.specs.LinesReading.{read-number-line, number-line-read, read-numbers-line, numbers-line-read}
use Rattle.texts.specs.LinesReading.{read-operation-line, operation-line-read}

found-not-malformed : (w : WrittenJob) → found w ≡ malformed → ⊥
found-not-malformed w e = let z : ◌≡◌ {A = ℕ} 0 1 = cc in omega arith

pub read-job : (w : WrittenJob) → Writable w → read_job (job_text w) ≡ found w
unfolding read_job read_lines job_text
read-job w h =
    let t₅ = line curve_key (numbers w.curve) [] in
    let t₄ = line operation_key (name w.operation) t₅ in
    let t₃ = line c_key (numbers w.c) t₄ in
    let t₂ = line b_key (numbers w.b) t₃ in
    let t₁ = line a_key (numbers w.a) t₂ in
    rw (
      read-number-line modulus_key w.modulus t₁ h.modulus,
      read-numbers-line a_key w.a t₂ h.a,
      read-numbers-line b_key w.b t₃ h.b,
      read-numbers-line c_key w.c t₄ h.c,
      read-operation-line w.operation t₅,
      read-numbers-line curve_key w.curve [] h.curve,
    )

-- the six lines of a job that was read, and the bytes after each
record LinesRead (t : List ℕ) (w : WrittenJob) (rest : List ℕ) : Type 0 where
  t₁ : List ℕ
  t₂ : List ℕ
  t₃ : List ℕ
  t₄ : List ℕ
  t₅ : List ℕ
  modulus : read_line modulus_key read_number t ≡ got w.modulus t₁
  a : read_line a_key read_numbers t₁ ≡ got w.a t₂
  b : read_line b_key read_numbers t₂ ≡ got w.b t₃
  c : read_line c_key read_numbers t₃ ≡ got w.c t₄
  operation : read_line operation_key read_operation t₄ ≡ got w.operation t₅
  curve : read_line curve_key read_numbers t₅ ≡ got w.curve rest

-- each part is a variable here, so that nothing large is compared
lines_of : (t : List ℕ) (w : WrittenJob) (rest : List ℕ) (m : ℕ) (a b c v : List ℕ) (o : Operation) (t₁ t₂ t₃ t₄ t₅ t₆ : List ℕ)
    → read_line modulus_key read_number t ≡ got m t₁ → read_line a_key read_numbers t₁ ≡ got a t₂ → read_line b_key read_numbers t₂ ≡ got b t₃
    → read_line c_key read_numbers t₃ ≡ got c t₄ → read_line operation_key read_operation t₄ ≡ got o t₅ → read_line curve_key read_numbers t₅ ≡ got v t₆
    → got (record { modulus = m; a = a; b = b; c = c; operation = o; curve = v }) t₆ ≡ got w rest → LinesRead t w rest
lines_of t w rest m a b c v o t₁ t₂ t₃ t₄ t₅ t₆ em ea eb ec eo ev e =
    let job : record { modulus = m; a = a; b = b; c = c; operation = o; curve = v } ≡ w = cc in
    let last : t₆ ≡ rest = cc in
    record {
      t₁ = t₁;
      t₂ = t₂;
      t₃ = t₃;
      t₄ = t₄;
      t₅ = t₅;
      modulus = em ∙ ap (λ (j : WrittenJob). got j.modulus t₁) job;
      a = ea ∙ ap (λ (j : WrittenJob). got j.a t₂) job;
      b = eb ∙ ap (λ (j : WrittenJob). got j.b t₃) job;
      c = ec ∙ ap (λ (j : WrittenJob). got j.c t₄) job;
      operation = eo ∙ ap (λ (j : WrittenJob). got j.operation t₅) job;
      curve = ev ∙ ap (λ (j : WrittenJob). got j.curve t₆) job ∙ ap (got w.curve) last;
    }

lines-read : (t : List ℕ) (w : WrittenJob) (rest : List ℕ) → read_lines t ≡ got w rest → LinesRead t w rest
unfolding read_lines
lines-read t w rest e =
    let g₁ = then-got (read_line modulus_key read_number t) _ w rest e in
    let g₂ = then-got (read_line a_key read_numbers g₁.1) _ w rest g₁.3 in
    let g₃ = then-got (read_line b_key read_numbers g₂.1) _ w rest g₂.3 in
    let g₄ = then-got (read_line c_key read_numbers g₃.1) _ w rest g₃.3 in
    let g₅ = then-got (read_line operation_key read_operation g₄.1) _ w rest g₄.3 in
    let g₆ = then-got (read_line curve_key read_numbers g₅.1) _ w rest g₅.3 in
    lines_of t w rest _ _ _ _ _ _ _ _ _ _ _ _ g₁.2 g₂.2 g₃.2 g₄.2 g₅.2 g₆.2 g₆.3

whole-found : (r : Front WrittenJob) (w : WrittenJob) → whole r ≡ found w → r ≡ got w []
whole-found (got v []) w e = same e
  where
    same : {v w : WrittenJob} → found v ≡ found w → got v [] ≡ got w []
    same e = cc
whole-found (got v (b ∷ t)) w e = absurd (found-not-malformed w (sym e))
whole-found bad w e = absurd (found-not-malformed w (sym e))

pub record JobOf (t : List ℕ) (w : WrittenJob) : Type 0 where
  pub text : job_text w ≡ t
  pub writable : Writable w

pub job_read : (t : List ℕ) (w : WrittenJob) → read_job t ≡ found w → JobOf t w
unfolding read_job job_text
job_read t w e =
    let l = lines-read t w [] (whole-found (read_lines t) w e) in
    let m = number-line-read modulus_key t w.modulus l.t₁ l.modulus in
    let a = numbers-line-read a_key l.t₁ w.a l.t₂ l.a in
    let b = numbers-line-read b_key l.t₂ w.b l.t₃ l.b in
    let c = numbers-line-read c_key l.t₃ w.c l.t₄ l.c in
    let o = operation-line-read l.t₄ w.operation l.t₅ l.operation in
    let v = numbers-line-read curve_key l.t₅ w.curve [] l.curve in
    record {
      text = sym (m.text
          ∙ ap (line modulus_key (decimal w.modulus)) (a.text
          ∙ ap (line a_key (numbers w.a)) (b.text
          ∙ ap (line b_key (numbers w.b)) (c.text
          ∙ ap (line c_key (numbers w.c)) (o
          ∙ ap (line operation_key (name w.operation)) v.text)))));
      writable = record { modulus = m.writable; a = a.writable; b = b.writable; c = c.writable; curve = v.writable };
    }

-- ---- what it is for a text to be of the form
pub record OfTheForm (t : List ℕ) : Type 0 where
  pub job : WrittenJob
  pub is : JobOf t job

pub written-unique : (v w : WrittenJob) → Writable v → Writable w → job_text v ≡ job_text w → v ≡ w
written-unique v w p q e = same (sym (read-job v p) ∙ ap read_job e ∙ read-job w q)
  where
    same : {v w : WrittenJob} → found v ≡ found w → v ≡ w
    same e = cc

pub of-the-form : (t : List ℕ) → ((w : WrittenJob) × (read_job t ≡ found w)) ↔ OfTheForm t
of-the-form t = (
  λ r. record { job = r.0; is = job_read t r.0 r.1 },
  λ f. (f.job, ap read_job (sym f.is.text) ∙ read-job f.job f.is.writable),
)

pub not-of-the-form : (t : List ℕ) → (read_job t ≡ malformed) ↔ (OfTheForm t → ⊥)
not-of-the-form t = (
  λ e f. let r = (of-the-form t).1 f in found-not-malformed r.0 (sym r.1 ∙ e),
  λ n. cases (read_job t) refl n,
)
  where
    cases : (r : Read) → read_job t ≡ r → (OfTheForm t → ⊥) → read_job t ≡ malformed
    cases (found w) e n = absurd (n ((of-the-form t).0 (w, e)))
    cases malformed e n = e
