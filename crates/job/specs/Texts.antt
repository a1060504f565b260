-- The text call at each place where it answers.
--   Short t output work   test 1 has passed, and those of the form remain
-- Proved: what a refusal leaves, and what the finished kind does, is what the text call promises. Assumes nothing.
use Rattle.std.specs.Prelude.{true, ◌≡◌, refl, ℕ, ◌≤◌, length, take, replicate, Ok, Err}
use Rattle.std.proofs.Math.Bool.{false}
use mathlib.Core.List.{List, [], ◌∷◌, ◌++◌}
use Rattle.std.proofs.Math.Path.{sym, ap, subst}
use Rattle.std.proofs.Common.{◌∙◌, ap₂, arith, length-take}
use Rattle.std.proofs.lemmas.List.{length-replicate}
use Rattle.definitions.specs.Answers.{Answer, Valued, number_of, answered}
use Rattle.definitions.specs.Family.{Family, ones}
use Rattle.definitions.specs.Reading.{Read, found, malformed, read_job}
use Rattle.definitions.specs.Refusals.{Test, refused, verdict, test, value_tests}
use Rattle.definitions.specs.Text.{WrittenJob, meant, answer_text}
use Rattle.definitions.specs.TextCall.{text_length_test, size_tests, sizes_of, job_tests, form_tests, text_tests}
use Rattle.definitions.specs.TextCall.{converted, result, reply_to, reply, TextConverted}
use Rattle.definitions.specs.declared.Operation.{Operation}
use Rattle.acceptance.specs.Stages.{Remaining, all-remain, none-remain, stage-none, stage-refuses-with, stage-passes}
use Rattle.acceptance.specs.Verdicts.{None, verdict-here}
use Rattle.lists.specs.Lent.{lent}
use Rattle.verdicts.specs.Sizes.{Fits, sizes-fit, curve-few}
use Rattle.reader.specs.Storing.{Stored, kept-front}
use Rattle.form.specs.JobForm.{JobAt}
use Rattle.job.specs.Replies.{Ready, reply_text, Replied}
use Rattle.definitions.specs.declared.Refusal.{Refusal}

-- ---- a refusal, and the tests that are left
abbrev tests : List ℕ → List ℕ → List ℕ → List Test
tests t output work = text_tests t (length output) (length work)

abbrev formed : List ℕ → List ℕ → List ℕ → List Test
formed t output work = form_tests (read_job t) (length output) (length work)

pub record Short (t output work : List ℕ) : Type 0 where
  pub left : Remaining (tests t output work) (formed t output work)

module _ (t output work : List ℕ) where
  refused-text : (k : Refusal) → refused (number_of k) ≡ verdict (tests t output work) (length (reply t) ∷ [])
      → TextConverted t (Err k) output output work work
  refused-text k e = record { answer = e; written = refl; wiped = refl }

  module _ (r : Answer) (says : answered r ≡ verdict (text_length_test (length t) ∷ []) []) where
    pub too_long : (k : Refusal) → r ≡ Err k → (x : Valued) → x ≡ Err k → TextConverted t x output output work work
    unfolding text_tests
    too_long k q x is =
        rw is
        (refused-text k (stage-refuses-with (text_length_test (length t) ∷ []) (formed t output work) all-remain r says _ k q))

    pub short-text : r ≡ Ok tt → Short t output work
    unfolding text_tests
    short-text q = record { left = stage-passes (text_length_test (length t) ∷ []) (formed t output work) all-remain r says q }

  module _ (short : Short t output work) where
    left_as : (read : Read) → read_job t ≡ read → Remaining (tests t output work) (form_tests read (length output) (length work))
    left_as read e = subst (λ x. Remaining (tests t output work) (form_tests x (length output) (length work))) e short.left

    pub no-form : read_job t ≡ malformed → TextConverted t (Err Refusal.Malformed) output output work work
    unfolding form_tests
    no-form e = refused-text Refusal.Malformed (sym (verdict-here (test 2 true) [] _ refl) ∙ (left_as malformed e).same _)

    past-form : (w : WrittenJob) → read_job t ≡ found w → Remaining (tests t output work) (job_tests (meant w) (length output) (length work))
    unfolding form_tests
    past-form w e = none-remain (test 2 false ∷ []) (job_tests (meant w) (length output) (length work)) (left_as (found w) e) (refl, tt)

-- ---- the job's lists and its tests, in the words of the written job
same-sizes : (w : WrittenJob) (modulus : ℕ) (operation : Operation) (a b c curve output work : ℕ) → w.modulus ≡ modulus → w.operation ≡ operation
    → length w.a ≡ a → length w.b ≡ b → length w.c ≡ c → length w.curve ≡ curve
    → sizes_of w.operation (meant w).family w.curve output work ≡ size_tests modulus operation a b c curve output work
same-sizes w modulus operation a b c curve output work m o i j k l = rw (m, o, i, j, k, l)

front-room : (n : ℕ) (xs : List ℕ) → length (take n xs) ≡ n → n ≤ length xs
front-room n xs e = omega (arith, sym (length-take n xs) ∙ e)

-- a list that was read into 128 places, by the number of the rows
front-is : (xs : List ℕ) (n r : ℕ) (old list : List ℕ) → old ≡ replicate 128 0 → Stored xs n old list → n ≡ r → r ≤ 128 → take r list ≡ xs
front-is xs n r old list z s e h = rw (sym e) (kept-front xs n old list s (omega (arith, ap length z ∙ length-replicate {A = ℕ} 128 0)))

-- a₀, b₀, c₀ and v₀: the lists before they are read into, a, b, c and v after it
module _ (t : List ℕ) (modulus : ℕ) (operation : Operation) (na nb nc nv : ℕ) (a₀ a b₀ b c₀ c v₀ v output work : List ℕ)
    (short : Short t output work)
    (stands : JobAt t modulus operation na nb nc nv a₀ a b₀ b c₀ c v₀ v)
    (az : a₀ ≡ replicate 128 0) (bz : b₀ ≡ replicate 128 0) (cz : c₀ ≡ replicate 128 0) (vz : v₀ ≡ replicate 128 0) where
  abbrev w : WrittenJob
  w = stands.job

  abbrev sizes : List Test
  sizes = size_tests modulus operation na nb nc nv (length output) (length work)

  sizes-are : sizes_of w.operation (meant w).family w.curve (length output) (length work) ≡ sizes
  sizes-are =
      same-sizes w modulus operation na nb nc nv (length output) (length work) stands.modulus_is stands.operation_is
      stands.a_stored.count stands.b_stored.count stands.c_stored.count stands.curve_stored.count

  left : Remaining (tests t output work) (sizes ++ value_tests (meant w).family w.curve)
  unfolding job_tests
  left = subst (λ ts. Remaining (tests t output work) (ts ++ value_tests (meant w).family w.curve)) sizes-are
      (past-form t output work short w stands.read)

  module _ (r : Answer) (says : answered r ≡ verdict sizes []) where
    pub sizes-refused : (k : Refusal) → r ≡ Err k → (x : Valued) → x ≡ Err k → TextConverted t x output output work work
    sizes-refused k q x is =
        rw is (refused-text t output work k (stage-refuses-with sizes _ left r says _ k q))

    module _ (q : r ≡ Ok tt) where
      passed : None sizes
      passed = stage-none sizes r says q

      fits : Fits operation na nb nc nv (length output) (length work)
      fits = sizes-fit modulus operation na nb nc nv (length output) (length work) passed

      abbrev loaded : Family
      loaded = lent modulus na a b c ones

      family-is : loaded ≡ (meant w).family
      family-is =
          let x = front-is w.a na na a₀ a az stands.a_stored refl (omega (arith, fits.few)) in
          let y = front-is w.b nb na b₀ b bz stands.b_stored fits.b_rows (omega (arith, fits.few)) in
          let z = front-is w.c nc na c₀ c cz stands.c_stored fits.c_rows (omega (arith, fits.few)) in
          let m = stands.modulus_is in
          cc

      curve-is : take nv v ≡ w.curve
      curve-is = front-is w.curve nv nv v₀ v vz stands.curve_stored refl (omega (arith, fits.few, fits.curve, curve-few operation na))

      a-long : length (take na a) ≡ na
      a-long = ap (λ f. length f.a) family-is ∙ stands.a_stored.count

      b-long : length (take na b) ≡ nb
      b-long = ap (λ f. length f.b) family-is ∙ stands.b_stored.count

      c-long : length (take na c) ≡ nc
      c-long = ap (λ f. length f.c) family-is ∙ stands.c_stored.count

      curve-long : length (take nv v) ≡ nv
      curve-long = ap length curve-is ∙ stands.curve_stored.count

      pub ready : Ready operation modulus a b c na v nv output work
      ready = record {
        rows_front = record {
          a_long = front-room na a a-long;
          b_long = front-room na b (b-long ∙ fits.b_rows);
          c_long = front-room na c (c-long ∙ fits.c_rows);
        };
        curve_front = front-room nv v curve-long;
        passed = rw (a-long, b-long, c-long, curve-long) passed;
      }

      reply-is : reply t ≡ reply_text operation loaded (take nv v)
      unfolding reply reply_to result reply_text
      reply-is =
          ap reply_to stands.read ∙ ap (λ o. answer_text o (converted o (meant w).family w.curve)) stands.operation_is
          ∙ sym (ap₂ (λ f u. answer_text operation (converted operation f u)) family-is curve-is)

      values-left : Remaining (tests t output work) (value_tests loaded (take nv v))
      values-left = rw (family-is, curve-is) (stage-passes sizes _ left r says q)

      pub text-answered : (x : Valued) (output' work' : List ℕ) → Replied operation loaded (take nv v) x output output' work work'
          → TextConverted t x output output' work work'
      text-answered x output' work' p = record {
        answer = p.answer ∙ rw reply-is (values-left.same _);
        written = p.written ∙ rw reply-is;
        wiped = p.wiped;
      }
