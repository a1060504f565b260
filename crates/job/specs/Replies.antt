-- The answer text of an operation on lists whose sizes are in order.
--   Ready            the lists have the fronts that are taken for a family and a curve, and the tests on sizes pass
--   reply_text       the answer text of an operation on a family and a curve
--   Replied          what `answer` promises: the length of that text, which is written, or a refusal by the tests that are left
-- Proved: what the conversion and the writer leave is what is promised. Assumes nothing.
use Rattle.std.specs.Prelude.{List, [], ◌∷◌, ◌++◌, ◌≡◌, refl, ℕ, ◌-◌, ◌≤◌, length, take, drop, Ok, Err}
use Rattle.std.proofs.Common.{sym, ◌∙◌, ap₂, arith, length-take, length-append, length-take-le, take_at}
use Rattle.std.proofs.Math.Path.{ap}
use Rattle.std.proofs.Math.Nat.{sub-zero}
use Rattle.definitions.specs.Answers.{Answer, Valued, number_of, answered, valued, after, cleared}
use Rattle.definitions.specs.Family.{Family, ones}
use Rattle.definitions.specs.Refusals.{finished, refused, verdict, value_tests}
use Rattle.definitions.specs.Text.{answer_text}
use Rattle.definitions.specs.TextCall.{sizes_of, converted}
use Rattle.definitions.specs.declared.Operation.{Operation}
use Rattle.acceptance.specs.Stages.{stage-none}
use Rattle.acceptance.specs.Verdicts.{None, verdict-finished, with_values, verdict-values}
use Rattle.lists.specs.Lent.{lent, Long}
use Rattle.verdicts.specs.Sizes.{Fits, sizes-fit}
use Rattle.operations.specs.Results.{result_count, result-length, result-few}
use Rattle.operations.specs.Lists.{Parts, ConvertedFront, sized-by-tests}
use Rattle.writer.specs.Answer.{Room, AnswerWritten}
use Rattle.definitions.specs.declared.Refusal.{Refusal}

pub record Ready (operation : Operation) (m : ℕ) (a b c : List ℕ) (r : ℕ) (u : List ℕ) (entries : ℕ) (output work : List ℕ) : Type 0 where
  pub rows_front : Long r a b c
  pub curve_front : entries ≤ length u
  pub passed : None (sizes_of operation (lent m r a b c ones) (take entries u) (length output) (length work))

unfoldable pub reply_text : Operation → Family → List ℕ → List ℕ
reply_text operation f u = answer_text operation (converted operation f u)

pub record Replied (operation : Operation) (f : Family) (u : List ℕ) (r : Valued) (output output' work work' : List ℕ) : Type 0 where
  pub answer : valued r ≡ verdict (value_tests f u) (length (reply_text operation f u) ∷ [])
  pub written : output' ≡ after (valued r) (reply_text operation f u ++ drop (length (reply_text operation f u)) output) output
  pub wiped : work' ≡ after (valued r) (cleared work) work

module _ (operation : Operation) (m : ℕ) (a b c : List ℕ) (r : ℕ) (us : List ℕ) (entries : ℕ) (output work : List ℕ)
    (ready : Ready operation m a b c r us entries output work) where
  abbrev f : Family
  f = lent m r a b c ones

  abbrev u : List ℕ
  u = take entries us

  row_count : length (take r a) ≡ r
  row_count = length-take-le r a ready.rows_front.a_long

  fits : Fits operation (length (take r a)) (length (take r b)) (length (take r c)) (length u) (length output) (length work)
  fits = sizes-fit m operation _ _ _ _ (length output) (length work) ready.passed

  pub few-rows : r ≤ 127
  few-rows = omega (arith, fits.few, row_count)

  module _ (count : ℕ) (count_is : count ≡ result_count operation r) where
    count-few : count ≤ 255
    count-few = omega (arith, few-rows, result-few operation r)

    pub parts : (list : List ℕ) → 255 ≤ length list → Parts operation m a b c r us entries list count (length work)
    parts list l = record {
      rows_front = ready.rows_front;
      curve_front = ready.curve_front;
      output_front = omega (arith, count-few);
      sized = sized-by-tests operation f u (length output) (length work) count ready.passed (count_is ∙ ap (result_count operation) (sym row_count));
    }

    -- the conversion has answered, and its list stands at the front of list'
    module _ (tested : Answer) (list list' work' : List ℕ)
        (done : ConvertedFront operation f u count (answered tested) list list' work work') where
      pub values-refused : (k : Refusal) → tested ≡ Err k → (v : Valued) → v ≡ Err k → Replied operation f u v output output work work'
      values-refused k q v is =
          let n = length (reply_text operation f u) in
          let no : refused (number_of k) ≡ verdict (value_tests f u) (n ∷ []) =
          sym (verdict-values (n ∷ []) (value_tests f u) ∙ ap (with_values (n ∷ [])) (sym done.answer ∙ ap answered q)) in
          let stays : work' ≡ work = done.wiped ∙ ap (λ s. after (answered s) (cleared work) work) q in
          rw (is, stays) (record { answer = no; written = refl; wiped = refl })

      module _ (q : tested ≡ Ok tt) where
        stored : list' ≡ converted operation f u ++ drop count list
        stored = done.written ∙ ap (λ s. after (answered s) (converted operation f u ++ drop count list) list) q

        long : length (converted operation f u) ≡ count
        long = result-length operation f u ∙ ap (result_count operation) row_count ∙ sym count_is

        pub count_fits : count ≤ length list'
        count_fits = omega (arith, ap length stored ∙ length-append (converted operation f u) (drop count list), long)

        text-is : reply_text operation f u ≡ answer_text operation (take (count - 0) list')
        unfolding reply_text
        text-is = ap (answer_text operation) (sym (rw (sub-zero count, stored) (take_at (converted operation f u) (drop count list) count long)))

        pub replied : (n : ℕ) (output' : List ℕ) → AnswerWritten operation (take (count - 0) list') n output output'
            → Replied operation f u (Ok n) output output' work work'
        replied n output' p =
            let size : n ≡ length (reply_text operation f u) = p.answer ∙ ap length (sym text-is) in
            let none = stage-none (value_tests f u) tested done.answer q in
            record {
              answer = ap (λ k. finished (k ∷ [])) size ∙ sym ((verdict-finished (value_tests f u) _).1 none);
              written = p.written ∙ ap₂ (λ text k. text ++ drop k output) (sym text-is) size;
              wiped = done.wiped ∙ ap (λ s. after (answered s) (cleared work) work) q;
            }

    pub room : (list' : List ℕ) → Room output (take (count - 0) list')
    room list' = record { long = fits.text; few = omega (arith, length-take (count - 0) list', count-few) }
