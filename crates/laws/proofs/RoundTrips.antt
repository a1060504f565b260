-- Two calls, one there and one back, come to ThereAndBack.
-- Proved: where the first call refuses, the answer is its number and the other lists stay; where it finishes, the second is made of the list
-- that it handed out, and on an accepted family hands out the first list again. These rest on the law of RoundTripHolds, which an edit
-- of specs/ changes. Assumes nothing.
use Rattle.std.specs.Prelude.{◌≡◌, List, [], ◌++◌, ℕ, length, Ok, Err}
use Rattle.std.proofs.Common.{sym, ◌∙◌, ap}
use Rattle.definitions.specs.Answers.{Answer, answered, after}
use Rattle.definitions.specs.Family.{Family}
use Rattle.definitions.specs.Refusals.{Test, finished, verdict}
use Rattle.acceptance.specs.Verdicts.{None, verdict-finished, none-append}
use Rattle.laws.specs.ByWay.{two-calls-pass, work-length}
use Rattle.acceptance.specs.Stages.{all-remain, stage-refuses, stage-passes, stages-end, list-new}
use Rattle.laws.specs.Laws.{TwoCallsInput, RoundTripHolds, way_tests, work_left, Made, there_tests, back_tests, ThereAndBack}
use Rattle.laws.specs.declared.Way.{Way}
use Rattle.laws.specs.RoundTrips.{Undoes}
use Rattle.definitions.specs.declared.Refusal.{Refusal}

-- ---- two calls
module _ {there back : Family → List ℕ → List ℕ} (undoes : Undoes there back) (first second : Way) (f : Family)
    (u one one' two work w₁ : List ℕ) (s : Answer) (made₁ : Made there first f u s one one' work w₁) where
  abbrev T₁ : List Test
  T₁ = there_tests there back first second f u one work

  abbrev later : List Test
  later = back_tests there back first second f u two work

  first-is : one' ≡ after (verdict T₁ []) (there f u) one
  first-is = made₁.written ∙ ap (λ v. after v (there f u) one) made₁.answer

  first-worked : w₁ ≡ after (verdict T₁ []) (work_left first work) work
  first-worked = made₁.worked ∙ ap (λ v. after v (work_left first work) work) made₁.answer

  round_trip : (r : Answer) (two' : List ℕ) → answered r ≡ verdict (T₁ ++ later) [] → two' ≡ after (answered r) (back f one') two
      → TwoCallsInput f u one two work → RoundTripHolds there f u r one' two'
  round_trip r two' e w input =
      let there-curve = undoes.curve f input.accepted u in
      let none : None T₁ × None later = two-calls-pass first second f u (there f u) one two work input there-curve in
      let done : answered r ≡ finished [] = e ∙ (verdict-finished (T₁ ++ later) []).1 ((none-append T₁ later).1 none) in
      let new : one' ≡ there f u = first-is ∙ list-new T₁ none.0 (there f u) one in
      record {
        finishes = done;
        first_is = new;
        law = w ∙ ap (λ v. after v (back f one') two) done ∙ ap (back f) new ∙ undoes.undone f input.accepted u input.curve;
      }

  pub first-refused : (k : Refusal) → s ≡ Err k → ThereAndBack there back first second f u s one one' two two work w₁
  first-refused k q =
      let e = stage-refuses T₁ later all-remain s made₁.answer k q in
      let stays = sym (ap (λ x. after (answered x) (back f one') two) q) in
      record {
        answer = e;
        first_is = first-is;
        second_is = stays;
        worked = first-worked ∙ sym (ap
            (λ x. after (answered x) (work_left second (work_left first work)) (after (verdict T₁ []) (work_left first work) work)) q);
        holds = round_trip s two e stays;
      }

  module _ (q : s ≡ Ok tt) (r : Answer) (two' w₂ : List ℕ) (made₂ : Made back second f one' r two two' w₁ w₂) where
    handed : one' ≡ there f u
    handed = made₁.written ∙ ap (λ x. after (answered x) (there f u) one) q

    left : w₁ ≡ work_left first work
    left = made₁.worked ∙ ap (λ x. after (answered x) (work_left first work) work) q

    length-left : length w₁ ≡ length work
    length-left = ap length left ∙ work-length first f u s (length one) work made₁.answer q

    tests-are : way_tests second f one' (length two) (length w₁) ≡ later
    tests-are = ap (λ v. way_tests second f v (length two) (length w₁)) handed
        ∙ ap (λ k. way_tests second f (there f u) (length two) k) length-left

    pub both-made : ThereAndBack there back first second f u r one one' two two' work w₂
    both-made =
        let e = stages-end later (stage-passes T₁ later all-remain s made₁.answer q) r (made₂.answer ∙ ap (λ ts. verdict ts []) tests-are) in
        record {
          answer = e;
          first_is = first-is;
          second_is = made₂.written;
          worked = made₂.worked ∙ ap (λ w. after (answered r) (work_left second w) w₁) left
              ∙ ap (λ w. after (answered r) (work_left second (work_left first work)) w) first-worked;
          holds = round_trip r two' e made₂.written;
        }
