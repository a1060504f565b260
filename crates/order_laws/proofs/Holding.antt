-- Why the laws over the calls that put a list in another order hold: each list handed out is its definition, and so is what holds of the
-- definitions.
-- Proved: a call and then the other come to OrderTrip, and Expand and then Even first to EvenExpanded, whichever call refuses. These rest on
-- the laws of specs/, which edits change. Assumes nothing.
use Rattle.std.specs.Prelude.{List, [], ◌++◌, ◌≡◌, ℕ, ◌*◌, ◌%◌, ◌≤◌, get_or, Ok, Err}
use Rattle.std.proofs.Common.{sym, ◌∙◌, arith}
use Rattle.std.proofs.Math.Path.{ap}
use Rattle.std.proofs.Math.ListN.{length}
use Rattle.definitions.specs.Answers.{Answer, answered, after}
use Rattle.definitions.specs.Conversion.{expand}
use Rattle.definitions.specs.Family.{Family, Accepted, size, F}
use Rattle.definitions.specs.Number.{sum}
use Rattle.definitions.specs.Refusals.{Test, finished, verdict}
use Rattle.acceptance.specs.Stages.{all-remain, stage-refuses, stage-passes, stages-end, list-new, list-stays}
use Rattle.acceptance.specs.Verdicts.{None, verdict-finished, none-append}
use Rattle.laws.specs.ByWay.{two-calls-pass}
use Rattle.laws.specs.Laws.{TwoCallsInput, way_tests, work_left, Made}
use Rattle.laws.specs.declared.Way.{Way}
use Rattle.numbers.specs.Lists.{table-length}
use Rattle.order_calls.specs.Accepting.{order-passes}
use Rattle.parity.specs.Orders.{arranged-length, arranged-back}
use Rattle.parity.specs.Zeros.{expand-zero, odd-part-zero, even-part-zero}
use Rattle.storing.specs.Calls.{most_entries, order_tests, OrderCall}
use Rattle.storing.specs.Order.{even_first, arranged, opposite}
use Rattle.storing.specs.Parity.{NoB}
use Rattle.storing.specs.declared.Direction.{Direction}
use Rattle.order_laws.specs.Laws.{TripHolds, OrderTrip, ZerosHold, EvenExpanded}
use Rattle.definitions.specs.declared.Refusal.{Refusal}

-- ---- either after the other
module _ (d : Direction) (xs one one' two : List ℕ) (s : Answer) (made₁ : OrderCall d xs (answered s) one one') where
  abbrev T₁ : List Test
  T₁ = order_tests (length xs) (length one)

  abbrev later : List Test
  later = order_tests (length xs) (length two)

  first-is : one' ≡ after (verdict T₁ []) (arranged d xs) one
  first-is = made₁.written ∙ ap (λ v. after v (arranged d xs) one) made₁.answer

  trip-holds : (r : Answer) (two' : List ℕ) → answered r ≡ verdict (T₁ ++ later) []
      → two' ≡ after (answered r) (arranged (opposite d) one') two
      → length xs ≤ most_entries → length one ≡ length xs → length two ≡ length xs → TripHolds d xs (answered r) one' two'
  trip-holds r two' e w few one_long two_long =
      let none₁ : None T₁ = (order-passes (length xs) (length one)).1 (record { few = few; output_length = one_long }) in
      let none₂ : None later = (order-passes (length xs) (length two)).1 (record { few = few; output_length = two_long }) in
      let done : answered r ≡ finished [] = e ∙ (verdict-finished (T₁ ++ later) []).1 ((none-append T₁ later).1 (none₁, none₂)) in
      let new : one' ≡ arranged d xs = first-is ∙ list-new T₁ none₁ (arranged d xs) one in
      record {
        finishes = done;
        first_is = new;
        law = w ∙ ap (λ v. after v (arranged (opposite d) one') two) done ∙ ap (arranged (opposite d)) new ∙ arranged-back d xs;
      }

  pub trip-refused : (k : Refusal) → s ≡ Err k → OrderTrip d xs (answered s) one one' two two
  trip-refused k q =
      let e = stage-refuses T₁ later all-remain s made₁.answer k q in
      let stays = list-stays s k (arranged (opposite d) one') two q in
      record { answer = e; first_is = first-is; second_is = stays; holds = trip-holds s two e stays }

  module _ (q : s ≡ Ok tt) (r : Answer) (two' : List ℕ) (made₂ : OrderCall (opposite d) one' (answered r) two two') where
    handed : one' ≡ arranged d xs
    handed = made₁.written ∙ ap (λ x. after (answered x) (arranged d xs) one) q

    long : length one' ≡ length xs
    long = ap length handed ∙ arranged-length d xs

    pub trip-made : OrderTrip d xs (answered r) one one' two two'
    trip-made =
        let e = stages-end later (stage-passes T₁ later all-remain s made₁.answer q) r
        (made₂.answer ∙ ap (λ n. verdict (order_tests n (length two)) []) long) in
        record { answer = e; first_is = first-is; second_is = made₂.written; holds = trip-holds r two' e made₂.written }

-- ---- zeros
expand-length : (f : Family) (u : List ℕ) → length (expand f u) ≡ size f
unfolding expand
expand-length f u = table-length (size f) (λ i. sum (size f) (λ j. get_or u j 0 * F f j i) % f.m)

module _ (way : Way) (f : Family) (u expanded expanded' output work work' : List ℕ) (s : Answer)
    (made₁ : Made expand way f u s expanded expanded' work work') where
  abbrev E₁ : List Test
  E₁ = way_tests way f u (length expanded) (length work)

  abbrev afterwards : List Test
  afterwards = order_tests (size f) (length output)

  expanded-is : expanded' ≡ after (verdict E₁ []) (expand f u) expanded
  expanded-is = made₁.written ∙ ap (λ v. after v (expand f u) expanded) made₁.answer

  worked-is : work' ≡ after (verdict E₁ []) (work_left way work) work
  worked-is = made₁.worked ∙ ap (λ v. after v (work_left way work) work) made₁.answer

  zeros-hold : (r : Answer) (output' : List ℕ) → answered r ≡ verdict (E₁ ++ afterwards) []
      → output' ≡ after (answered r) (even_first (expand f u)) output → TwoCallsInput f u expanded output work → NoB f
      → ZerosHold f u (answered r) expanded' output'
  zeros-hold r output' e w input no_b =
      let accepted : Accepted f = input.accepted in
      let long : length (expand f u) ≡ size f = expand-length f u in
      let none₁ : None E₁ = (two-calls-pass way way f u u expanded output work input input.curve).0 in
      let none₂ : None afterwards = (order-passes (size f) (length output)).1
      (record { few = omega (arith, accepted.row_count); output_length = input.two_length }) in
      let done : answered r ≡ finished [] = e ∙ (verdict-finished (E₁ ++ afterwards) []).1 ((none-append E₁ afterwards).1 (none₁, none₂)) in
      let is : output' ≡ even_first (expand f u) = w ∙ ap (λ v. after v (even_first (expand f u)) output) done in
      record {
        finishes = done;
        expanded_is = expanded-is ∙ list-new E₁ none₁ (expand f u) expanded;
        output_is = is;
        even_curve = λ only. rw (is, sym long) (odd-part-zero (expand f u)
            (λ i h. expand-zero f accepted.b_length no_b u input.curve.long 1 only i (omega (arith, long))));
        odd_curve = λ only. rw (is, sym long) (even-part-zero (expand f u)
            (λ i h. expand-zero f accepted.b_length no_b u input.curve.long 0 only i (omega (arith, long))));
      }

  pub expand-refused : (k : Refusal) → s ≡ Err k → EvenExpanded way f u (answered s) expanded expanded' output output work work'
  expand-refused k q =
      let e = stage-refuses E₁ afterwards all-remain s made₁.answer k q in
      let stays = list-stays s k (even_first (expand f u)) output q in
      record { answer = e; expanded_is = expanded-is; output_is = stays; worked = worked-is; holds = zeros-hold s output e stays }

  module _ (q : s ≡ Ok tt) (r : Answer) (output' : List ℕ)
      (made₂ : OrderCall Direction.EvenFirst expanded' (answered r) output output') where
    handed_out : expanded' ≡ expand f u
    handed_out = made₁.written ∙ ap (λ x. after (answered x) (expand f u) expanded) q

    pub expand-made : EvenExpanded way f u (answered r) expanded expanded' output output' work work'
    unfolding arranged
    expand-made =
        let long : length expanded' ≡ size f = ap length handed_out ∙ expand-length f u in
        let e = stages-end afterwards (stage-passes E₁ afterwards all-remain s made₁.answer q) r
        (made₂.answer ∙ ap (λ n. verdict (order_tests n (length output)) []) long) in
        let w = made₂.written ∙ ap (λ ys. after (answered r) (even_first ys) output) handed_out in
        record { answer = e; expanded_is = expanded-is; output_is = w; worked = worked-is; holds = zeros-hold r output' e w }
