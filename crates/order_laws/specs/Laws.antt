-- The laws over the calls that put a list in another order, as the functions of this crate promise them: all that is to be believed of
-- `order_laws`, and nothing proved. Each is over the very lists that the calls hand out.
--   OrderTrip      the promise of the call by a direction and then of the other: the answer is the verdict of their tests in turn; the first
--                  list is the one that was lent, in the order of the first call, and the second that one in the order of the other, each
--                  where its call finished, and what it held where that was refused or not made
--   TripHolds      on at most 128 numbers and lists as long, both finish, and the second hands out what the first was lent
--   EvenExpanded   the promise of Expand by a way and then of Even first: the same of their tests and lists
--   ZerosHold      on an accepted family without b, a curve on it and lists as long as the calls ask, both finish; of a curve with only even
--                  entries the odd part of the list handed out is zeros, and of one with only odd entries the even part
-- Item 7 of the change requests. Assumes nothing.
use Rattle.std.specs.Prelude.{List, [], ◌++◌, ◌≡◌, ℕ, ◌-◌, ◌≤◌, length, replicate}
use Rattle.definitions.specs.Answers.{after}
use Rattle.definitions.specs.Conversion.{expand}
use Rattle.definitions.specs.Family.{Family, size}
use Rattle.definitions.specs.Refusals.{Verdict, finished, verdict}
use Rattle.laws.specs.Laws.{TwoCallsInput, way_tests, work_left}
use Rattle.laws.specs.declared.Way.{Way}
use Rattle.storing.specs.Calls.{most_entries, order_tests}
use Rattle.storing.specs.Order.{half, even_first, arranged, opposite}
use Rattle.storing.specs.Parity.{NoB, OnlyEven, OnlyOdd, even_part, odd_part}
use Rattle.storing.specs.declared.Direction.{Direction}

-- ---- either after the other; one and two are the outputs of the two calls, and primes mark a list as the calls leave it
pub record TripHolds (d : Direction) (xs : List ℕ) (v : Verdict) (one' two' : List ℕ) : Type 0 where
  pub finishes : v ≡ finished []
  pub first_is : one' ≡ arranged d xs
  pub law : two' ≡ xs

module _ (d : Direction) (xs : List ℕ) where
  pub record OrderTrip (v : Verdict) (one one' two two' : List ℕ) : Type 0 where
    pub answer : v ≡ verdict (order_tests (length xs) (length one) ++ order_tests (length xs) (length two)) []
    pub first_is : one' ≡ after (verdict (order_tests (length xs) (length one)) []) (arranged d xs) one
    pub second_is : two' ≡ after v (arranged (opposite d) one') two
    pub holds : length xs ≤ most_entries → length one ≡ length xs → length two ≡ length xs → TripHolds d xs v one' two'

-- ---- zeros
pub record ZerosHold (f : Family) (u : List ℕ) (v : Verdict) (expanded' output' : List ℕ) : Type 0 where
  pub finishes : v ≡ finished []
  pub expanded_is : expanded' ≡ expand f u
  pub output_is : output' ≡ even_first (expand f u)
  pub even_curve : OnlyEven u → odd_part output' ≡ replicate (size f - half (size f)) 0
  pub odd_curve : OnlyOdd u → even_part output' ≡ replicate (half (size f)) 0

module _ (way : Way) (f : Family) (u : List ℕ) where
  pub record EvenExpanded (v : Verdict) (expanded expanded' output output' work work' : List ℕ) : Type 0 where
    pub answer : v ≡ verdict (way_tests way f u (length expanded) (length work) ++ order_tests (size f) (length output)) []
    pub expanded_is : expanded' ≡ after (verdict (way_tests way f u (length expanded) (length work)) []) (expand f u) expanded
    pub output_is : output' ≡ after v (even_first (expand f u)) output
    pub worked : work' ≡ after (verdict (way_tests way f u (length expanded) (length work)) []) (work_left way work) work
    pub holds : TwoCallsInput f u expanded output work → NoB f → ZerosHold f u v expanded' output'
