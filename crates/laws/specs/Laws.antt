-- The laws over the calls, as the functions of this crate promise them: all that is to be believed of `laws`, and nothing proved.
-- The laws, each over the very lists that the calls hand out, on an accepted family:
--   Lists              the lists that the calls of the product law write: as they are lent, or as they are handed out
--   ProductLawInput    any two curves on an accepted family, and lists as long as their calls ask
--   ProductLawHolds    demand 3: the calls finish, each list is the definition's, and the product law holds of those lists
--   TwoCallsInput      a curve on an accepted family, and lists as long as two conversions ask
--   RoundTripHolds     both conversions finish, and the second hands out what the first was lent
--   WaysAgree          both ways finish, and hand out the same list
-- The promises, on every input: the answer is the verdict of the calls' tests in turn, each list is the definition's from a call that
-- finished and what it held before from every other, and on the input above the law holds:
--   Made               of one conversion by the way that is asked for
--   ThereAndBack, Agreed   of two conversions, back and forth or by both ways
--   HandedOut          of Expand for u and for v, Moments and Norms;  Weighed  of these and the two totals
-- The scope paper, 'The definitions'. Assumes nothing.
use Rattle.std.specs.Prelude.{◌≡◌, List, [], ◌∷◌, ◌++◌, ℕ, ◌≤◌, length}
use Rattle.std.specs.Prelude.{Result, Ok, Err}
use Rattle.definitions.specs.declared.Refusal.{Refusal}
use Rattle.definitions.specs.Answers.{Answer, number_of, answered, after, cleared}
use Rattle.definitions.specs.Conversion.{expand}
use Rattle.definitions.specs.Family.{Family, Accepted, Curve, size}
use Rattle.definitions.specs.Orthogonality.{moments, moment_count, norms, moment_total, norm_total, ProductLaw}
use Rattle.definitions.specs.Refusals.{Test, Verdict, finished, refused, verdict, work_length, plain_tests, tree_tests, moments_tests}
use Rattle.definitions.specs.Refusals.{norms_tests}
use Rattle.laws.specs.declared.Way.{Way}

-- ---- demand 3: the product law
-- s and t for what Expand hands out for u and for v, moment and norm for the moments and the norms, and the working list
pub record Lists : Type 0 where
  pub s : List ℕ
  pub t : List ℕ
  pub moment : List ℕ
  pub norm : List ℕ
  pub work : List ℕ

abbrev pub lists : (s t moment norm work : List ℕ) → Lists
lists s t moment norm work = record { s = s; t = t; moment = moment; norm = norm; work = work }

pub record ProductLawInput (f : Family) (u v : List ℕ) (lent : Lists) : Type 0 where
  pub accepted : Accepted f
  pub u_curve : Curve f u
  pub v_curve : Curve f v
  pub s_length : length lent.s ≡ size f
  pub t_length : length lent.t ≡ size f
  pub moment_length : length lent.moment ≡ moment_count f
  pub norm_length : length lent.norm ≡ size f
  pub work_long : work_length ≤ length lent.work

-- what the product law answers: the total by the moments and the total by the norms, or the refusal of the call that refused
abbrev pub Totals : Type 0
Totals = Result (ℕ × ℕ) Refusal

abbrev pub told : Totals → Verdict
told (Ok (x, y)) = finished (x ∷ y ∷ [])
told (Err k) = refused (number_of k)

-- the uncut product weighed with the moments, and the products of the entries weighed with the norms
abbrev pub both_totals : Family → (u v : List ℕ) → Lists → List ℕ
both_totals f u v l = moment_total f.m (size f) l.s l.t l.moment ∷ norm_total f.m (size f) u v l.norm ∷ []

pub record ProductLawHolds (f : Family) (u v : List ℕ) (r : Totals) (lent handed : Lists) : Type 0 where
  pub finishes : told r ≡ finished (both_totals f u v handed)
  pub s_is : handed.s ≡ expand f u
  pub t_is : handed.t ≡ expand f v
  pub moments_are : handed.moment ≡ moments f
  pub norms_are : handed.norm ≡ norms f
  pub wiped : handed.work ≡ cleared lent.work
  pub law : ProductLaw f u v handed.s handed.t handed.moment handed.norm

-- ---- demand 2: the round trips, and both ways
-- one and two are the outputs of the two conversions; primes mark a list as the calls leave it
pub record TwoCallsInput (f : Family) (u one two work : List ℕ) : Type 0 where
  pub accepted : Accepted f
  pub curve : Curve f u
  pub one_length : length one ≡ size f
  pub two_length : length two ≡ size f
  pub work_long : work_length ≤ length work

pub record RoundTripHolds (there : Family → List ℕ → List ℕ) (f : Family) (u : List ℕ) (r : Answer) (one' two' : List ℕ) : Type 0 where
  pub finishes : answered r ≡ finished []
  pub first_is : one' ≡ there f u
  pub law : two' ≡ u

pub record WaysAgree (convert : Family → List ℕ → List ℕ) (f : Family) (u : List ℕ) (r : Answer) (plain' tree' : List ℕ) : Type 0 where
  pub finishes : answered r ≡ finished []
  pub plain_is : plain' ≡ convert f u
  pub law : tree' ≡ plain'

-- ---- a conversion by either way, on every input
abbrev pub way_tests : Way → Family → List ℕ → ℕ → ℕ → List Test
way_tests Way.Plain f u output work = plain_tests f u output
way_tests Way.Tree f u output work = tree_tests f u output work

-- what a finished call leaves of the working list: the plain way does not touch it
abbrev pub work_left : Way → List ℕ → List ℕ
work_left Way.Plain work = work
work_left Way.Tree work = cleared work

pub record Made (convert : Family → List ℕ → List ℕ) (way : Way) (f : Family) (u : List ℕ) (r : Answer)
    (output output' work work' : List ℕ) : Type 0 where
  pub answer : answered r ≡ verdict (way_tests way f u (length output) (length work)) []
  pub written : output' ≡ after (answered r) (convert f u) output
  pub worked : work' ≡ after (answered r) (work_left way work) work

-- ---- the round trips, on every input
module _ (there back : Family → List ℕ → List ℕ) (first second : Way) (f : Family) (u : List ℕ) where
  -- the first call's tests, and then those of the second on what the first hands out
  abbrev pub there_tests : (one work : List ℕ) → List Test
  there_tests one work = way_tests first f u (length one) (length work)

  abbrev pub back_tests : (two work : List ℕ) → List Test
  back_tests two work = way_tests second f (there f u) (length two) (length work)

  pub record ThereAndBack (r : Answer) (one one' two two' work work' : List ℕ) : Type 0 where
    pub answer : answered r ≡ verdict (there_tests one work ++ back_tests two work) []
    pub first_is : one' ≡ after (verdict (there_tests one work) []) (there f u) one
    pub second_is : two' ≡ after (answered r) (back f one') two
    pub worked : work' ≡ after (answered r) (work_left second (work_left first work))
        (after (verdict (there_tests one work) []) (work_left first work) work)
    pub holds : TwoCallsInput f u one two work → RoundTripHolds there f u r one' two'

-- ---- both ways, on every input
pub record Agreed (convert : Family → List ℕ → List ℕ) (f : Family) (u : List ℕ) (r : Answer)
    (plain plain' tree tree' work work' : List ℕ) : Type 0 where
  pub answer : answered r ≡ verdict (plain_tests f u (length plain) ++ tree_tests f u (length tree) (length work)) []
  pub plain_is : plain' ≡ after (verdict (plain_tests f u (length plain)) []) (convert f u) plain
  pub tree_is : tree' ≡ after (answered r) (convert f u) tree
  pub wiped : work' ≡ after (answered r) (cleared work) work
  pub holds : TwoCallsInput f u plain tree work → WaysAgree convert f u r plain' tree'

-- ---- the calls of the product law, on every input
module _ (first second : Way) (f : Family) (u v : List ℕ) (lent : Lists) where
  -- the tests up to each call
  abbrev pub tests₁ : List Test
  tests₁ = way_tests first f u (length lent.s) (length lent.work)

  abbrev pub tests₂ : List Test
  tests₂ = tests₁ ++ way_tests second f v (length lent.t) (length lent.work)

  abbrev pub tests₃ : List Test
  tests₃ = tests₂ ++ moments_tests f (length lent.moment) (length lent.work)

  abbrev pub law_tests : List Test
  law_tests = tests₃ ++ norms_tests f (length lent.norm)

  -- the working list after each call that is lent it
  abbrev pub work₁ : List ℕ
  work₁ = after (verdict tests₁ []) (work_left first lent.work) lent.work

  abbrev pub work₂ : List ℕ
  work₂ = after (verdict tests₂ []) (work_left second work₁) work₁

  abbrev pub work₃ : List ℕ
  work₃ = after (verdict tests₃ []) (cleared work₂) work₂

  pub record ListsHanded (handed : Lists) : Type 0 where
    pub s_is : handed.s ≡ after (verdict tests₁ []) (expand f u) lent.s
    pub t_is : handed.t ≡ after (verdict tests₂ []) (expand f v) lent.t
    pub moments_are : handed.moment ≡ after (verdict tests₃ []) (moments f) lent.moment
    pub norms_are : handed.norm ≡ after (verdict law_tests []) (norms f) lent.norm
    pub worked : handed.work ≡ work₃

  pub record HandedOut (r : Answer) (handed : Lists) : Type 0 where
    pub answer : answered r ≡ verdict law_tests []
    pub lists : ListsHanded handed

  pub record Weighed (r : Totals) (handed : Lists) : Type 0 where
    pub answer : told r ≡ verdict law_tests (both_totals f u v handed)
    pub lists : ListsHanded handed
    pub holds : ProductLawInput f u v lent → ProductLawHolds f u v r lent handed
