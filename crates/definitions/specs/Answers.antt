-- What an answer says, and what each call promises on every input.
--   number_of k             the paper's number of a refusal
--   answered r, valued r    the verdict that an answer without and with a number tells: its values, or the number of its refusal
--   inverse_answered r      the same for Inverse, with inverse_handed r and factor_handed r, the numbers that it hands out: one or none
--   after v new old         what a lent list holds after the verdict v: new if finished, what it held if refused
--   after_factor v new old  what it holds that is to hold the greatest common factor: new if finished or refused with 13, or what it held
--   cleared work            the working list after an accepted call: 16,384 zeros and then what it held
--   Converted               the promise of a call without a working list;  ConvertedIn  of a call with one
--   InverseCall             of Inverse
--   PlainCall, TreeCall     of Expand, Adjoint and Decompose, by the plain way and by the tree way;  NormsCall, MomentsCall
-- The scope paper, 'Who causes which refusal' and the working list of 'The definitions', and item 5 of the change requests. Assumes nothing.
use Rattle.std.specs.Prelude.{◌≡◌, true, false, List, [], ◌∷◌, ◌++◌, ℕ, Result, Ok, Err, eqb, length, drop, replicate}
use Rattle.definitions.specs.Number.{inverse, greatest_factor}
use Rattle.definitions.specs.Family.{Family}
use Rattle.definitions.specs.Orthogonality.{moments, norms}
use Rattle.definitions.specs.Refusals.{Test, Verdict, finished, refused, verdict, work_length}
use Rattle.definitions.specs.Refusals.{plain_tests, tree_tests, moments_tests, norms_tests, inverse_tests}
use Rattle.definitions.specs.declared.NotInverted.{NotInverted}
use Rattle.definitions.specs.declared.Refusal.{Refusal}

-- what the calls answer: nothing, the length of a text, an inverse; or why not
abbrev pub Answer : Type 0
Answer = Result (Unit {0}) Refusal

abbrev pub Valued : Type 0
Valued = Result ℕ Refusal

abbrev pub InverseAnswer : Type 0
InverseAnswer = Result ℕ NotInverted

abbrev pub number_of : Refusal → ℕ
number_of Refusal.TextTooLong = 1
number_of Refusal.Malformed = 2
number_of Refusal.ModulusOutOfRange = 3
number_of Refusal.ListsDiffer = 4
number_of Refusal.TooManyRows = 5
number_of Refusal.CurveLength = 6
number_of Refusal.OutputLength = 7
number_of Refusal.WorkLength = 8
number_of Refusal.EntryNotBelow = 9
number_of Refusal.NoInverseA = 10
number_of Refusal.NoInverseC = 11
number_of Refusal.CurveEntryNotBelow = 12
number_of Refusal.NoInverse = 13
number_of Refusal.RecordWrong = 14
number_of Refusal.NoRows = 15
number_of Refusal.NoSuchRow = 16
number_of Refusal.ZeroA = 17
number_of Refusal.ZeroC = 18
number_of Refusal.ModuliShareFactor = 19
number_of Refusal.RemaindersDiffer = 20

abbrev pub answered : Answer → Verdict
answered (Ok _) = finished []
answered (Err k) = refused (number_of k)

abbrev pub valued : Valued → Verdict
valued (Ok x) = finished (x ∷ [])
valued (Err k) = refused (number_of k)

abbrev pub inverse_answered : InverseAnswer → Verdict
inverse_answered (Ok y) = finished []
inverse_answered (Err (NotInverted.Shares g)) = refused 13
inverse_answered (Err (NotInverted.Refused k)) = refused (number_of k)

abbrev pub inverse_handed : InverseAnswer → List ℕ
inverse_handed (Ok y) = y ∷ []
inverse_handed (Err e) = []

-- the factor of a number with an inverse is 1
abbrev pub factor_handed : InverseAnswer → List ℕ
factor_handed (Ok y) = 1 ∷ []
factor_handed (Err (NotInverted.Shares g)) = g ∷ []
factor_handed (Err (NotInverted.Refused k)) = []

abbrev pub after : Verdict → List ℕ → List ℕ → List ℕ
after (finished values) new old = new
after (refused k) new old = old

abbrev pub after_factor : Verdict → List ℕ → List ℕ → List ℕ
after_factor (finished values) new old = new
after_factor (refused k) new old = elim (eqb k 13) [ true ↦ new | false ↦ old ]

unfoldable pub cleared : List ℕ → List ℕ
cleared work = replicate work_length 0 ++ drop work_length work

-- tests: the call's tests; result: the definition's list; v: what the answer says; output and output': the output before and after
pub record Converted (tests : List Test) (result : List ℕ) (v : Verdict) (output output' : List ℕ) : Type 0 where
  pub answer : v ≡ verdict tests []
  pub written : output' ≡ after v result output

-- work and work': the working list before and after
pub record ConvertedIn (tests : List Test) (result : List ℕ) (v : Verdict) (output output' work work' : List ℕ) : Type 0 where
  pub answer : v ≡ verdict tests []
  pub written : output' ≡ after v result output
  pub wiped : work' ≡ after v (cleared work) work

-- v: what the answer says; inverses and inverses': the inverse before and after, and factors and factors' the factor: a list of one, or of
-- none where nothing is lent
pub record InverseCall (m x : ℕ) (v : Verdict) (inverses inverses' factors factors' : List ℕ) : Type 0 where
  pub answer : v ≡ verdict (inverse_tests m x) []
  pub written : inverses' ≡ after v (inverse m x ∷ []) inverses
  pub factor : factors' ≡ after_factor v (greatest_factor m x ∷ []) factors

-- the calls on a family f; convert is the definition of the conversion
abbrev pub PlainCall : (Family → List ℕ → List ℕ) → Family → List ℕ → Verdict → List ℕ → List ℕ → Type 0
PlainCall convert f u v output output' = Converted (plain_tests f u (length output)) (convert f u) v output output'

abbrev pub TreeCall : (Family → List ℕ → List ℕ) → Family → List ℕ → Verdict → List ℕ → List ℕ → List ℕ → List ℕ → Type 0
TreeCall convert f u v output output' work work' =
    ConvertedIn (tree_tests f u (length output) (length work)) (convert f u) v output output' work work'

abbrev pub NormsCall : Family → Verdict → List ℕ → List ℕ → Type 0
NormsCall f v output output' = Converted (norms_tests f (length output)) (norms f) v output output'

abbrev pub MomentsCall : Family → Verdict → List ℕ → List ℕ → List ℕ → List ℕ → Type 0
MomentsCall f v output output' work work' =
    ConvertedIn (moments_tests f (length output) (length work)) (moments f) v output output' work work'
