-- A conversion by either way, and its working list.
-- Proved: each way keeps `Made`; a way's tests pass on what the tree way accepts, and where they pass the family is accepted and the
-- curve on it; a finished call leaves the working list as long as it was; clearing a cleared list changes nothing, so that of calls in
-- turn the last that clears decides.
-- Assumes nothing.
use Rattle.std.specs.Prelude.{◌≡◌, refl, List, [], ℕ, length, Ok, Err}
use Rattle.std.proofs.Common.{sym, ◌∙◌, ap}
use Rattle.definitions.specs.Answers.{Answer, answered, after, cleared, PlainCall, TreeCall}
use Rattle.definitions.specs.Family.{Family, Curve}
use Rattle.definitions.specs.Refusals.{verdict}
use Rattle.acceptance.specs.Acceptance.{PlainInput, TreeInput, plain_passes, tree-passes, tree-finished}
use Rattle.acceptance.specs.Verdicts.{None}
use Rattle.lists.specs.Entries.{cleared-length, cleared-twice}
use Rattle.laws.specs.Laws.{TwoCallsInput, way_tests, work_left, Made}
use Rattle.laws.specs.declared.Way.{Way}

module _ (convert : Family → List ℕ → List ℕ) (f : Family) (u : List ℕ) (r : Answer) (output output' work : List ℕ) where
  pub by-plain : PlainCall convert f u (answered r) output output'
      → Made convert Way.Plain f u r output output' work work
  by-plain made = record { answer = made.answer; written = made.written; worked = at r }
    where
      at : (x : Answer) → work ≡ after (answered x) work work
      at (Ok tt) = refl
      at (Err k) = refl

  pub by-tree : (work' : List ℕ) → TreeCall convert f u (answered r) output output' work work'
      → Made convert Way.Tree f u r output output' work work'
  by-tree work' made = record { answer = made.answer; written = made.written; worked = made.wiped }

-- ---- the tests of a way
module _ (f : Family) (u : List ℕ) (output work : ℕ) where
  pub way-input : (way : Way) → None (way_tests way f u output work) → PlainInput f u output
  way-input Way.Plain none = (plain_passes f u output).0 none
  way-input Way.Tree none = ((tree-passes f u output work).0 none).plain

  way-passes : (way : Way) → TreeInput f u output work → None (way_tests way f u output work)
  way-passes Way.Plain input = (plain_passes f u output).1 input.plain
  way-passes Way.Tree input = (tree-passes f u output work).1 input

-- two conversions in turn, the second on another curve of the family
pub two-calls-pass : (first second : Way) (f : Family) (u v one two work : List ℕ) → TwoCallsInput f u one two work → Curve f v
    → None (way_tests first f u (length one) (length work)) × None (way_tests second f v (length two) (length work))
two-calls-pass first second f u v one two work input curve = (
  way-passes f u (length one) (length work) first (record {
    plain = record { accepted = input.accepted; curve = input.curve; output_length = input.one_length };
    work_long = input.work_long;
  }),
  way-passes f v (length two) (length work) second (record {
    plain = record { accepted = input.accepted; curve = curve; output_length = input.two_length };
    work_long = input.work_long;
  }),
)

-- ---- the working list
pub cleared-after : (way : Way) (work : List ℕ) → cleared (work_left way work) ≡ cleared work
cleared-after Way.Plain work = refl
cleared-after Way.Tree work = cleared-twice work

pub work-length : (way : Way) (f : Family) (u : List ℕ) (r : Answer) (output : ℕ) (work : List ℕ)
    → answered r ≡ verdict (way_tests way f u output (length work)) [] → r ≡ Ok tt → length (work_left way work) ≡ length work
work-length Way.Plain f u r output work e q = refl
work-length Way.Tree f u r output work e q =
    cleared-length work ((tree-finished f u output (length work) []).0 (sym e ∙ ap answered q)).work_long
