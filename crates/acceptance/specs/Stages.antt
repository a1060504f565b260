-- The tests of a call, made stage by stage: the tests made so far have passed, and the others remain.
--   Remaining all rest   of the tests all, those before rest have passed: the verdict of all is that of rest
-- A stage is a part of the tests that a check answers for: its answer is the verdict of them. Proved: where a stage refuses, the call
-- does, whatever remains (stage-refuses); where it passes, the rest remains (stage-passes), and so where none of its tests holds
-- (none-remain); the answer of the last stage is that of the call (stages-end). Assumes nothing.
use Rattle.std.specs.Prelude.{◌≡◌, refl, List, [], ◌++◌, ℕ, Ok, Err}
use Rattle.std.proofs.Common.{sym, ◌∙◌, ap}
use Rattle.definitions.specs.Answers.{Answer, number_of, answered, after}
use Rattle.definitions.specs.Refusals.{Test, refused, verdict}
use Rattle.acceptance.specs.Verdicts.{None, verdict-finished, verdict-stops, verdict-goes-on}
use Rattle.definitions.specs.declared.Refusal.{Refusal}

pub record Remaining (all rest : List Test) : Type 0 where
  pub same : (values : List ℕ) → verdict rest values ≡ verdict all values

pub all-remain : {all : List Test} → Remaining all all
all-remain = record { same = λ values. refl }

-- tests that pass are behind
pub none-remain : {all : List Test} (stage rest : List Test) → Remaining all (stage ++ rest) → None stage → Remaining all rest
none-remain stage rest left none = record { same = λ values. sym (verdict-goes-on rest values stage none) ∙ left.same values }

-- what a check that passes says of its tests
pub stage-none : (stage : List Test) (r : Answer) → answered r ≡ verdict stage [] → r ≡ Ok tt → None stage
stage-none stage r is q = (verdict-finished stage []).0 (sym is ∙ ap answered q)

module _ {all : List Test} (stage rest : List Test) (left : Remaining all (stage ++ rest)) (r : Answer)
    (is : answered r ≡ verdict stage []) where
  -- whatever values the call would hand out
  pub stage-refuses-with : (values : List ℕ) (k : Refusal) → r ≡ Err k → refused (number_of k) ≡ verdict all values
  stage-refuses-with values k q = sym (verdict-stops rest values stage [] (number_of k) (sym is ∙ ap answered q)) ∙ left.same values

  pub stage-refuses : (k : Refusal) → r ≡ Err k → answered r ≡ verdict all []
  stage-refuses k q = ap answered q ∙ stage-refuses-with [] k q

  pub stage-passes : r ≡ Ok tt → Remaining all rest
  stage-passes q = none-remain stage rest left (stage-none stage r is q)

pub stages-end : {all : List Test} (stage : List Test) → Remaining all stage → (r : Answer) → answered r ≡ verdict stage []
    → answered r ≡ verdict all []
stages-end stage left r is = is ∙ left.same []

-- what a refusal leaves
pub list-stays : (r : Answer) (k : Refusal) (new old : List ℕ) → r ≡ Err k → old ≡ after (answered r) new old
list-stays r k new old q = sym (ap (λ x. after (answered x) new old) q)

-- what a call that finishes writes
pub list-new : (tests : List Test) → None tests → (new old : List ℕ) → after (verdict tests []) new old ≡ new
list-new tests none new old = ap (λ v. after v new old) ((verdict-finished tests []).1 none)
