-- What a call promises, from the answer of its tests.
-- Proved: where they refuse, the promise is kept with the lent lists as they were; where they pass, with the definition's list in the
-- output, and the working list cleared where there is one. Assumes nothing.
use Rattle.std.specs.Prelude.{◌≡◌, List, [], ℕ, Ok, Err}
use Rattle.std.proofs.Common.{sym, ◌∙◌, ap}
use Rattle.definitions.specs.Answers.{Answer, answered, cleared, Converted, ConvertedIn}
use Rattle.definitions.specs.Refusals.{Test, finished, verdict}
use Rattle.acceptance.specs.Stages.{list-stays}
use Rattle.definitions.specs.declared.Refusal.{Refusal}

-- ---- a call without a working list
module _ (tests : List Test) (r : Answer) (is : answered r ≡ verdict tests []) where
  pub tests-refuse : {result output : List ℕ} (k : Refusal) → r ≡ Err k → Converted tests result (answered r) output output
  tests-refuse {result} {output} k q = record { answer = is; written = list-stays r k result output q }

  pub tests-passed : r ≡ Ok tt → finished [] ≡ verdict tests []
  tests-passed q = sym (ap answered q) ∙ is

  pub tests-finish : {result output output' : List ℕ} → r ≡ Ok tt → output' ≡ result
      → Converted tests result (answered (Ok tt)) output output'
  tests-finish q e = record { answer = tests-passed q; written = e }

-- ---- a call with one
module _ {tests : List Test} {result output work : List ℕ} {r : Answer} (is : answered r ≡ verdict tests []) where
  pub both-kept : {k : Refusal} → r ≡ Err k → ConvertedIn tests result (answered r) output output work work
  both-kept {k} q = record { answer = is; written = list-stays r k result output q; wiped = list-stays r k (cleared work) work q }

  pub both-made : {output' work' : List ℕ} → r ≡ Ok tt → output' ≡ result → work' ≡ cleared work
      → ConvertedIn tests result (answered (Ok tt)) output output' work work'
  both-made q written wiped = record { answer = tests-passed tests r is q; written = written; wiped = wiped }
