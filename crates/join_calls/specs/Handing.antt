-- What a call on two moduli promises, from the answer of the tests of its moduli and from that of the tests after them.
-- Proved, whatever those are: where a test refuses the output is what it was; where all pass, and the definition's list was written, the
-- call has finished. Of Join: where its tests pass, its lists are as joining asks. Assumes nothing.
use mathlib.Core.List.{List, [], ◌∷◌, ◌++◌}
use Rattle.std.specs.Prelude.{◌≡◌, refl, ℕ, ℤ, length, take, Ok, Err, IsErrAnd}
use Rattle.std.proofs.Common.{sym, ◌∙◌, ap, ap₂, subst, arith, take_all}
use Rattle.definitions.specs.Answers.{Answer, number_of, answered}
use Rattle.definitions.specs.Refusals.{Test, finished, refused, verdict, output_test, curve_entries_test}
use Rattle.acceptance.specs.Stages.{Remaining, all-remain, none-remain, stage-none, stages-end}
use Rattle.acceptance.specs.Verdicts.{none-append, verdict-stops}
use Rattle.checks.specs.Settling.{refuses}
use Rattle.joining.specs.Whole.{joined_list}
use Rattle.joining.specs.Calls.{remainders_test, moduli_tests, list_tests, join_tests, wholes_after, WholesHanded}
use Rattle.wholes.specs.Accepting.{JoinInput, remainders-pass, join-passes}
use Rattle.join.specs.Joining.{Paired, Remainders}
use Rattle.definitions.specs.declared.Refusal.{Refusal}
use Rattle.join_calls.specs.Pairs.{pair-none}

module _ (m m' : ℕ) (rest : List Test) (result output : List ℤ) where
  abbrev all : List Test
  all = moduli_tests m m' ++ rest

  pub moduli-refuse : (k : ℕ) → refused k ≡ verdict (moduli_tests m m') [] → WholesHanded all result (refused k) output output
  moduli-refuse k e = record { answer = sym (verdict-stops rest [] (moduli_tests m m') [] k (sym e)); written = refl }

  -- what a call answers where it hands the refusal of the moduli on
  pub moduli-hand-on : (s : Answer) (k : Refusal) → IsErrAnd s (λ e. e ≡ k) → refused (number_of k) ≡ verdict (moduli_tests m m') []
      → WholesHanded all result (answered s) output output
  moduli-hand-on (Ok x) k h e = absurd h
  moduli-hand-on (Err w) k h e =
      subst (λ j. WholesHanded all result (refused (number_of j)) output output) (sym h) (moduli-refuse (number_of k) e)

  module _ (k : ℕ) (pair : Paired m m' k) (r : Answer) (is : answered r ≡ verdict rest []) where
    whole : answered r ≡ verdict all []
    whole = stages-end rest (none-remain (moduli_tests m m') rest all-remain (pair-none pair)) r is

    pub rest-refuses : (j : Refusal) → r ≡ Err j → WholesHanded all result (answered r) output output
    rest-refuses j q = record { answer = whole; written = sym (ap (λ x. wholes_after (answered x) result output) q) }

    -- and where it hands a later one on
    pub rest-hand-on : (s : Answer) (j : Refusal) → IsErrAnd s (λ e. e ≡ j) → r ≡ Err j → WholesHanded all result (answered s) output output
    rest-hand-on (Ok x) j h q = absurd h
    rest-hand-on (Err w) j h q =
        subst (λ x. WholesHanded all result (answered x) output output) (q ∙ ap Err (sym h)) (rest-refuses j q)

    pub rest-passes : (output' : List ℤ) → r ≡ Ok tt → output' ≡ result → WholesHanded all result (finished []) output output'
    rest-passes output' q e = record { answer = sym (ap answered q) ∙ whole; written = e }

-- ---- Join: 20
module _ (m m' : ℕ) (xs ys : List ℕ) (output : ℕ) where
  abbrev pub after_lengths : List Test
  after_lengths = output_test (length xs) output ∷ curve_entries_test m xs ∷ curve_entries_test m' ys ∷ []

  pub lengths_differ : (length ys ≡ length xs → ⊥) → refused 20 ≡ verdict (list_tests m m' xs ys output) []
  unfolding list_tests remainders_test
  lengths_differ n = refuses (remainders_test (length xs) (length ys)) (remainders-pass (length xs) (length ys)) after_lengths [] n

  pub lengths-same : length ys ≡ length xs → Remaining (list_tests m m' xs ys output) after_lengths
  unfolding list_tests
  lengths-same e =
      none-remain (remainders_test (length xs) (length ys) ∷ []) after_lengths all-remain ((remainders-pass (length xs) (length ys)).1 e, tt)

-- and what its lists are where all tests pass
module _ (m m' k : ℕ) (xs ys : List ℕ) (output : ℕ) (pair : Paired m m' k) (r : Answer)
    (is : answered r ≡ verdict (list_tests m m' xs ys output) []) (q : r ≡ Ok tt) where
  input : JoinInput m m' xs ys output
  unfolding join_tests
  input = (join-passes m m' xs ys output).0
      ((none-append (moduli_tests m m') (list_tests m m' xs ys output)).1 (pair-none pair, stage-none (list_tests m m' xs ys output) r is q))

  pub lists-held : Remainders m m' xs ys output
  lists-held = record {
    first_long = omega (arith, input.output_length);
    second_long = omega (arith, input.output_length, input.same);
    first_below = λ i h. input.below i (omega (arith, input.output_length));
    second_below = λ i h. input.below' i (omega (arith, input.output_length, input.same));
  }

  pub lists-whole : joined_list m m' (take output xs) (take output ys) ≡ joined_list m m' xs ys
  lists-whole = ap₂ (joined_list m m') (take_all output xs (omega (arith, input.output_length)))
      (take_all output ys (omega (arith, input.output_length, input.same)))
