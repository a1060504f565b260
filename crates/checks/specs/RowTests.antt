-- 9 of the rows of a lent family, by passes over its lists and a look at the closing row.
--   Entered   what 9 asks for: the entries of the three lists and those of the closing row are below m
-- Proved: 9 passes if and only if the rows are so (entered-passes); what a pass over a list found. Assumes nothing.
use Rattle.std.specs.Prelude.{◌≡◌, Bool, false, List, Option, None, Some, ◌↔◌, ℕ, suc, ◌<◌, ◌≤◌, length, get_or, take}
use Rattle.std.proofs.Common.{sym, ◌∙◌, subst, true≢false, arith, length-take-le}
use Rattle.std.proofs.Math.Logic.Iff
use Rattle.std.proofs.Math.Logic.{by_cases}
use Rattle.std.proofs.Math.Decide.{dec_lt}
use Rattle.std.proofs.Math.ListN.{get_or-eq_default}
use Rattle.definitions.specs.Family.{Row, Family, RowBelow, row_at, size}
use Rattle.definitions.specs.Number.{HasInverse}
use Rattle.definitions.specs.Refusals.{some, not_below, entries_test}
use Rattle.numbers.specs.Lists.{Each}
use Rattle.acceptance.specs.Verdicts.{some-true, some-not_below-false, no_inverse-true, entries-pass}
use Rattle.lists.specs.Lent.{lent, Long, lent-size, lent-past}
use Rattle.residue.specs.Inversion.{SharesFactor, absent-fails}
use Rattle.checks.specs.Passes.{First, BelowAnswer}

-- ---- what a pass found
first_some : (bad : ℕ → Bool) (xs : List ℕ) (i : ℕ) → First bad xs i → some bad xs ≡ false → ⊥
first_some bad xs i h none = true≢false (sym (some-true bad xs i 0 h.place h.here) ∙ none)

module _ (m : ℕ) (xs : List ℕ) where
  pub all-below : (r : Option ℕ) → r ≡ None → BelowAnswer m xs r → some (not_below m) xs ≡ false
  all-below r e h = subst (BelowAnswer m xs) e h

  pub one-not-below : (r : Option ℕ) (i : ℕ) → r ≡ Some i → BelowAnswer m xs r → some (not_below m) xs ≡ false → ⊥
  one-not-below r i e h = first_some (not_below m) xs i (subst (BelowAnswer m xs) e h)

pub lacks : (m x g : ℕ) → 0 < m → SharesFactor m x g → HasInverse m x → ⊥
lacks m x g pos absent = (no_inverse-true m x pos).0 (absent-fails m x g pos absent)

-- every entry of a list that is closed by d, at every place
pub closed : (P : ℕ → Type 0) (xs : List ℕ) (d : ℕ) → Each P xs d → P d → (i : ℕ) → P (get_or xs i d)
closed P xs d all last i = by_cases (dec_lt i (length xs)) (all i) (λ n. rw (get_or-eq_default xs d {n = i} (omega arith)) last)

-- ---- 9
pub record Entered (m r : ℕ) (a b c : List ℕ) (close : Row) : Type 0 where
  pub in_a : some (not_below m) (take r a) ≡ false
  pub in_b : some (not_below m) (take r b) ≡ false
  pub in_c : some (not_below m) (take r c) ≡ false
  pub closing : RowBelow m close

module _ (m r : ℕ) (a b c : List ℕ) (close : Row) (long : Long r a b c) where
  pub entered-passes : ((entries_test (lent m r a b c close)).holds ≡ false) ↔ Entered m r a b c close
  unfolding row_at
  entered-passes = Iff.trans (entries-pass (lent m r a b c close)) (to, from)
    where
      f : Family
      f = lent m r a b c close

      within : (xs : List ℕ) (i : ℕ) → r ≤ length xs → i < length (take r xs) → i < size f
      within xs i l h = let n : size f ≡ suc r = lent-size m r a b c close long in omega (arith, length-take-le r xs l)

      to : ((i : ℕ) → i < size f → RowBelow m (row_at f i)) → Entered m r a b c close
      to all = record {
        in_a = (some-not_below-false m (take r a) close.a).1 (λ i h. (all i (within a i long.a_long h)).a_below);
        in_b = (some-not_below-false m (take r b) close.b).1 (λ i h. (all i (within b i long.b_long h)).b_below);
        in_c = (some-not_below-false m (take r c) close.c).1 (λ i h. (all i (within c i long.c_long h)).c_below);
        closing =
            let n : size f ≡ suc r = lent-size m r a b c close long in
            rw (← lent-past m r a b c close long r (omega arith)) (all r (omega arith));
      }

      from : Entered m r a b c close → (i : ℕ) → i < size f → RowBelow m (row_at f i)
      from e i h = record {
        a_below = closed (λ x. x < m) (take r a) close.a ((some-not_below-false m (take r a) close.a).0 e.in_a) e.closing.a_below i;
        b_below = closed (λ x. x < m) (take r b) close.b ((some-not_below-false m (take r b) close.b).0 e.in_b) e.closing.b_below i;
        c_below = closed (λ x. x < m) (take r c) close.c ((some-not_below-false m (take r c) close.c).0 e.in_c) e.closing.c_below i;
      }
