-- The calls on two moduli finish exactly on what item 6 accepts.
--   Apart m m'          two moduli without a common factor: m has an inverse modulo m'
--   JoinInput           what Join accepts;  ExpandJoinInput  what Expand and join does: a family that is accepted on both moduli
-- Proved: none of a call's tests holds (`-passes`), and its verdict is finished (`-finished`), if and only if its input is of that kind;
-- 19 is not given if and only if there is that inverse (apart-passes), which is so in either order of the moduli (apart-swaps).
-- Assumes nothing.
use Rattle.std.specs.Prelude.{false, List, [], ◌↔◌, ◌≡◌, ℕ, suc, ◌<◌, ◌≤◌, ℤ, length}
use Rattle.std.proofs.Math.Logic.Iff
use Rattle.std.proofs.Common.{sym, ◌∙◌, arith, ltb-false, le-ltb}
use Rattle.std.proofs.Math.Nat.{one-dvd}
use Rattle.std.proofs.Math.ListN.{length-map}
use Rattle.definitions.specs.Family.{Modulus, Accepted, RowBelow, most_rows, first_c, row_at, size}
use Rattle.definitions.specs.Number.{HasInverse, greatest_factor}
use Rattle.definitions.specs.Refusals.{finished, verdict}
use Rattle.numbers.specs.Euclid.{has-inverse-coprime}
use Rattle.numbers.specs.Factor.{factor-greatest, factor-one}
use Rattle.numbers.specs.Lists.{Each}
use Rattle.acceptance.specs.Verdicts.{None, none-append, verdict-finished, differ-false, modulus-passes, equal-lengths-pass}
use Rattle.acceptance.specs.Verdicts.{row-count-passes}
use Rattle.acceptance.specs.Verdicts.{curve-length-passes, output-passes, curve-entries-pass}
use Rattle.acceptance.specs.Verdicts.{a-inverses-pass, c-inverses-pass, a-zeros-pass, c-zeros-pass}
use Rattle.joining.specs.Whole.{remainder}
use Rattle.joining.specs.Expanding.{Signed, reduced_list, reduced}
use Rattle.joining.specs.Calls.{shared_factor_test, remainders_test, moduli_tests, list_tests, join_tests, a_tests, c_tests, size_tests}
use Rattle.joining.specs.Calls.{both_rows}
use Rattle.joining.specs.Calls.{expand_join_tests}
use Rattle.wholes.specs.Reduction.{remainders-below}

pub record Apart (m m' : ℕ) : Type 0 where
  pub modulus : Modulus m
  pub modulus' : Modulus m'
  pub inverse : HasInverse m' m

pub apart-swaps : (m m' : ℕ) → 2 ≤ m → 2 ≤ m' → HasInverse m' m → HasInverse m m'
apart-swaps m m' two two' h = (has-inverse-coprime m m' two).1 (λ d p q. (has-inverse-coprime m' m two').0 h d q p)

-- 19
pub apart-passes : (m m' : ℕ) → 2 ≤ m → 2 ≤ m' → ((shared_factor_test m m').holds ≡ false) ↔ HasInverse m' m
unfolding shared_factor_test
apart-passes m m' two two' = (
  λ e.
      let most : greatest_factor m m' ≤ 1 = ltb-false 1 (greatest_factor m m') e in
      let least : 1 ≤ greatest_factor m m' = (factor-greatest m m' (omega arith)).greatest 1 (one-dvd m') (one-dvd m) in
      apart-swaps m' m two' two ((factor-one m m' two).1 (omega arith)),
  λ h. le-ltb 1 (greatest_factor m m') (omega (arith, (factor-one m m' two).0 (apart-swaps m m' two two' h))),
)

pub moduli-pass : (m m' : ℕ) → None (moduli_tests m m') ↔ Apart m m'
unfolding moduli_tests
moduli-pass m m' = (
  λ (e3, (e3', (e19, done))).
      let p : Modulus m = (modulus-passes m).0 e3 in
      let p' : Modulus m' = (modulus-passes m').0 e3' in
      record { modulus = p; modulus' = p'; inverse = (apart-passes m m' p.least p'.least).0 e19 },
  λ a. (
    (modulus-passes m).1 a.modulus,
    ((modulus-passes m').1 a.modulus', ((apart-passes m m' a.modulus.least a.modulus'.least).1 a.inverse, tt)),
  ),
)

-- ---- Join
pub record JoinInput (m m' : ℕ) (xs ys : List ℕ) (output : ℕ) : Type 0 where
  pub apart : Apart m m'
  pub same : length ys ≡ length xs
  pub output_length : output ≡ length xs
  pub below : Each (λ x. x < m) xs 0
  pub below' : Each (λ y. y < m') ys 0

pub remainders-pass : (first second : ℕ) → ((remainders_test first second).holds ≡ false) ↔ (second ≡ first)
unfolding remainders_test
remainders-pass first second = differ-false second first

pub join-passes : (m m' : ℕ) (xs ys : List ℕ) (output : ℕ) → None (join_tests m m' xs ys output) ↔ JoinInput m m' xs ys output
unfolding list_tests join_tests
join-passes m m' xs ys output = Iff.trans (none-append (moduli_tests m m') _) (
  λ (moduli, (e20, (e7, (e12, (e12', done))))). record {
    apart = (moduli-pass m m').0 moduli;
    same = (remainders-pass (length xs) (length ys)).0 e20;
    output_length = (output-passes (length xs) output).0 e7;
    below = (curve-entries-pass m xs 0).0 e12;
    below' = (curve-entries-pass m' ys 0).0 e12';
  },
  λ p. (
    (moduli-pass m m').1 p.apart,
    (
      (remainders-pass (length xs) (length ys)).1 p.same,
      (
        (output-passes (length xs) output).1 p.output_length,
        ((curve-entries-pass m xs 0).1 p.below, ((curve-entries-pass m' ys 0).1 p.below', tt)),
      ),
    ),
  ),
)

pub join-finished : (m m' : ℕ) (xs ys : List ℕ) (output : ℕ)
    → (verdict (join_tests m m' xs ys output) [] ≡ finished []) ↔ JoinInput m m' xs ys output
join-finished m m' xs ys output = Iff.trans (verdict-finished (join_tests m m' xs ys output) []) (join-passes m m' xs ys output)

-- ---- Expand and join
pub record ExpandJoinInput (m m' : ℕ) (s : Signed) (u : List ℤ) (output : ℕ) : Type 0 where
  pub apart : Apart m m'
  pub accepted : Accepted (reduced m s)
  pub accepted' : Accepted (reduced m' s)
  pub curve_length : length u ≡ suc (length s.a)
  pub output_length : output ≡ suc (length s.a)

-- a reduced list has the length of the list, and every entry and 1, which is read past its end, is below m
module _ (m : ℕ) (s : Signed) where
  same_length : (xs : List ℤ) → length xs ≡ length s.a → length (reduced_list m xs) ≡ length (reduced_list m s.a)
  same_length xs e = length-map xs (remainder m) ∙ e ∙ sym (length-map s.a (remainder m))

  length-same : (xs : List ℤ) → length (reduced_list m xs) ≡ length (reduced_list m s.a) → length xs ≡ length s.a
  length-same xs e = sym (length-map xs (remainder m)) ∙ e ∙ length-map s.a (remainder m)

  reduced-below : 2 ≤ m → (i : ℕ) → RowBelow m (row_at (reduced m s) i)
  unfolding row_at
  reduced-below two i = record {
    a_below = remainders-below m (omega arith) s.a i 1 two;
    b_below = remainders-below m (omega arith) s.b i 1 two;
    c_below = remainders-below m (omega arith) s.c i 1 two;
  }

  module _ (modulus : Modulus m) where
    some : 0 < m
    some = omega (arith, modulus.least)

    pub a-pass : None (a_tests (reduced m s)) ↔ ((i : ℕ) → i < size (reduced m s) → HasInverse m (row_at (reduced m s) i).a)
    unfolding a_tests
    a-pass = (
      λ (e17, (e10, done)). (a-inverses-pass (reduced m s) some).0 e10,
      λ h. (a-zeros-pass (reduced m s) some h, ((a-inverses-pass (reduced m s) some).1 h, tt)),
    )

    pub c-pass : None (c_tests (reduced m s)) ↔ ((i : ℕ) → first_c ≤ i → i < size (reduced m s) → HasInverse m (row_at (reduced m s) i).c)
    unfolding c_tests
    c-pass = (
      λ (e18, (e11, done)). (c-inverses-pass (reduced m s) some first_c).0 e11,
      λ h. (c-zeros-pass (reduced m s) some first_c h, ((c-inverses-pass (reduced m s) some first_c).1 h, tt)),
    )

    pub reduced-accepted : length s.b ≡ length s.a → length s.c ≡ length s.a → length s.a ≤ most_rows
        → None (a_tests (reduced m s)) → None (c_tests (reduced m s)) → Accepted (reduced m s)
    reduced-accepted eb ec few a c = record {
      modulus = modulus;
      b_length = same_length s.b eb;
      c_length = same_length s.c ec;
      row_count = omega (arith, length-map s.a (remainder m));
      below = λ i h. reduced-below modulus.least i;
      a_inverse = a-pass.0 a;
      c_inverse = c-pass.0 c;
    }

module _ (m m' : ℕ) (s : Signed) (u : List ℤ) (output : ℕ) where
  pub expand-join-passes : None (expand_join_tests m m' s u output) ↔ ExpandJoinInput m m' s u output
  unfolding size_tests expand_join_tests both_rows
  expand-join-passes = simp none-append (
    λ (moduli, ((e4, (e5, (e6, (e7, done)))), (a, (a', (c, c'))))).
        let apart : Apart m m' = (moduli-pass m m').0 moduli in
        let lengths = (equal-lengths-pass (length s.a) (length s.b) (length s.c)).0 e4 in
        let few = (row-count-passes (length s.a)).0 e5 in
        record {
          apart = apart;
          accepted = reduced-accepted m s apart.modulus lengths.0 lengths.1 few a c;
          accepted' = reduced-accepted m' s apart.modulus' lengths.0 lengths.1 few a' c';
          curve_length = (curve-length-passes (suc (length s.a)) (length u)).0 e6;
          output_length = (output-passes (suc (length s.a)) output).0 e7;
        },
    λ p.
        let acc = p.accepted in
        let acc' = p.accepted' in
        let e4 = (equal-lengths-pass (length s.a) (length s.b) (length s.c)).1
        (length-same m s s.b acc.b_length, length-same m s s.c acc.c_length) in
        let e5 = (row-count-passes (length s.a)).1 (omega (arith, acc.row_count, length-map s.a (remainder m))) in
        let e6 = (curve-length-passes (suc (length s.a)) (length u)).1 p.curve_length in
        let e7 = (output-passes (suc (length s.a)) output).1 p.output_length in
        let a = (a-pass m s acc.modulus).1 acc.a_inverse in
        let a' = (a-pass m' s acc'.modulus).1 acc'.a_inverse in
        let c = (c-pass m s acc.modulus).1 acc.c_inverse in
        let c' = (c-pass m' s acc'.modulus).1 acc'.c_inverse in
        ((moduli-pass m m').1 p.apart, ((e4, (e5, (e6, (e7, tt)))), (a, (a', (c, c'))))),
  )

  pub expand-join-finished : (verdict (expand_join_tests m m' s u output) [] ≡ finished []) ↔ ExpandJoinInput m m' s u output
  expand-join-finished = Iff.trans (verdict-finished (expand_join_tests m m' s u output) []) expand-join-passes
