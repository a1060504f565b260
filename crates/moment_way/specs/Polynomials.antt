-- F_n and G_{n-1} by the tree: Expand of 0 .. 0 1, of the rows with the closing row as one row more, and of these from the second on.
--   Extends list count last ext   ext holds the first count entries of list and then last
--   LastInput                     what the last polynomial of a family of r rows is taken of
-- Proved: extended rows are below m where the rows and the closing row are; what the tree is handed; its answers are F_n and G_{n-1}.
-- Assumes nothing.
use Rattle.std.specs.Prelude.{◌≡◌, refl, List, [], ◌∷◌, ◌++◌, ℕ, zero, suc, ◌+◌, ◌-◌, ◌≤◌, ◌<◌, take, drop, set, replicate}
use Rattle.std.proofs.Math.Path.{sym, ap}
use Rattle.std.proofs.Common.{◌∙◌, ap₂, add-one, arith, length-set, length-drop, take_all, length-take-le, get_or-take, get_or-drop}
use Rattle.std.proofs.Math.Logic.{by_cases}
use Rattle.std.proofs.Math.Decide.{dec_lt}
use Rattle.std.proofs.Math.ListN.{length, get_or, length-replicate, get_or-replicate}
use Rattle.std.proofs.Math.Seq.{take-append_seam, take-suc-set}
use Rattle.definitions.specs.Answers.{cleared}
use Rattle.definitions.specs.Family.{Family, Row, ones, size, F, G}
use Rattle.definitions.specs.Number.{table}
use Rattle.definitions.specs.Refusals.{work_length}
use Rattle.theory.specs.Closing.{EqualLengths, closed_by}
use Rattle.tree_model.specs.Extended.{extended, from_second, last_unit}
use Rattle.tree_model.proofs.Extended.{tree-F, tree-G}
use Rattle.numbers.specs.Lists.{filled, filled-length, table-length, table-unique, snoc-entry, snoc-last}
use Rattle.tree_model.specs.Tree.{with_tree, tree_expand}
use Rattle.lists.specs.Entries.{cleared-length, cleared-twice}
use Rattle.lists.specs.Held.{Holds, Output}
use Rattle.lists.specs.Lent.{LentRows, lent}
use Rattle.tree.specs.Input.{Input}
use Rattle.moment_way.specs.Input.{ClosedInput, PolynomialsInput, Polynomials}

-- ---- the rows with the closing row
pub record Extends (list : List ℕ) (count last : ℕ) (ext : List ℕ) : Type 0 where
  pub long : length ext ≡ 128
  pub first : take (suc count) ext ≡ take count list ++ last ∷ []

pub extended-rows : {list : List ℕ} {count last : ℕ} {blank copied : List ℕ} → count ≤ length list → count < 128
    → blank ≡ replicate 128 0 → copied ≡ filled (λ i. get_or list i 0) count blank → Extends list count last (set copied count last)
unfolding filled
extended-rows {list} {count} {last} {blank} {copied} h l z e =
    let entry : ℕ → ℕ = λ i. get_or list i 0 in
    let blank_long : length blank ≡ 128 = ap length z ∙ length-replicate {A = ℕ} 128 0 in
    let long : length copied ≡ 128 = ap length e ∙ filled-length entry blank count (omega arith) ∙ blank_long in
    let front : take count copied ≡ take count list = ap (take count) e
    ∙ ap (λ k. take k (table count entry ++ drop count blank)) (sym (table-length count entry))
    ∙ take-append_seam (table count entry) (drop count blank)
    ∙ sym (table-unique (take count list) count entry (length-take-le count list h) (λ i p. get_or-take count list i 0 p)) in
    record {
      long = length-set copied count last ∙ long;
      first = take-suc-set copied count last (omega arith) ∙ ap (λ t. t ++ last ∷ []) front;
    }

pub extends-holds : {m count last : ℕ} {list ext : List ℕ} → Extends list count last ext → Holds m count list → last < m → count < 128
    → Holds m (suc count) ext
extends-holds {m} {count} {last} {list} {ext} h held below few =
    let long : length (take count list) ≡ count = length-take-le count list held.long in
    let entry : (i : ℕ) → i < suc count → get_or ext i 0 ≡ get_or (take count list ++ last ∷ []) i 0
    = λ i l. sym (get_or-take (suc count) ext i 0 l) ∙ ap (λ t. get_or t i 0) h.first in
    record {
      long = omega (arith, h.long);
      below = λ i l. rw (entry i l) (by_cases (dec_lt i count)
          (λ p. rw (snoc-entry (take count list) last i 0 (omega arith), get_or-take count list i 0 p) (held.below i p))
          (λ p. rw (snoc-last (take count list) last i 0 (omega arith)) below));
    }

-- ---- the last polynomial of r rows
pub record LastInput (m : ℕ) (a b c : List ℕ) (r : ℕ) (output work : List ℕ) : Type 0 where
  pub rows : LentRows m r a b c
  pub most : r ≤ 128
  pub output_long : suc r ≤ length output
  pub work_long : work_length ≤ length work

-- the list 0 .. 0 1
take-zeros : (r k : ℕ) → r ≤ k → take {A = ℕ} r (replicate k 0) ≡ replicate r 0
take-zeros zero k h = refl
take-zeros (suc r) zero h = absurd (omega arith)
take-zeros (suc r) (suc k) h = ap (λ t. 0 ∷ t) (take-zeros r k (omega arith))

module _ {blank : List ℕ} (z : blank ≡ replicate 255 0) {m : ℕ} {a b c : List ℕ} {r : ℕ} {output work : List ℕ}
    (input : LastInput m a b c r output work) where
  blank-length : length blank ≡ 255
  blank-length = ap length z ∙ length-replicate {A = ℕ} 255 0

  pub unit-is : take (suc r) (set blank r 1) ≡ last_unit r
  unfolding last_unit
  unit-is = take-suc-set blank r 1 (omega (arith, blank-length, input.most))
      ∙ ap (λ t. t ++ 1 ∷ []) (ap (take r) z ∙ take-zeros r 255 (omega (arith, input.most)))

  pub unit-below : (i : ℕ) → i ≤ r → get_or (set blank r 1) i 0 < m
  unfolding last_unit
  unit-below i l =
      let least : 2 ≤ m = input.rows.modulus.least in
      let e : get_or (set blank r 1) i 0 ≡ get_or (replicate r 0 ++ 1 ∷ []) i 0
      = sym (get_or-take (suc r) (set blank r 1) i 0 (omega arith)) ∙ ap (λ t. get_or t i 0) unit-is in
      let k : length {A = ℕ} (replicate r 0) ≡ r = length-replicate {A = ℕ} r 0 in
      rw e (by_cases (dec_lt i r)
      (λ p. rw (snoc-entry (replicate r 0) 1 i 0 (omega arith), get_or-replicate {A = ℕ} r i 0 0 p) (omega arith))
      (λ p. rw (snoc-last (replicate r 0) 1 i 0 (omega arith)) least))

  less : r + 1 - 1 ≡ r
  less = omega arith

  pub last-input : Input m a b c (set blank r 1) (r + 1) output work
  last-input = record {
    rows = rw less input.rows;
    curve_holds = record {
      long = omega (arith, input.most, blank-length, length-set blank r 1);
      below = λ i h. unit-below i (omega arith);
    };
    least = omega arith;
    most = omega (arith, input.most);
    output_long = omega (arith, input.output_long);
    work_long = input.work_long;
  }

  pub last-output : {output' work' : List ℕ}
      → Output (tree_expand (lent m (r + 1 - 1) a b c ones) (take (r + 1) (set blank r 1))) (r + 1) output output' work work'
      → Output (tree_expand (lent m r a b c ones) (last_unit r)) (suc r) output output' work work'
  last-output o =
      let result : tree_expand (lent m (r + 1 - 1) a b c ones) (take (r + 1) (set blank r 1)) ≡ tree_expand (lent m r a b c ones) (last_unit r)
      = ap₂ (λ k u. tree_expand (lent m k a b c ones) u) less (ap (λ k. take k (set blank r 1)) (add-one r) ∙ unit-is) in
      record { written = o.written ∙ ap₂ (λ t k. t ++ drop k output) result (add-one r); wiped = o.wiped }

-- ---- F_n and G_{n-1}
tree_expand-close : (f : Family) (row : Row) (u : List ℕ) → tree_expand (closed_by row f) u ≡ tree_expand f u
unfolding tree_expand with_tree
tree_expand-close f row u = refl

take_rest : (k : ℕ) (xs : List ℕ) → take k (drop 1 xs) ≡ drop 1 (take (suc k) xs)
take_rest zero [] = refl
take_rest (suc k) [] = refl
take_rest k (x ∷ xs) = refl

-- what &xs[1..] lends of an array
abbrev pub rest : List ℕ → List ℕ
rest xs = take 127 (drop 1 xs)

module _ {list : List ℕ} {count last : ℕ} {xs : List ℕ} (h : Extends list count last xs) where
  first-are : {n : ℕ} → suc count ≡ n → take n xs ≡ take count list ++ last ∷ []
  first-are e = ap (λ k. take k xs) (sym e) ∙ h.first

  pub rest-whole : rest xs ≡ drop 1 xs
  rest-whole = take_all 127 (drop 1 xs) (omega (arith, length-drop 1 xs, h.long))

  rest-first : take count (rest xs) ≡ drop 1 (take count list ++ last ∷ [])
  rest-first = ap (take count) rest-whole ∙ take_rest count xs ∙ ap (drop 1) h.first

  pub rest-holds : {m : ℕ} → Holds m (suc count) xs → Holds m count (rest xs)
  rest-holds held = rw rest-whole record {
    long = omega (arith, held.long, length-drop 1 xs);
    below = λ i l. rw (get_or-drop 1 xs i 0) (held.below (1 + i) (omega arith));
  }

module _ {m : ℕ} {a b c : List ℕ} {close : Row} {n : ℕ} (closed : ClosedInput m a b c close n) where
  abbrev f : Family
  f = lent m (n - 1) a b c close

  rows_are : length (take (n - 1) a) ≡ n - 1
  rows_are = length-take-le (n - 1) a closed.rows.a_holds.long

  one_more : suc (n - 1) ≡ n
  one_more = omega (arith, closed.least)

  pub closed-size : size f ≡ n
  closed-size = ap suc rows_are ∙ one_more

  pub closed-lengths : EqualLengths f
  closed-lengths = record {
    b_length = length-take-le (n - 1) b closed.rows.b_holds.long ∙ sym rows_are;
    c_length = length-take-le (n - 1) c closed.rows.c_holds.long ∙ sym rows_are;
  }

  module _ {xs ys zs : List ℕ} (ex : Extends a (n - 1) close.a xs) (ey : Extends b (n - 1) close.b ys)
      (ez : Extends c (n - 1) close.c zs) where
    few : n - 1 < 128
    few = omega (arith, closed.least, closed.most)

    pub extended-lent : LentRows m (suc (n - 1)) xs ys zs
    extended-lent = record {
      modulus = closed.rows.modulus;
      a_holds = extends-holds ex closed.rows.a_holds closed.closing.a_below few;
      b_holds = extends-holds ey closed.rows.b_holds closed.closing.b_below few;
      c_holds = extends-holds ez closed.rows.c_holds closed.closing.c_below few;
    }

    -- what the two calls are taken of
    abbrev pub all : Family
    all = lent m n xs ys zs ones

    abbrev pub others : Family
    others = lent m (n - 1) (rest xs) (rest ys) (rest zs) ones

    extended-is : closed_by close all ≡ extended f
    unfolding extended
    extended-is = rw (first-are ex one_more, first-are ey one_more, first-are ez one_more)

    second_is : closed_by close others ≡ from_second (extended f)
    unfolding extended from_second
    second_is = rw (rest-first ex, rest-first ey, rest-first ez)

    pub divisor-is : tree_expand all (last_unit n) ≡ table (suc n) (F f n)
    divisor-is =
        sym (tree_expand-close all close (last_unit n)) ∙ ap₂ (λ g k. tree_expand g (last_unit k)) extended-is (sym closed-size)
        ∙ tree-F f closed.rows.modulus.least closed-lengths ∙ ap (λ k. table (suc k) (F f k)) closed-size

    pub numerator-is : tree_expand others (last_unit (n - 1)) ≡ table n (G f (n - 1))
    numerator-is =
        sym (tree_expand-close others close (last_unit (n - 1))) ∙ ap₂ (λ g k. tree_expand g (last_unit k)) second_is (sym rows_are)
        ∙ tree-G f closed.rows.modulus.least closed-lengths ∙ ap₂ (λ k j. table k (G f j)) closed-size rows_are

    module _ {divisor numerator work : List ℕ} (input : PolynomialsInput m a b c close n divisor numerator work) where
      pub divisor-input : LastInput m xs ys zs n divisor work
      divisor-input = record {
        rows = rw one_more at extended-lent;
        most = closed.most;
        output_long = input.divisor_long;
        work_long = input.work_long;
      }

      pub numerator-input : {work' : List ℕ} → work' ≡ cleared work → LastInput m (rest xs) (rest ys) (rest zs) (n - 1) numerator work'
      numerator-input e = record {
        rows = record {
          modulus = closed.rows.modulus;
          a_holds = rest-holds ex extended-lent.a_holds;
          b_holds = rest-holds ey extended-lent.b_holds;
          c_holds = rest-holds ez extended-lent.c_holds;
        };
        most = omega (arith, few);
        output_long = omega (arith, input.numerator_long, one_more);
        work_long = rw (e, cleared-length work input.work_long) input.work_long;
      }

      pub polynomials-are : {divisor' numerator' work' work'' : List ℕ}
          → Output (tree_expand all (last_unit n)) (suc n) divisor divisor' work work'
          → Output (tree_expand others (last_unit (n - 1))) (suc (n - 1)) numerator numerator' work' work''
          → Polynomials f n divisor divisor' numerator numerator' work work''
      polynomials-are o s = record {
        divisor_is = o.written ∙ ap (λ t. t ++ drop (suc n) divisor) divisor-is;
        numerator_is = s.written ∙ ap₂ (λ t k. t ++ drop k numerator) numerator-is one_more;
        wiped = s.wiped ∙ ap cleared o.wiped ∙ cleared-twice work;
      }
