-- Expand over the whole numbers: reduced modulo m it is Expand modulo m.
-- Proved: the remainders of the true coefficients are the list of Expand modulo m, on every signed family and curve (whole-reduced), by a
-- map of rings from the whole numbers to the residues. That two such lists joined are exact (joined-true) stands in Expanding of proofs/.
-- Assumes nothing.
use Rattle.std.specs.Prelude.{ℤ, pos, ◌+ℤ◌, ◌*ℤ◌}
use mathlib.Core.List.{List, [], ◌∷◌, map}
use Rattle.std.proofs.Math.Path.{◌≡◌, refl, ap, fun_ext}
use Rattle.std.proofs.Common.{sym, ◌∙◌, ap₂, arith, ext_get_or}
use Prim.Native.Nat.{ℕ, zero, suc, ◌<◌, ◌≤◌}
use Rattle.std.proofs.Math.Nat.{mod-eq_of_lt}
use Rattle.std.proofs.Math.ListN.{length, get_or, length-map, get_or-map}
use Rattle.algebra.specs.Map.{RingMap, map-sum}
use Rattle.algebra.specs.Residues.{Zmod, res, res-injective}
use Rattle.algebra.specs.Ring.{CommRing}
use Rattle.algebra.specs.Sum.{sum}
use Rattle.algebra.specs.Variable.{shift}
use Rattle.definitions.specs.Family.{size, row_at}
use Rattle.definitions.specs.Number.{table}
use Rattle.numbers.specs.Lists.{get_or-default, table-length, table-entry}
use Rattle.theory.specs.Bridge.{entries, rows_of, entries-expand, expand-curve}
use Rattle.theory.specs.Recurrence.{Rows, term}
use Rattle.joining.specs.Whole.{remainder}
use Rattle.joining.specs.Expanding.{Signed, signed_row, whole_times_x, whole_term, whole_sum, coefficient, whole_expand}
use Rattle.joining.specs.Expanding.{reduced_list, reduced, reduced_expand}
use Rattle.wholes.specs.Integers.{whole}
use Rattle.wholes.specs.Mapped.{map_rows, map-term}
use Rattle.wholes.specs.Reduction.{remainder-lt, reduction, remainder-image}

-- ---- the definitions are the recurrence and the sum of the ring of whole numbers
abbrev whole_rows : Signed → Rows whole
whole_rows s = record { a = λ i. (signed_row s i).a; b = λ i. (signed_row s i).b; c = λ i. (signed_row s i).c }

times-is : (p q : ℕ → ℤ) → ((i : ℕ) → p i ≡ q i) → (i : ℕ) → whole_times_x p i ≡ shift whole q i
unfolding whole_times_x
times-is p q same zero = refl
times-is p q same (suc i) = same i

term_is : (s : Signed) (k i : ℕ) → whole_term (signed_row s) k i ≡ term whole (whole_rows s) k i
unfolding whole_term term
term_is s zero i = refl
term_is s (suc zero) zero = refl
term_is s (suc zero) (suc i) = refl
term_is s (suc (suc k)) i =
    ap₂ ◌+ℤ◌ (ap₂ ◌+ℤ◌ (ap (λ t. (signed_row s k).a *ℤ t) (times-is _ _ (term_is s (suc k)) i)) (ap (λ t. (signed_row s k).b *ℤ t) (term_is s (suc k) i)))
    (ap (λ t. (signed_row s k).c *ℤ t) (term_is s k i))

sum_is : (n : ℕ) (f : ℕ → ℤ) → whole_sum n f ≡ sum whole n f
unfolding whole_sum sum
sum_is zero f = refl
sum_is (suc n) f = rw (sum_is n f) refl

coefficient-is : (s : Signed) (u : List ℤ) (i : ℕ)
    → coefficient s u i ≡ sum whole (suc (length s.a)) (λ j. whole.mul (get_or u j (pos 0)) (term whole (whole_rows s) (suc j) i))
unfolding coefficient
coefficient-is s u i =
    sum_is (suc (length s.a)) _ ∙ ap (sum whole (suc (length s.a))) (fun_ext (λ j. ap (whole.mul (get_or u j (pos 0))) (term_is s (suc j) i)))

module _ (s : Signed) (u : List ℤ) where
  pub whole-expand-length : length (whole_expand s u) ≡ suc (length s.a)
  unfolding whole_expand
  whole-expand-length = length-map (table (suc (length s.a)) (λ i. i)) (coefficient s u) ∙ table-length (suc (length s.a)) (λ i. i)

  pub whole-expand-entry : (i : ℕ) (d : ℤ) → i ≤ length s.a → get_or (whole_expand s u) i d ≡ coefficient s u i
  unfolding whole_expand
  whole-expand-entry i d h = map-entry (table (suc (length s.a)) (λ i. i)) i (omega (arith, table-length (suc (length s.a)) (λ i. i)))
      ∙ ap (coefficient s u) (table-entry (suc (length s.a)) (λ i. i) i 0 (omega arith))
    where
      map-entry : (xs : List ℕ) (i : ℕ) → i < length xs → get_or (map (coefficient s u) xs) i d ≡ coefficient s u (get_or xs i 0)
      map-entry [] i l = absurd (omega arith)
      map-entry (x ∷ xs) zero l = refl
      map-entry (x ∷ xs) (suc i) l = map-entry xs i (omega arith)

-- ---- modulo m
module _ (m : ℕ) (two : 2 ≤ m) (s : Signed) (u : List ℤ) where
  abbrev p : 0 < m
  p = omega arith

  abbrev R : CommRing
  R = Zmod m p

  abbrev φ : RingMap whole R
  φ = reduction m p

  pub reduced-size : size (reduced m s) ≡ suc (length s.a)
  reduced-size = ap suc (length-map s.a (remainder m))

  -- an entry of a reduced list, where what is read past the end is its own remainder
  res-entry : (xs : List ℤ) (i d : ℕ) → remainder m (pos d) ≡ d → res m p (get_or (reduced_list m xs) i d) ≡ φ.to (get_or xs i (pos d))
  res-entry xs i d e =
      ap (λ t. res m p (get_or (reduced_list m xs) i t)) (sym e) ∙ ap (res m p) (get_or-map (remainder m) xs i (pos d))
      ∙ remainder-image m p (get_or xs i (pos d))

  one-stays : remainder m (pos 1) ≡ 1
  unfolding remainder
  one-stays = mod-eq_of_lt two

  zero-stays : remainder m (pos 0) ≡ 0
  unfolding remainder
  zero-stays = mod-eq_of_lt p

  rows-mapped : rows_of (reduced m s) p ≡ map_rows φ (whole_rows s)
  unfolding row_at
  rows-mapped = rows-equal (fun_ext (λ i. res-entry s.a i 1 one-stays)) (fun_ext (λ i. res-entry s.b i 1 one-stays))
      (fun_ext (λ i. res-entry s.c i 1 one-stays))
    where
      rows-equal : {a a' b b' c c' : ℕ → R.Car} → a ≡ a' → b ≡ b' → c ≡ c'
          → ◌≡◌ {A = Rows R} (record { a = a; b = b; c = c }) (record { a = a'; b = b'; c = c' })
      rows-equal e f g = cc

  coefficient-mapped : (i : ℕ) → φ.to (coefficient s u i)
      ≡ sum R (size (reduced m s)) (λ j. R.mul (entries m p (reduced_list m u) j) (term R (rows_of (reduced m s) p) (suc j) i))
  coefficient-mapped i =
      ap φ.to (coefficient-is s u i) ∙ map-sum φ (suc (length s.a)) _ ∙ ap₂ (sum R) (sym reduced-size)
      (fun_ext (λ j. φ.to-mul (get_or u j (pos 0)) (term whole (whole_rows s) (suc j) i) ∙ ap₂ R.mul (sym (res-entry u j 0 zero-stays))
      (map-term φ (whole_rows s) (suc j) i ∙ ap (λ ρ. term R ρ (suc j) i) (sym rows-mapped))))

  pub coefficient-remainder : (i : ℕ) → i ≤ length s.a → remainder m (coefficient s u i) ≡ get_or (reduced_expand m s u) i 0
  coefficient-remainder i h =
      let l : i < size (reduced m s) = omega (arith, reduced-size) in
      res-injective m p _ _ (remainder-lt m p (coefficient s u i)) ((expand-curve (reduced m s) p (reduced_list m u)).below i l)
      (remainder-image m p (coefficient s u i) ∙ coefficient-mapped i ∙ sym (entries-expand (reduced m s) p (reduced_list m u) i l))

  pub reduced-expand-length : length (reduced_expand m s u) ≡ suc (length s.a)
  reduced-expand-length = (expand-curve (reduced m s) p (reduced_list m u)).long ∙ reduced-size

  pub reduced-expand-below : (i : ℕ) → i ≤ length s.a → get_or (reduced_expand m s u) i 0 < m
  reduced-expand-below i h = (expand-curve (reduced m s) p (reduced_list m u)).below i (omega (arith, reduced-size))

  -- reducing the true coefficients is Expand modulo m
  pub whole-reduced : reduced_list m (whole_expand s u) ≡ reduced_expand m s u
  whole-reduced =
      ext_get_or (remainder m (pos 0)) (reduced_list m (whole_expand s u)) (reduced_expand m s u)
      (length-map (whole_expand s u) (remainder m) ∙ whole-expand-length s u ∙ sym reduced-expand-length)
      (λ i h.
      let l : i ≤ length s.a = omega (arith, length-map (whole_expand s u) (remainder m), whole-expand-length s u) in
      get_or-map (remainder m) (whole_expand s u) i (pos 0) ∙ ap (remainder m) (whole-expand-entry s u i (pos 0) l) ∙ coefficient-remainder i l
      ∙ get_or-default (reduced_expand m s u) i 0 (remainder m (pos 0)) (omega (arith, reduced-expand-length)))
