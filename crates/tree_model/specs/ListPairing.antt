-- Transposed products of lists of numbers, over the residues modulo m.
-- u gives a linear form, x^i to u_i, zero from n on (`Pairing`). Proved: where w holds the values of the form at x^i q, the transposed
-- product of w with the list p holds those at x^i p q, and so for the sum of two. The report, section 2. Assumes nothing.
use Rattle.std.specs.Prelude.{◌≡◌, List, [], ◌∷◌, ℕ, suc, ◌<◌, ◌≤◌, ◌+◌ as ◌+ℕ◌, length, get_or}
use Rattle.std.proofs.Math.Path.{sym, ap, ap₂}
use Rattle.std.proofs.Common.{◌∙◌}
use Rattle.std.proofs.Math.Nat
use Rattle.algebra.specs.Residues.{Zmod, res, res-add, res-mul, res-mod}
use Rattle.algebra.specs.Ring.{CommRing}
use Rattle.algebra.specs.Series.{Ser}
use Rattle.algebra.specs.Solver.{ring, reify}
use Rattle.algebra.specs.Sum.{sum, sum-empty, sum_first, sum-cong}
use Rattle.algebra.specs.Variable.{C, X}
use Rattle.numbers.specs.Lists.{table-entry}
use Rattle.numbers.specs.Products.{transposed_at, transposed, transposed_sum}
use Rattle.numbers.specs.Residue.{residue-sum}
use Rattle.tree_model.specs.ListSeries.{series, series-nil, series-cons}
use Rattle.tree_model.specs.Pairing.{pairing, pairing-zero, pairing-add, pairing-scale, pairing-X}

module _ (m : ℕ) (pos : 0 < m) (n : ℕ) (u : ℕ → CommRing.Car (Zmod m pos)) (past : (i : ℕ) → n ≤ i → u i ≡ CommRing.zero (Zmod m pos)) where
  abbrev R : CommRing
  R = Zmod m pos

  abbrev A : CommRing
  A = Ser R

  open R use {Car, add as ◌⊕◌, mul as ◌⊗◌}
  open A use {Car as Series, add as ◌+◌, mul as ◌*◌}

  infixl 65 ◌⊕◌ ◌+◌
  infixl 70 ◌⊗◌ ◌*◌
  abbrev ι : ℕ → Car
  ι = res m pos

  abbrev S : List ℕ → Series
  S = series m pos

  abbrev form : Series → ℕ → Car
  form = pairing R n u

  form-product : (p : List ℕ) (q : Series) (t : ℕ) → form (S p * q) t ≡ sum R (length p) (λ j. ι (get_or p j 0) ⊗ form q (t +ℕ j))
  form-product [] q t = ap (λ s. form s t) (ap (λ s. s * q) (series-nil m pos) ∙ ring A (q ∷ []) (search reify depth 20) tt)
      ∙ pairing-zero R n u t
      ∙ sym (sum-empty R (λ j. ι (get_or [] j 0) ⊗ form q (t +ℕ j)))
  form-product (x ∷ p) q t = ap (λ s. form s t) split ∙ pairing-add R n u (C R (ι x) * q) (X R * (S p * q)) t
      ∙ ap₂ ◌⊕◌ (pairing-scale R n u (ι x) q t) (pairing-X R n u past (S p * q) t ∙ form-product p q (suc t))
      ∙ ap₂ ◌⊕◌ (ap (λ k. ι x ⊗ form q k) (sym (Nat.add-zero t)))
      (sum-cong R (length p) (λ j _. ap (λ k. ι (get_or p j 0) ⊗ form q k) (Nat.suc-add t j ∙ sym (Nat.add-suc t j))))
      ∙ sym (sum_first R (length p) (λ j. ι (get_or (x ∷ p) j 0) ⊗ form q (t +ℕ j)))
    where
      split : S (x ∷ p) * q ≡ C R (ι x) * q + X R * (S p * q)
      split = ap (λ s. s * q) (series-cons m pos x p) ∙ ring A (C R (ι x) ∷ X R ∷ S p ∷ q ∷ []) (search reify depth 20) tt

  -- w holds the values at x^t q, x^(t+1) q, .., k of them
  abbrev pub Holds : List ℕ → Series → ℕ → ℕ → Type 0
  Holds w q t k = (j : ℕ) → j < k → ι (get_or w (t +ℕ j) 0) ≡ form q (t +ℕ j)

  pub transposed_at-pairing : (p w : List ℕ) (q : Series) (t : ℕ) → Holds w q t (length p) → ι (transposed_at p w t) ≡ form (S p * q) t
  unfolding transposed_at
  transposed_at-pairing p w q t h =
      simp (residue-sum m pos, res-mul m pos) (sum-cong R (length p) (λ j g. ap (λ x. ι (get_or p j 0) ⊗ x) (h j g)))
      ∙ sym (form-product p q t)

  pub transposed-pairing : (k : ℕ) (p w : List ℕ) (q : Series) (t : ℕ) → t < k → Holds w q t (length p)
      → ι (get_or (transposed m k p w) t 0) ≡ form (S p * q) t
  unfolding transposed
  transposed-pairing k p w q t g h = ap ι (table-entry k _ t 0 g) ∙ res-mod m pos (transposed_at p w t) ∙ transposed_at-pairing p w q t h

  pub transposed_sum-pairing : (k : ℕ) (p v q w : List ℕ) (r s : Series) (t : ℕ) → t < k → Holds v r t (length p) → Holds w s t (length q)
      → ι (get_or (transposed_sum m k p v q w) t 0) ≡ form (S p * r + S q * s) t
  unfolding transposed_sum
  transposed_sum-pairing k p v q w r s t g h i = ap ι (table-entry k _ t 0 g) ∙ res-mod m pos _
      ∙ res-add m pos (transposed_at p v t) (transposed_at q w t)
      ∙ ap₂ ◌⊕◌ (transposed_at-pairing p v r t h) (transposed_at-pairing q w s t i) ∙ sym (pairing-add R n u (S p * r) (S q * s) t)
