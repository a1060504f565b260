-- The quotient of two power series as the definitions compute it, coefficient by coefficient.
-- Proves its length, that a longer quotient begins with the shorter one, that its entries are below m, and that it is the
-- quotient: q d has the coefficients of g modulo m as far as q goes, where d_0 has an inverse.
-- The scope paper, 'The definitions', moments. Assumes nothing.
use Rattle.std.specs.Prelude.{◌≡◌, List, [], ◌∷◌, ◌++◌, ◌⊎◌, length, get_or}
use Rattle.std.proofs.Math.Path.{refl, ap}
use Rattle.std.proofs.Common.{sym, ◌∙◌, inl, inr, mod-lt, eq-or-lt_of_le, arith}
use Prim.Native.Nat.{ℕ, zero, suc, ◌-◌, ◌<◌, ◌≤◌}
use Rattle.algebra.specs.Order.{AgreeBelow}
use Rattle.algebra.specs.Quotient.{mul-of-steps}
use Rattle.algebra.specs.Residues.{Zmod, res, res-add, res-mul, res-mod}
use Rattle.algebra.specs.Ring.{CommRing}
use Rattle.algebra.specs.Series.{Ser, gen, co, co-gen}
use Rattle.algebra.specs.Sum as Sum
use Rattle.algebra.specs.Unit.{IsUnit}
use Rattle.definitions.specs.Number.{HasInverse, inverse}
use Rattle.definitions.specs.Orthogonality.{next_quotient, quotient}
use Rattle.numbers.specs.Lists.{snoc-length, snoc-entry, snoc-last}
use Rattle.numbers.specs.Residue.{residue-sum, residue-negative, residue-inverse}
use Rattle.theory.specs.Bridge.{entries}

module _ (m : ℕ) (g d : List ℕ) where
  pub quotient-length : (k : ℕ) → length (quotient m g d k) ≡ k
  unfolding quotient
  quotient-length zero = refl
  quotient-length (suc k) = snoc-length (quotient m g d k) (next_quotient m g d k (quotient m g d k)) ∙ ap suc (quotient-length k)

  pub quotient-suc : (k : ℕ) → quotient m g d (suc k) ≡ quotient m g d k ++ next_quotient m g d k (quotient m g d k) ∷ []
  unfolding quotient
  quotient-suc k = refl

  -- one coefficient more changes none before it
  quotient-kept : (k i : ℕ) → i < k → get_or (quotient m g d (suc k)) i 0 ≡ get_or (quotient m g d k) i 0
  quotient-kept k i h = rw (quotient-suc k)
      (snoc-entry (quotient m g d k) (next_quotient m g d k (quotient m g d k)) i 0 (rw (quotient-length k) h))

  pub quotient-entry : (j k i : ℕ) → i < j → j ≤ k → get_or (quotient m g d k) i 0 ≡ get_or (quotient m g d j) i 0
  quotient-entry j zero i h l = absurd (omega arith)
  quotient-entry j (suc k) i h l = at (eq-or-lt_of_le l) (quotient-entry j k i h)
    where
      at : (j ≡ suc k) ⊎ (j < suc k) → (j ≤ k → get_or (quotient m g d k) i 0 ≡ get_or (quotient m g d j) i 0)
          → get_or (quotient m g d (suc k)) i 0 ≡ get_or (quotient m g d j) i 0
      at (inl same) ih = rw same
      at (inr less) ih = quotient-kept k i (omega arith) ∙ ih (omega arith)

  pub quotient-next : (n k : ℕ) → k < n → get_or (quotient m g d n) k 0 ≡ next_quotient m g d k (quotient m g d k)
  quotient-next n k h = quotient-entry (suc k) n k (omega arith) h
      ∙ rw (quotient-suc k) (snoc-last (quotient m g d k) (next_quotient m g d k (quotient m g d k)) k 0 (quotient-length k))

  pub quotient-below : 0 < m → (n k : ℕ) → k < n → get_or (quotient m g d n) k 0 < m
  unfolding next_quotient
  quotient-below pos n k h = rw (quotient-next n k h) (mod-lt _ pos)

  -- ---- as residues
  module _ (pos : 0 < m) where
    abbrev Q : CommRing
    Q = Zmod m pos

    open Q use {add as ◌⊕◌, mul as ◌⊗◌, neg as ⊖◌}
    open Ser Q use {Car as Series, mul as ◌*◌}

    infixl 65 ◌⊕◌
    infixl 70 ◌⊗◌ ◌*◌
    infix 75 ⊖◌
    abbrev ι : ℕ → Q.Car
    ι = res m pos

    abbrev E : List ℕ → ℕ → Q.Car
    E = entries m pos

    abbrev series : List ℕ → Series
    series u = gen Q (E u)

    -- the inverse of d_0
    abbrev d₀⁻¹ : Q.Car
    d₀⁻¹ = ι (inverse m (get_or d 0 0))

    res-next_quotient : (k : ℕ) (q : List ℕ) → ι (next_quotient m g d k q)
        ≡ (E g k ⊕ ⊖ Sum.sum Q k (λ j. E q j ⊗ E d (k - j))) ⊗ d₀⁻¹
    unfolding next_quotient
    res-next_quotient k q = simp (res-mod m pos, res-mul m pos, res-add m pos, residue-negative m pos, residue-sum m pos)

    pub quotient-mul : HasInverse m (get_or d 0 0) → (n : ℕ) → AgreeBelow Q n (series (quotient m g d n) * series d) (series g)
    quotient-mul h n = mul-of-steps Q (series d) unit (series g) (series (quotient m g d n)) n (λ k l. simp (co-gen Q) (step k l))
      where
        unit : IsUnit Q (co Q (series d) 0)
        unit = (d₀⁻¹, ap (λ t. t ⊗ d₀⁻¹) (co-gen Q (E d) 0) ∙ residue-inverse m pos (get_or d 0 0) h)

        step : (k : ℕ) → k < n → E (quotient m g d n) k
            ≡ (E g k ⊕ ⊖ Sum.sum Q k (λ j. E (quotient m g d n) j ⊗ E d (k - j))) ⊗ d₀⁻¹
        step k l = ap ι (quotient-next n k l) ∙ res-next_quotient k (quotient m g d k)
            ∙ ap (λ t. (E g k ⊕ ⊖ t) ⊗ d₀⁻¹)
            (Sum.sum-cong Q k (λ j p. ap (λ t. ι t ⊗ E d (k - j)) (sym (quotient-entry k n j p (omega arith)))))
