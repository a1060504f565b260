-- Norms that are tried by products, of which none waits for the one before it.
--   weighed f d i   entry i of d times a_{i+1}: for norm i it is (-1)^i c_2 .. c_{i+1}
--   Tried f d       the first is 1, and each with the one before it times its c adds up to a multiple of m
-- Proved of an accepted family: n numbers below m with zeros behind are tried so if and only if they are its norms. Assumes nothing.
use Rattle.std.specs.Prelude.{◌≡◌, List, [], ◌∷◌, ◌↔◌}
use Rattle.std.proofs.Math.Path.{sym, ap}
use Rattle.std.proofs.Common.{◌∙◌, arith}
use Prim.Native.Nat.{ℕ, zero, suc, ◌+◌, ◌*◌, ◌%◌, ◌<◌, ◌≤◌}
use Rattle.std.proofs.Math.Nat.{mod-lt, zero-mod}
use Rattle.std.proofs.Math.ListN.{length, get_or}
use Rattle.algebra.specs.Residues.{Zmod, res, res-injective, res-of-mod, mod-of-res}
use Rattle.algebra.specs.Ring.{CommRing}
use Rattle.algebra.specs.Solver.{linear, scaled, both, reify}
use Rattle.definitions.specs.Family.{Family, Accepted, rows, size, row_at}
use Rattle.definitions.specs.Number.{negative, HasInverse, inverse, table}
use Rattle.definitions.specs.Orthogonality.{signed_product, norm, norms}
use Rattle.definitions.specs.Prepared.{most_norms, padded}
use Rattle.numbers.specs.Inverse.{inverse-right}
use Rattle.numbers.specs.Lists.{table-length, table-entry}
use Rattle.numbers.specs.Residue.{bridge, residue-product-one}
use Rattle.prepared_model.specs.Padding.{padded-inside, padded-past, padded-unique}
use Rattle.prepared_model.specs.Parts.{Residues}

unfoldable pub weighed : Family → List ℕ → ℕ → ℕ
weighed f d i = get_or d i 0 * (row_at f i).a % f.m

pub record Tried (f : Family) (d : List ℕ) : Type 0 where
  pub first : weighed f d 0 ≡ 1
  pub next : (i : ℕ) → i < rows f → (weighed f d (suc i) + weighed f d i * (row_at f (suc i)).c) % f.m ≡ 0

module _ (m : ℕ) (two : 2 ≤ m) where
  abbrev pos : 0 < m
  pos = omega arith

  abbrev Q : CommRing
  Q = Zmod m pos

  open Q use {Car, zero as 𝟘, one as 𝟙, add as ◌⊕◌, mul as ◌⊗◌, neg as ⊖◌}

  infixl 60 ◌⊕◌
  infixl 70 ◌⊗◌
  infix 75 ⊖◌
  abbrev ι : ℕ → Q.Car
  ι = res m pos

  to-negative : (w x c : Car) → w ⊕ x ⊗ c ≡ 𝟘 → w ≡ x ⊗ ⊖ c
  to-negative w x c h = linear Q (w ∷ x ∷ c ∷ []) (scaled Q 𝟙 h) (search reify depth 20) tt

  from-negative : (w x c : Car) → w ≡ x ⊗ ⊖ c → w ⊕ x ⊗ c ≡ 𝟘
  from-negative w x c h = linear Q (w ∷ x ∷ c ∷ []) (scaled Q 𝟙 h) (search reify depth 20) tt

  to-quotient : (d a s v : Car) → a ⊗ v ≡ 𝟙 → d ⊗ a ≡ s → d ≡ s ⊗ v
  to-quotient d a s v unit h = linear Q (d ∷ a ∷ s ∷ v ∷ []) (both Q (scaled Q v h) (scaled Q (⊖ d) unit)) (search reify depth 20) tt

  from-quotient : (d a s v : Car) → a ⊗ v ≡ 𝟙 → d ≡ s ⊗ v → d ⊗ a ≡ s
  from-quotient d a s v unit h = linear Q (d ∷ a ∷ s ∷ v ∷ []) (both Q (scaled Q a h) (scaled Q s unit)) (search reify depth 20) tt

  opposite : (w x c : ℕ) → w < m → ((w + x * c) % m ≡ 0) ↔ (w ≡ x * negative m c % m)
  opposite w x c below = (
    λ e.
        let sum = res-of-mod m pos (w + x * c) 0 (e ∙ sym (zero-mod m)) in
        res-injective m pos w (x * negative m c % m) below (mod-lt _ pos) (simp bridge (to-negative (ι w) (ι x) (ι c) (simp bridge at sum))),
    λ e.
        let same = ap ι e in
        mod-of-res m pos (w + x * c) 0 (simp bridge (from-negative (ι w) (ι x) (ι c) (simp bridge at same))) ∙ zero-mod m,
  )

  cancelled : (d a s : ℕ) → HasInverse m a → d < m → s < m → (d * a % m ≡ s) ↔ (d ≡ s * inverse m a % m)
  cancelled d a s has d_below s_below =
      let unit = residue-product-one m pos a (inverse m a) (inverse-right m a pos has) in (
        λ e.
            let same = ap ι e in
            res-injective m pos d (s * inverse m a % m) d_below (mod-lt _ pos)
            (simp bridge (to-quotient (ι d) (ι a) (ι s) (ι (inverse m a)) unit (simp bridge at same))),
        λ e.
            let same = ap ι e in
            res-injective m pos (d * a % m) s (mod-lt _ pos) s_below
            (simp bridge (from-quotient (ι d) (ι a) (ι s) (ι (inverse m a)) unit (simp bridge at same))),
      )

module _ (f : Family) (accepted : Accepted f) (d : List ℕ) where
  abbrev q : ℕ
  q = f.m

  two : 2 ≤ q
  two = accepted.modulus.least

  positive : 0 < q
  positive = omega (arith, two)

  signed_below : (i : ℕ) → signed_product f i < q
  unfolding signed_product
  signed_below zero = omega (arith, two)
  signed_below (suc i) = mod-lt _ positive

  weighed-below : (i : ℕ) → weighed f d i < q
  unfolding weighed
  weighed-below i = mod-lt _ positive

  tried-signed : Tried f d → (i : ℕ) → i < size f → weighed f d i ≡ signed_product f i
  unfolding signed_product
  tried-signed tried zero h = tried.first
  tried-signed tried (suc i) h =
      (opposite q two (weighed f d (suc i)) (weighed f d i) (row_at f (suc i)).c (weighed-below (suc i))).0 (tried.next i (omega arith))
      ∙ ap (λ x. x * negative q (row_at f (suc i)).c % q) (tried-signed tried i (omega arith))

  module _ (kept : Residues q (size f) d) where
    each-norm : (i : ℕ) → i < size f → (weighed f d i ≡ signed_product f i) ↔ (get_or d i 0 ≡ norm f i)
    unfolding weighed norm
    each-norm i h =
        cancelled q two (get_or d i 0) (row_at f i).a (signed_product f i) (accepted.a_inverse i h) (kept.below i h) (signed_below i)

    pub tried-true : length d ≡ most_norms → size f ≤ most_norms → Tried f d → d ≡ padded most_norms (norms f)
    unfolding norms
    tried-true long few tried =
        let count : length (table (size f) (norm f)) ≡ size f = table-length (size f) (norm f) in
        padded-unique most_norms (table (size f) (norm f)) d long (omega arith)
        (λ i h. (each-norm i (omega arith)).0 (tried-signed tried i (omega arith)) ∙ sym (table-entry (size f) (norm f) i 0 (omega arith)))
        (λ i h. kept.zeros i (omega arith))

    norm-entry : d ≡ padded most_norms (norms f) → (i : ℕ) → i < size f → get_or d i 0 ≡ norm f i
    unfolding norms
    norm-entry e i h =
        ap (λ xs. get_or xs i 0) e ∙ padded-inside most_norms (table (size f) (norm f)) i (omega (arith, table-length (size f) (norm f)))
        ∙ table-entry (size f) (norm f) i 0 h

    pub true-tried : d ≡ padded most_norms (norms f) → Tried f d
    unfolding signed_product
    true-tried e =
        let is : (i : ℕ) → i < size f → weighed f d i ≡ signed_product f i = λ i h. (each-norm i h).1 (norm-entry e i h) in
        record {
          first = is 0 (omega arith);
          next = λ i h.
              (opposite q two (weighed f d (suc i)) (weighed f d i) (row_at f (suc i)).c (weighed-below (suc i))).1
              (is (suc i) (omega arith) ∙ ap (λ x. x * negative q (row_at f (suc i)).c % q) (sym (is i (omega arith))));
        }

  -- the norms are residues, with zeros behind
  pub norms-kept : d ≡ padded most_norms (norms f) → Residues q (size f) d
  unfolding norms norm
  norms-kept e =
      let count : length (table (size f) (norm f)) ≡ size f = table-length (size f) (norm f) in
      record {
        below = λ i h.
            rw (ap (λ xs. get_or xs i 0) e, padded-inside most_norms (table (size f) (norm f)) i (omega arith), table-entry (size f) (norm f) i 0 h)
            (mod-lt _ positive);
        zeros = λ i h. ap (λ xs. get_or xs i 0) e ∙ padded-past most_norms (table (size f) (norm f)) i (omega arith);
      }
