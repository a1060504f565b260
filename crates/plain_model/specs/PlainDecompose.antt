-- Horner's rule in the basis F is Decompose.
--   InvertsA f d   2 ≤ m, and d holds inverses of the a of rows 1 to r
-- Proves that the plain model after i steps is the curve of the i top powers of p, each lowered by n - i, so that its answer is the
-- one curve that Expand takes to p. Nothing is asked of the c. The scope paper, 'The definitions': decomposing works down from the
-- top power. Assumes nothing.
use Rattle.std.specs.Prelude.{◌≡◌, List, [], ◌∷◌, length, get_or}
use Rattle.std.proofs.Math.Path.{sym, ap, fun_ext}
use Rattle.std.proofs.Common.{◌∙◌, ap₂, add-zero, zero-add}
use Prim.Native.Nat.{ℕ, zero, suc, ◌%◌, ◌<◌, ◌≤◌, ◌+◌ as ◌+ℕ◌, ◌-◌ as ◌-ℕ◌, ◌*◌ as ◌*ℕ◌}
use native.Mathlib.Omega.{arith}
use Rattle.algebra.specs.Residues.{Zmod, res, res-zero, res-add, res-mul, res-mod}
use Rattle.algebra.specs.Ring
use Rattle.algebra.specs.Ring.{CommRing}
use Rattle.algebra.specs.Solver.{ring, linear, scaled, both, reify}
use Rattle.algebra.specs.Sum.{sum-vanish}
use Rattle.algebra.specs.Variable.{shift}
use Rattle.definitions.specs.Conversion.{expand, decompose}
use Rattle.definitions.specs.Family.{Family, Curve, rows, size, row_at, times_x}
use Rattle.definitions.specs.Number.{HasInverse}
use Rattle.numbers.specs.Residue.{residue-negative, residue-product-one}
use Rattle.theory.specs.Bridge.{entries, entries-past, rows_of, entries-expand, expand-curve}
use Rattle.theory.specs.Combination.{combination, combination-last, combination-cong}
use Rattle.theory.specs.Recurrence.{Rows, term, degree}
use Rattle.theory.specs.RoundTrip.{Decomposable, decompose-unique}
use Rattle.theory.specs.Curves.{curves-equal-residues}
use Rattle.plain_model.specs.Entries.{entries-zeros, entries-table, entry_zero}
use Rattle.plain_model.specs.Horner.{times_variable, times_variable-ends, horner-combination}
use Rattle.plain_model.specs.PlainModels.{constant, divide, decompose_entry, decompose_step}
use Rattle.plain_model.specs.PlainModels.{decompose_state, plain_decompose, decompose_state-curve}

pub record InvertsA (f : Family) (d : List ℕ) : Type 0 where
  pub modulus : 2 ≤ f.m
  pub inverts : (i : ℕ) → i < rows f → (row_at f i).a *ℕ get_or d i 0 % f.m ≡ 1

pub inverts-decomposable : (f : Family) (d : List ℕ) → InvertsA f d → Decomposable f
unfolding HasInverse
inverts-decomposable f d v = record { modulus = v.modulus; a_inverse = λ i h. (get_or d i 0, v.inverts i h) }

module _ (f : Family) (pos : 0 < f.m) (d : List ℕ) where
  abbrev m : ℕ
  m = f.m

  abbrev Q : CommRing
  Q = Zmod m pos

  abbrev ρ : Rows Q
  ρ = rows_of f pos

  open Q use {Car, zero as 𝟘, one as 𝟙, add as ◌⊕◌, mul as ◌⊗◌}

  infixl 65 ◌⊕◌
  infixl 70 ◌⊗◌
  abbrev ι : ℕ → Car
  ι = res m pos

  abbrev E : List ℕ → ℕ → Car
  E = entries m pos

  -- w ends before place k
  abbrev EndsBefore : ℕ → List ℕ → Type 0
  EndsBefore k w = (j : ℕ) → k ≤ j → E w j ≡ 𝟘

  divide-entries : (w : List ℕ) → EndsBefore (size f) w → (j : ℕ) → E (divide f d w) j ≡ E w j ⊗ E d j
  unfolding divide
  divide-entries w ends = entries-table m pos (size f) _ (λ j. E w j ⊗ E d j)
      (λ j h. simp (res-mod m pos, res-mul m pos)) (λ j h. ap (λ t. t ⊗ E d j) (ends j h) ∙ Ring.zero-mul Q (E d j))

  decompose_entry-residue : (y : ℕ) (q : List ℕ) (j : ℕ)
      → ι (decompose_entry m y (row_at f j).b (row_at f (suc j)).c q j) ≡ ι y ⊗ term Q ρ 1 j ⊕ times_variable Q ρ (E q) j
  unfolding decompose_entry constant times_x term
  decompose_entry-residue y q zero = simp (res-mod m pos, res-add m pos, res-mul m pos, residue-negative m pos, res-zero m pos)
      (ring Q (ι y ∷ ρ.b 0 ∷ ρ.c 1 ∷ E q 0 ∷ E q 1 ∷ []) (search reify depth 20) tt)
  decompose_entry-residue y q (suc j) = simp (res-mod m pos, res-add m pos, res-mul m pos, residue-negative m pos, res-zero m pos)
      (ring Q (ι y ∷ ρ.b (suc j) ∷ ρ.c (suc (suc j)) ∷ E q j ∷ E q (suc j) ∷ E q (suc (suc j)) ∷ []) (search reify depth 20) tt)

  -- ---- one step of the model, where w holds i terms
  module _ (y i : ℕ) (w : List ℕ) (room : i ≤ rows f) (ends : EndsBefore i w) where
    abbrev q : List ℕ
    q = divide f d w

    divided : (j : ℕ) → E q j ≡ E w j ⊗ E d j
    divided = divide-entries w (λ j h. ends j (omega arith))

    divided-ends : EndsBefore i q
    divided-ends j h = divided j ∙ ap (λ t. t ⊗ E d j) (ends j h) ∙ Ring.zero-mul Q (E d j)

    next-ends : (j : ℕ) → suc i ≤ j → ι y ⊗ term Q ρ 1 j ⊕ times_variable Q ρ (E q) j ≡ 𝟘
    next-ends j h = ap₂ (λ s t. ι y ⊗ s ⊕ t) (degree Q ρ 1 j (omega arith)) (times_variable-ends Q ρ i (E q) divided-ends j h)
        ∙ Q.add-zero (ι y ⊗ 𝟘) ∙ Ring.mul-zero Q (ι y)

    decompose_step-entries : (j : ℕ) → E (decompose_step f y q) j ≡ ι y ⊗ term Q ρ 1 j ⊕ times_variable Q ρ (E q) j
    unfolding decompose_step
    decompose_step-entries = entries-table m pos (size f) _ _ (λ j h. decompose_entry-residue y q j) (λ j h. next-ends j (omega arith))

    decompose_step-ends : EndsBefore (suc i) (decompose_step f y q)
    decompose_step-ends j h = decompose_step-entries j ∙ next-ends j h

    -- a_{j+1} times what was divided by it; the last place is still empty
    module _ (inverts : InvertsA f d) where
      restored-entry : (j : ℕ) → j < rows f → ρ.a j ⊗ E q j ≡ E w j
      restored-entry j h =
          let inverse-at = residue-product-one m pos (row_at f j).a (get_or d j 0) (inverts.inverts j h) in
          linear Q (ρ.a j ∷ E q j ∷ E w j ∷ E d j ∷ []) (both Q (scaled Q (ρ.a j) (divided j)) (scaled Q (E w j) inverse-at))
          (search reify depth 20) tt

      restored : (t : ℕ) → combination Q ρ (rows f) (λ j. ρ.a j ⊗ E q j) t ≡ combination Q ρ (size f) (E w) t
      restored t = combination-cong Q ρ (rows f) t restored-entry
          ∙ sym (combination-last Q ρ (rows f) (E w) t
          ∙ rw (ends (rows f) room, Ring.zero-mul Q (term Q ρ (size f) t)) (Q.add-zero (combination Q ρ (rows f) (E w) t)))

      decompose_step-combination : (t : ℕ) → combination Q ρ (size f) (E (decompose_step f y q)) t
          ≡ ι y ⊗ term Q ρ 1 t ⊕ shift Q (combination Q ρ (size f) (E w)) t
      decompose_step-combination t = combination-cong Q ρ (size f) t (λ j h. decompose_step-entries j)
          ∙ horner-combination Q ρ (rows f) (ι y) (E q) (λ j h. divided-ends j (omega arith)) t
          ∙ ap (λ p. ι y ⊗ term Q ρ 1 t ⊕ shift Q p t) (fun_ext restored)

  -- ---- all steps: i powers taken in, from the top one down
  module _ (p : List ℕ) where
    state-ends : (i : ℕ) → i ≤ size f → EndsBefore i (decompose_state f d p i)
    unfolding decompose_state
    state-ends zero h j l = entries-zeros m pos (size f) j
    state-ends (suc i) h j l = decompose_step-ends (get_or p (rows f -ℕ i) 0) i (decompose_state f d p i) (omega arith)
        (state-ends i (omega arith)) j l

    -- nothing stands from place i on, so a loop may stop there
    pub decompose_state-ends : (i j : ℕ) → i ≤ size f → i ≤ j → get_or (decompose_state f d p i) j 0 ≡ 0
    decompose_state-ends i j b h = entry_zero f pos (decompose_state f d p i) (decompose_state-curve f pos d p i) j (state-ends i b j h)

    powers-next : (k t : ℕ) → E p k ⊗ term Q ρ 1 t ⊕ shift Q (λ s. E p (suc k +ℕ s)) t ≡ E p (k +ℕ t)
    unfolding term
    powers-next k zero = Q.add-zero (E p k ⊗ 𝟙) ∙ Q.mul-one (E p k) ∙ ap (E p) (sym (add-zero k))
    powers-next k (suc t) = ap (λ x. x ⊕ E p (suc k +ℕ t)) (Ring.mul-zero Q (E p k)) ∙ Ring.zero-add Q (E p (suc k +ℕ t))
        ∙ ap (E p) (omega arith)

    module _ (inverts : InvertsA f d) (short : length p ≤ size f) where
      state-powers : (i k : ℕ) → k +ℕ i ≡ size f → (t : ℕ) → combination Q ρ (size f) (E (decompose_state f d p i)) t ≡ E p (k +ℕ t)
      unfolding decompose_state
      state-powers zero k e t = sum-vanish Q (size f)
          (λ j h. ap (λ x. x ⊗ term Q ρ (suc j) t) (entries-zeros m pos (size f) j) ∙ Ring.zero-mul Q (term Q ρ (suc j) t))
          ∙ sym (entries-past m pos p (k +ℕ t) (omega arith))
      state-powers (suc i) k e t =
          let here : rows f -ℕ i ≡ k = omega arith in
          rw here (decompose_step-combination (get_or p k 0) i (decompose_state f d p i) (omega arith) (state-ends i (omega arith)) inverts t
          ∙ ap (λ s. E p k ⊗ term Q ρ 1 t ⊕ shift Q s t) (fun_ext (state-powers i (suc k) (omega arith))) ∙ powers-next k t)

      plain_decompose-back : Curve f p → expand f (plain_decompose f d p) ≡ p
      unfolding plain_decompose
      plain_decompose-back cp = curves-equal-residues f (expand f (plain_decompose f d p)) p
          (expand-curve f pos (plain_decompose f d p)) cp pos
          (λ i h. entries-expand f pos (plain_decompose f d p) i h ∙ state-powers (size f) 0 (zero-add (size f)) i ∙ ap (E p) (zero-add i))

pub plain_decompose-decompose : (f : Family) (d p : List ℕ) → InvertsA f d → Curve f p → plain_decompose f d p ≡ decompose f p
unfolding plain_decompose
plain_decompose-decompose f d p v cp =
    let two : 2 ≤ f.m = v.modulus in
    let pos : 0 < f.m = omega arith in
    let long : length p ≡ size f = cp.long in
    decompose-unique f (inverts-decomposable f d v) p (plain_decompose f d p) cp (decompose_state-curve f pos d p (size f))
    (plain_decompose-back f pos d p v (omega arith) cp)
