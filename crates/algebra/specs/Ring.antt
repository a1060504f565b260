-- Commutative rings with one, as one flat record, and the laws that follow from its fields.
--   CommRing : a commutative ring; its carrier `Car` is a set
--   sub R a b : a + (- b)
-- Every lemma takes the ring first. Past the few laws here, `Solver` proves any identity.
-- Assumes nothing.
use Rattle.std.specs.Prelude.{◌≡◌}
use Rattle.std.proofs.Common.{sym, ◌∙◌, ap, ap₂}

pub record CommRing : Type 1 where
  pub Car : Type 0
  pub is_set : IsSet Car
  pub zero : Car
  pub one : Car
  pub add : Car → Car → Car
  pub mul : Car → Car → Car
  pub neg : Car → Car
  pub add_assoc : (a b c : Car) → add (add a b) c ≡ add a (add b c)
  pub add_comm : (a b : Car) → add a b ≡ add b a
  pub add-zero : (a : Car) → add a zero ≡ a
  pub add-neg : (a : Car) → add a (neg a) ≡ zero
  pub mul_assoc : (a b c : Car) → mul (mul a b) c ≡ mul a (mul b c)
  pub mul_comm : (a b : Car) → mul a b ≡ mul b a
  pub mul-one : (a : Car) → mul a one ≡ a
  pub mul-add : (a b c : Car) → mul a (add b c) ≡ add (mul a b) (mul a c)

module _ (R : CommRing) where
  open R use {Car, zero as 𝟘, one as 𝟙, add as ◌+◌, mul as ◌*◌, neg as -◌}
  open R use {add_assoc, add_comm, add-zero, add-neg, mul_assoc, mul_comm, mul-one, mul-add}

  infixl 65 ◌+◌
  infixl 70 ◌*◌
  infix 75 -◌
  -- ---- the laws from the other side, and regrouping
  pub zero-add : (a : Car) → 𝟘 + a ≡ a
  zero-add a = add_comm 𝟘 a ∙ add-zero a

  pub neg-add-self : (a : Car) → - a + a ≡ 𝟘
  neg-add-self a = add_comm (- a) a ∙ add-neg a

  pub one-mul : (a : Car) → 𝟙 * a ≡ a
  one-mul a = mul_comm 𝟙 a ∙ mul-one a

  pub add-mul : (a b c : Car) → (a + b) * c ≡ a * c + b * c
  add-mul a b c = mul_comm (a + b) c ∙ mul-add c a b ∙ ap₂ ◌+◌ (mul_comm c a) (mul_comm c b)

  pub add_left_comm : (a b c : Car) → a + (b + c) ≡ b + (a + c)
  add_left_comm a b c = sym (add_assoc a b c) ∙ ap (λ t. t + c) (add_comm a b) ∙ add_assoc b a c

  pub mul_left_comm : (a b c : Car) → a * (b * c) ≡ b * (a * c)
  mul_left_comm a b c = sym (mul_assoc a b c) ∙ ap (λ t. t * c) (mul_comm a b) ∙ mul_assoc b a c

  pub add-interchange : (a b c d : Car) → (a + b) + (c + d) ≡ (a + c) + (b + d)
  add-interchange a b c d = add_assoc a b (c + d) ∙ ap (λ t. a + t) (add_left_comm b c d) ∙ sym (add_assoc a c (b + d))

  pub mul-interchange : (a b c d : Car) → (a * b) * (c * d) ≡ (a * c) * (b * d)
  mul-interchange a b c d = mul_assoc a b (c * d) ∙ ap (λ t. a * t) (mul_left_comm b c d) ∙ sym (mul_assoc a c (b * d))

  -- ---- cancelling
  pub add-cancel : (a b c : Car) → a + c ≡ b + c → a ≡ b
  add-cancel a b c h = sym (undo a) ∙ ap (λ t. t + - c) h ∙ undo b
    where
      undo : (x : Car) → (x + c) + - c ≡ x
      undo x = add_assoc x c (- c) ∙ ap (λ t. x + t) (add-neg c) ∙ add-zero x

  pub zero-mul : (a : Car) → 𝟘 * a ≡ 𝟘
  zero-mul a = add-cancel (𝟘 * a) 𝟘 (𝟘 * a) (sym (add-mul 𝟘 𝟘 a) ∙ ap (λ t. t * a) (add-zero 𝟘) ∙ sym (zero-add (𝟘 * a)))

  pub mul-zero : (a : Car) → a * 𝟘 ≡ 𝟘
  mul-zero a = mul_comm a 𝟘 ∙ zero-mul a

  -- ---- negatives
  pub neg_unique : (a b : Car) → a + b ≡ 𝟘 → - a ≡ b
  neg_unique a b h = add-cancel (- a) b a (neg-add-self a ∙ sym h ∙ add_comm a b)

  pub neg-zero : - 𝟘 ≡ 𝟘
  neg-zero = neg_unique 𝟘 𝟘 (add-zero 𝟘)

  pub neg-neg : (a : Car) → - - a ≡ a
  neg-neg a = neg_unique (- a) a (neg-add-self a)

  pub neg-add : (a b : Car) → - (a + b) ≡ - a + - b
  neg-add a b = neg_unique (a + b) (- a + - b) (add-interchange a b (- a) (- b) ∙ ap₂ ◌+◌ (add-neg a) (add-neg b) ∙ add-zero 𝟘)

  pub neg-mul : (a b : Car) → - a * b ≡ - (a * b)
  neg-mul a b = sym (neg_unique (a * b) (- a * b) (sym (add-mul a (- a) b) ∙ ap (λ t. t * b) (add-neg a) ∙ zero-mul b))

  pub mul-neg : (a b : Car) → a * - b ≡ - (a * b)
  mul-neg a b = mul_comm a (- b) ∙ neg-mul b a ∙ ap -◌ (mul_comm b a)

  -- ---- differences
  abbrev pub sub : Car → Car → Car
  sub a b = a + - b

  pub eq-of-sub : (a b : Car) → sub a b ≡ 𝟘 → a ≡ b
  eq-of-sub a b h = add-cancel a b (- b) (h ∙ sym (add-neg b))

  pub sub-of-eq : (a b : Car) → a ≡ b → sub a b ≡ 𝟘
  sub-of-eq a b h = ap (λ t. t + - b) h ∙ add-neg b
