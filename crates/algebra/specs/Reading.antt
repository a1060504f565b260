-- Reading an element of a ring as an expression over a list of atoms, by `search`.
--   Read R ρ x : an expression whose value over the atoms ρ is x
--   Sides R ρ x y : one for each side of an equation, so that one search reads both
--   reify : the set of rules; `search reify depth 20` finds a value of `Sides R ρ x y`
-- The constructors of `Read` are the rules, with one more for each of the first twenty places of ρ: a search
-- counts the rules that fit, and so meets one for each occurrence of an atom.
-- Assumes nothing.
use Rattle.std.specs.Prelude.{◌≡◌, refl, List, ◌∷◌, ℕ}
use Rattle.std.proofs.Common.{ap, ap₂}
use Rattle.algebra.specs.Expression.{Expr, var, lit, add, mul, neg}
use Rattle.algebra.specs.Meaning.{atom, value}
use Rattle.algebra.specs.Numeral.{numeral, numeral-zero, numeral-one}
use Rattle.algebra.specs.Ring.{CommRing}

module _ (R : CommRing) where
  open R use {Car, zero as 𝟘, one as 𝟙, add as ◌⊕◌, mul as ◌⊗◌, neg as ⊖◌}

  infixl 65 ◌⊕◌
  infixl 70 ◌⊗◌
  infix 75 ⊖◌
  pub data Read (ρ : List Car) : Car → Type 0 where
    read-zero : Read ρ 𝟘
    read_one : Read ρ 𝟙
    read-numeral : (k : ℕ) → Read ρ (numeral R k)
    read-add : {x y : Car} → Read ρ x → Read ρ y → Read ρ (x ⊕ y)
    read-mul : {x y : Car} → Read ρ x → Read ρ y → Read ρ (x ⊗ y)
    read-neg : {x : Car} → Read ρ x → Read ρ (⊖ x)
    read-atom : {x : Car} (i : ℕ) → atom R ρ i ≡ x → Read ρ x

  pub data Sides (ρ : List Car) : Car → Car → Type 0 where
    sides : {x y : Car} → Read ρ x → Read ρ y → Sides ρ x y

  -- ---- the expression that was read, and its value
  abbrev pub expr : {ρ : List Car} {x : Car} → Read ρ x → Expr
  expr read-zero = lit 0
  expr read_one = lit 1
  expr (read-numeral k) = lit k
  expr (read-add a b) = add (expr a) (expr b)
  expr (read-mul a b) = mul (expr a) (expr b)
  expr (read-neg a) = neg (expr a)
  expr (read-atom i e) = var i

  pub value-expr : {ρ : List Car} {x : Car} (r : Read ρ x) → value R ρ (expr r) ≡ x
  value-expr read-zero = numeral-zero R
  value-expr read_one = numeral-one R
  value-expr (read-numeral k) = refl
  value-expr (read-add a b) = ap₂ ◌⊕◌ (value-expr a) (value-expr b)
  value-expr (read-mul a b) = ap₂ ◌⊗◌ (value-expr a) (value-expr b)
  value-expr (read-neg a) = ap ⊖◌ (value-expr a)
  value-expr (read-atom i e) = e

  -- ---- the atom at each place
  abbrev pub atom0 : {x : Car} {ρ : List Car} → Read (x ∷ ρ) x
  atom0 = read-atom 0 refl

  abbrev pub atom1 : {a x : Car} {ρ : List Car} → Read (a ∷ x ∷ ρ) x
  atom1 = read-atom 1 refl

  abbrev pub atom2 : {a b x : Car} {ρ : List Car} → Read (a ∷ b ∷ x ∷ ρ) x
  atom2 = read-atom 2 refl

  abbrev pub atom3 : {a b c x : Car} {ρ : List Car} → Read (a ∷ b ∷ c ∷ x ∷ ρ) x
  atom3 = read-atom 3 refl

  abbrev pub atom4 : {a b c d x : Car} {ρ : List Car} → Read (a ∷ b ∷ c ∷ d ∷ x ∷ ρ) x
  atom4 = read-atom 4 refl

  abbrev pub atom5 : {a b c d e x : Car} {ρ : List Car} → Read (a ∷ b ∷ c ∷ d ∷ e ∷ x ∷ ρ) x
  atom5 = read-atom 5 refl

  abbrev pub atom6 : {a b c d e f x : Car} {ρ : List Car} → Read (a ∷ b ∷ c ∷ d ∷ e ∷ f ∷ x ∷ ρ) x
  atom6 = read-atom 6 refl

  abbrev pub atom7 : {a b c d e f g x : Car} {ρ : List Car} → Read (a ∷ b ∷ c ∷ d ∷ e ∷ f ∷ g ∷ x ∷ ρ) x
  atom7 = read-atom 7 refl

  abbrev pub atom8 : {a b c d e f g h x : Car} {ρ : List Car} → Read (a ∷ b ∷ c ∷ d ∷ e ∷ f ∷ g ∷ h ∷ x ∷ ρ) x
  atom8 = read-atom 8 refl

  abbrev pub atom9 : {a b c d e f g h i x : Car} {ρ : List Car} → Read (a ∷ b ∷ c ∷ d ∷ e ∷ f ∷ g ∷ h ∷ i ∷ x ∷ ρ) x
  atom9 = read-atom 9 refl

  abbrev pub atom10 : {a b c d e f g h i j x : Car} {ρ : List Car} → Read (a ∷ b ∷ c ∷ d ∷ e ∷ f ∷ g ∷ h ∷ i ∷ j ∷ x ∷ ρ) x
  atom10 = read-atom 10 refl

  abbrev pub atom11 : {a b c d e f g h i j k x : Car} {ρ : List Car} → Read (a ∷ b ∷ c ∷ d ∷ e ∷ f ∷ g ∷ h ∷ i ∷ j ∷ k ∷ x ∷ ρ) x
  atom11 = read-atom 11 refl

  abbrev pub atom12 : {a b c d e f g h i j k l x : Car} {ρ : List Car} → Read (a ∷ b ∷ c ∷ d ∷ e ∷ f ∷ g ∷ h ∷ i ∷ j ∷ k ∷ l ∷ x ∷ ρ) x
  atom12 = read-atom 12 refl

  abbrev pub atom13 : {a b c d e f g h i j k l m x : Car} {ρ : List Car}
      → Read (a ∷ b ∷ c ∷ d ∷ e ∷ f ∷ g ∷ h ∷ i ∷ j ∷ k ∷ l ∷ m ∷ x ∷ ρ) x
  atom13 = read-atom 13 refl

  abbrev pub atom14 : {a b c d e f g h i j k l m n x : Car} {ρ : List Car}
      → Read (a ∷ b ∷ c ∷ d ∷ e ∷ f ∷ g ∷ h ∷ i ∷ j ∷ k ∷ l ∷ m ∷ n ∷ x ∷ ρ) x
  atom14 = read-atom 14 refl

  abbrev pub atom15 : {a b c d e f g h i j k l m n o x : Car} {ρ : List Car}
      → Read (a ∷ b ∷ c ∷ d ∷ e ∷ f ∷ g ∷ h ∷ i ∷ j ∷ k ∷ l ∷ m ∷ n ∷ o ∷ x ∷ ρ) x
  atom15 = read-atom 15 refl

  abbrev pub atom16 : {a b c d e f g h i j k l m n o p x : Car} {ρ : List Car}
      → Read (a ∷ b ∷ c ∷ d ∷ e ∷ f ∷ g ∷ h ∷ i ∷ j ∷ k ∷ l ∷ m ∷ n ∷ o ∷ p ∷ x ∷ ρ) x
  atom16 = read-atom 16 refl

  abbrev pub atom17 : {a b c d e f g h i j k l m n o p q x : Car} {ρ : List Car}
      → Read (a ∷ b ∷ c ∷ d ∷ e ∷ f ∷ g ∷ h ∷ i ∷ j ∷ k ∷ l ∷ m ∷ n ∷ o ∷ p ∷ q ∷ x ∷ ρ) x
  atom17 = read-atom 17 refl

  abbrev pub atom18 : {a b c d e f g h i j k l m n o p q r x : Car} {ρ : List Car}
      → Read (a ∷ b ∷ c ∷ d ∷ e ∷ f ∷ g ∷ h ∷ i ∷ j ∷ k ∷ l ∷ m ∷ n ∷ o ∷ p ∷ q ∷ r ∷ x ∷ ρ) x
  atom18 = read-atom 18 refl

  abbrev pub atom19 : {a b c d e f g h i j k l m n o p q r s x : Car} {ρ : List Car}
      → Read (a ∷ b ∷ c ∷ d ∷ e ∷ f ∷ g ∷ h ∷ i ∷ j ∷ k ∷ l ∷ m ∷ n ∷ o ∷ p ∷ q ∷ r ∷ s ∷ x ∷ ρ) x
  atom19 = read-atom 19 refl

pub ruleset atoms-below-ten = (atom0, atom1, atom2, atom3, atom4, atom5, atom6, atom7, atom8, atom9)

pub ruleset atoms-from-ten = (atom10, atom11, atom12, atom13, atom14, atom15, atom16, atom17, atom18, atom19)

pub ruleset reify = (sides, read-add, read-mul, read-neg, read-zero, read_one, read-numeral, atoms-below-ten, atoms-from-ten)
