-- Ring expressions and their normal forms: computation only, for `Solver`.
--   Expr : expressions over numbered variables
--   Poly : a sum of terms (p - q)·m sorted by m, where the monomial m is the sorted list of its variables
--   normal e : the normal form of e, in which terms may have p = q
--   left_over a b : the terms of a - b that do not cancel
--   Same a b : the type of a proof that nothing is left: `tt`, or an empty type that shows what is left
-- All of it is `abbrev`, since the solver's check runs it. Assumes nothing.
use Rattle.std.specs.Prelude.{List, [], ◌∷◌}
use Prim.Native.Nat.{ℕ, ◌+◌, ◌*◌, compare, Ordering}

pub data Expr : Type 0 where
  var : ℕ → Expr
  lit : ℕ → Expr
  add : Expr → Expr → Expr
  mul : Expr → Expr → Expr
  neg : Expr → Expr

pub data Poly : Type 0 where
  done : Poly
  term : ℕ → ℕ → List ℕ → Poly → Poly

-- ---- monomials
abbrev pub order : List ℕ → List ℕ → Ordering
order [] [] = Ordering.eq
order [] (j ∷ n) = Ordering.lt
order (i ∷ m) [] = Ordering.gt
order (i ∷ m) (j ∷ n) = elim (compare i j) [ Ordering.lt ↦ Ordering.lt | Ordering.eq ↦ order m n | Ordering.gt ↦ Ordering.gt ]

abbrev pub insert : ℕ → List ℕ → List ℕ
insert i [] = i ∷ []
insert i (j ∷ m) = elim (compare i j) [ Ordering.lt ↦ i ∷ j ∷ m | Ordering.eq ↦ i ∷ j ∷ m | Ordering.gt ↦ j ∷ insert i m ]

abbrev pub merge : List ℕ → List ℕ → List ℕ
merge [] n = n
merge (i ∷ m) n = insert i (merge m n)

-- ---- sums of terms
-- the term (p - q)·m added to a sum
abbrev pub add_term : ℕ → ℕ → List ℕ → Poly → Poly
add_term p q m done = term p q m done
add_term p q m (term p' q' m' s) =
    elim (order m m') [
      | Ordering.lt ↦ term p q m (term p' q' m' s)
      | Ordering.eq ↦ term (p + p') (q + q') m s
      | Ordering.gt ↦ term p' q' m' (add_term p q m s)
    ]

abbrev pub plus : Poly → Poly → Poly
plus done t = t
plus (term p q m s) t = add_term p q m (plus s t)

abbrev pub negate : Poly → Poly
negate done = done
negate (term p q m s) = term q p m (negate s)

-- the term (p - q)·m times s, added to t
abbrev pub add_scaled : ℕ → ℕ → List ℕ → Poly → Poly → Poly
add_scaled p q m done t = t
add_scaled p q m (term p' q' m' s) t = add_term (p * p' + q * q') (p * q' + q * p') (merge m m') (add_scaled p q m s t)

abbrev pub times : Poly → Poly → Poly
times done t = done
times (term p q m s) t = add_scaled p q m t (times s t)

-- ---- expressions
abbrev pub normal : Expr → Poly
normal (var i) = term 1 0 (i ∷ []) done
normal (lit k) = term k 0 [] done
normal (add a b) = plus (normal a) (normal b)
normal (mul a b) = times (normal a) (normal b)
normal (neg a) = negate (normal a)

-- without the terms whose two coefficients agree
abbrev pub cancelled : Poly → Poly
cancelled done = done
cancelled (term p q m s) = elim (compare p q)
    [ Ordering.lt ↦ term p q m (cancelled s) | Ordering.eq ↦ cancelled s | Ordering.gt ↦ term p q m (cancelled s) ]

abbrev pub left_over : Expr → Expr → Poly
left_over a b = cancelled (normal (add a (neg b)))

-- ---- the check
-- `Remains 3 1 (0 ∷ 2 ∷ []) s` says that (3 - 1) times the product of atoms 0 and 2 is left, and then s; it has no proof
pub data Remains : ℕ → ℕ → List ℕ → Poly → Type 0 where

abbrev pub Nothing : Poly → Type 0
Nothing done = Unit {0}
Nothing (term p q m s) = Remains p q m s

abbrev pub Same : Expr → Expr → Type 0
Same a b = Nothing (left_over a b)
