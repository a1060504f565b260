-- F_n and G_{n-1} are Expand of 0 .. 0 1.
-- Proved: neither a row more at the end nor a row less at the front changes what a row further on reads; Expand of 0 .. 0 1 gives F_n on
-- `extended f` and G_{n-1} on `from_second (extended f)`, and so does the tree. Their coefficients are below m. These rest on the definitions
-- of specs/, which edits change. The report, Figure 3. Assumes nothing.
use Rattle.std.specs.Prelude.{◌≡◌, refl, List, [], ◌∷◌, ◌++◌, ℕ, zero, suc, ◌*◌, ◌%◌, ◌<◌, ◌≤◌, length, get_or, drop, replicate}
use Rattle.std.proofs.Common.{sym, ◌∙◌, ap, subst, mod-lt, mod-eq_of_lt, one-mul, zero-mul, arith}
use Rattle.std.proofs.Math.Path.{fun_ext}
use Rattle.std.proofs.lemmas.List.{length-replicate, get_or-replicate, get_or_at}
use Rattle.std.proofs.Math.ListN.{get_or-append}
use Rattle.definitions.specs.Conversion.{expand}
use Rattle.definitions.specs.Family.{Family, Row, rows, size, row_at, term, F, G}
use Rattle.definitions.specs.Number.{sum, table}
use Rattle.numbers.specs.Lists.{snoc-length, table-equal}
use Rattle.numbers.specs.Sums.{sum-zero}
use Rattle.theory.specs.Closing.{EqualLengths}
use Rattle.tree_model.specs.Tree.{tree_expand}
use Rattle.tree_model.proofs.TreeExpand.{tree-expand}
use Rattle.tree_model.specs.Extended.{extended, from_second, last_unit}

-- ---- rows
get_or-snoc : (xs : List ℕ) (x i : ℕ) → get_or (xs ++ x ∷ []) i x ≡ get_or xs i x
get_or-snoc [] x zero = refl
get_or-snoc [] x (suc i) = refl
get_or-snoc (y ∷ xs) x zero = refl
get_or-snoc (y ∷ xs) x (suc i) = get_or-snoc xs x i

get_or-rest : (xs : List ℕ) (x i : ℕ) → get_or (drop 1 xs) i x ≡ get_or xs (suc i) x
get_or-rest [] x i = refl
get_or-rest (y ∷ xs) x i = refl

row-extended : (f : Family) (i : ℕ) → row_at (extended f) i ≡ row_at f i
unfolding row_at extended
row-extended f i = rw (get_or-snoc f.a f.close.a i, get_or-snoc f.b f.close.b i, get_or-snoc f.c f.close.c i)

row-from_second : (f : Family) (i : ℕ) → row_at (from_second f) i ≡ row_at f (suc i)
unfolding row_at from_second
row-from_second f i = rw (get_or-rest f.a f.close.a i, get_or-rest f.b f.close.b i, get_or-rest f.c f.close.c i)

pub F-extended : (f : Family) (j i : ℕ) → F (extended f) j i ≡ F f j i
unfolding F extended
F-extended f j i = ap (λ row. term f.m row (suc j) i) (fun_ext (row-extended f))

pub F-from_second : (f : Family) (j i : ℕ) → F (from_second f) j i ≡ G f j i
unfolding F G from_second
F-from_second f j i = ap (λ row. term f.m row (suc j) i) (fun_ext (row-from_second f))

pub G-extended : (f : Family) (j i : ℕ) → G (extended f) j i ≡ G f j i
unfolding G extended
G-extended f j i = ap (λ row. term f.m row (suc j) i) (fun_ext (λ k. row-extended f (suc k)))

-- ---- sizes
rest-snoc-length : (xs : List ℕ) (x : ℕ) → length (drop 1 (xs ++ x ∷ [])) ≡ length xs
rest-snoc-length [] x = refl
rest-snoc-length (y ∷ xs) x = snoc-length xs x

pub extended-size : (f : Family) → size (extended f) ≡ suc (size f)
unfolding extended
extended-size f = ap suc (snoc-length f.a f.close.a)

pub from_second-size : (f : Family) → size (from_second (extended f)) ≡ size f
unfolding extended from_second
from_second-size f = ap suc (rest-snoc-length f.a f.close.a)

pub extended-lengths : (f : Family) → EqualLengths f → EqualLengths (extended f)
unfolding extended
extended-lengths f equal = record {
  b_length = snoc-length f.b f.close.b ∙ ap suc equal.b_length ∙ sym (snoc-length f.a f.close.a);
  c_length = snoc-length f.c f.close.c ∙ ap suc equal.c_length ∙ sym (snoc-length f.a f.close.a);
}

pub from_second-lengths : (f : Family) → EqualLengths f → EqualLengths (from_second (extended f))
unfolding extended from_second
from_second-lengths f equal = record {
  b_length = rest-snoc-length f.b f.close.b ∙ equal.b_length ∙ sym (rest-snoc-length f.a f.close.a);
  c_length = rest-snoc-length f.c f.close.c ∙ equal.c_length ∙ sym (rest-snoc-length f.a f.close.a);
}

-- ---- the list 0 .. 0 1
pub last_unit-length : (r : ℕ) → length (last_unit r) ≡ suc r
unfolding last_unit
last_unit-length r = snoc-length (replicate r 0) 1 ∙ ap suc (length-replicate r 0)

last_unit-zero : (r i : ℕ) → i < r → get_or (last_unit r) i 0 ≡ 0
unfolding last_unit
last_unit-zero r i h = get_or-append (replicate r 0) (1 ∷ []) 0 i (rw (length-replicate {A = ℕ} r 0) h) ∙ get_or-replicate r i 0 0 h

last_unit-one : (r : ℕ) → get_or (last_unit r) r 0 ≡ 1
unfolding last_unit
last_unit-one r = get_or_at (replicate r 0) 1 [] 0 r (length-replicate r 0)

-- ---- the last polynomial is Expand of 0 .. 0 1
term-below : (m : ℕ) (row : ℕ → Row) → 2 ≤ m → (k i : ℕ) → term m row k i < m
unfolding term
term-below m row h zero i = omega arith
term-below m row h (suc zero) zero = h
term-below m row h (suc zero) (suc i) = omega arith
term-below m row h (suc (suc k)) i = mod-lt _ (omega arith)

pub F-below : (f : Family) → 2 ≤ f.m → (j i : ℕ) → F f j i < f.m
unfolding F
F-below f h j i = term-below f.m (row_at f) h (suc j) i

pub G-below : (f : Family) → 2 ≤ f.m → (j i : ℕ) → G f j i < f.m
unfolding G
G-below f h j i = term-below f.m (λ i. row_at f (suc i)) h (suc j) i

sum-last_unit : (r : ℕ) (g : ℕ → ℕ) → sum (suc r) (λ j. get_or (last_unit r) j 0 * g j) ≡ g r
unfolding sum
sum-last_unit r g =
    let before : sum r (λ j. get_or (last_unit r) j 0 * g j) ≡ 0 =
    sum-zero r _ (λ j h. ap (λ x. x * g j) (last_unit-zero r j h) ∙ zero-mul (g j)) in
    let last : get_or (last_unit r) r 0 * g r ≡ g r = ap (λ x. x * g r) (last_unit-one r) ∙ one-mul (g r) in
    omega arith

expand-last : (f : Family) (r : ℕ) → 2 ≤ f.m → rows f ≡ r → expand f (last_unit r) ≡ table (suc r) (F f r)
unfolding expand
expand-last f r h e = subst (λ r. expand f (last_unit r) ≡ table (suc r) (F f r)) e
    (table-equal (size f) _ _ (λ i _. ap (λ x. x % f.m) (sum-last_unit (rows f) (λ j. F f j i)) ∙ mod-eq_of_lt (F-below f h (rows f) i)))

pub expand-F : (f : Family) → 2 ≤ f.m → expand (extended f) (last_unit (size f)) ≡ table (suc (size f)) (F f (size f))
unfolding extended
expand-F f h = expand-last (extended f) (size f) h (snoc-length f.a f.close.a)
    ∙ ap (table (suc (size f))) (fun_ext (F-extended f (size f)))

pub expand-G : (f : Family) → 2 ≤ f.m → expand (from_second (extended f)) (last_unit (rows f)) ≡ table (size f) (G f (rows f))
unfolding extended from_second
expand-G f h = expand-last (from_second (extended f)) (rows f) h (rest-snoc-length f.a f.close.a)
    ∙ ap (table (size f)) (fun_ext (λ i. F-from_second (extended f) (rows f) i ∙ G-extended f (rows f) i))

-- ---- by the tree
pub tree-F : (f : Family) → 2 ≤ f.m → EqualLengths f → tree_expand (extended f) (last_unit (size f)) ≡ table (suc (size f)) (F f (size f))
unfolding extended
tree-F f h equal = tree-expand (extended f) (omega arith) (extended-lengths f equal) (last_unit (size f))
    (last_unit-length (size f) ∙ sym (extended-size f)) ∙ expand-F f h

pub tree-G : (f : Family) → 2 ≤ f.m → EqualLengths f
    → tree_expand (from_second (extended f)) (last_unit (rows f)) ≡ table (size f) (G f (rows f))
unfolding extended from_second
tree-G f h equal = tree-expand (from_second (extended f)) (omega arith) (from_second-lengths f equal) (last_unit (rows f))
    (last_unit-length (rows f) ∙ sym (from_second-size f)) ∙ expand-G f h
