-- The joined values of two lists of one length.
-- Proved: there are as many, and each is that of its place (joined-list-entry); a list of these is theirs (joined-list-is). What they leave
-- stands in Lists of proofs/. Assumes nothing.
use Rattle.std.specs.Prelude.{List, [], ◌∷◌, ◌≡◌, refl, ℕ, zero, suc, ◌<◌, ℤ, pos, length, get_or}
use Rattle.std.proofs.Common.{sym, ◌∙◌, ap, arith, ext_get_or}
use Rattle.joining.specs.Whole.{joined, joined_list}

pub joined-list-length : (m m' : ℕ) (xs ys : List ℕ) → length ys ≡ length xs → length (joined_list m m' xs ys) ≡ length xs
unfolding joined_list
joined-list-length m m' [] ys e = refl
joined-list-length m m' (x ∷ xs) [] e = absurd (omega arith)
joined-list-length m m' (x ∷ xs) (y ∷ ys) e = ap suc (joined-list-length m m' xs ys (omega arith))

pub joined-list-entry : (m m' : ℕ) (xs ys : List ℕ) (i : ℕ) (d : ℤ) → length ys ≡ length xs → i < length xs
    → get_or (joined_list m m' xs ys) i d ≡ joined m m' (get_or xs i 0) (get_or ys i 0)
unfolding joined_list
joined-list-entry m m' [] ys i d e h = absurd (omega arith)
joined-list-entry m m' (x ∷ xs) [] i d e h = absurd (omega arith)
joined-list-entry m m' (x ∷ xs) (y ∷ ys) zero d e h = refl
joined-list-entry m m' (x ∷ xs) (y ∷ ys) (suc i) d e h = joined-list-entry m m' xs ys i d (omega arith) (omega arith)

pub joined-list-is : (m m' : ℕ) (xs ys : List ℕ) (vs : List ℤ) → length ys ≡ length xs → length vs ≡ length xs
    → ((i : ℕ) → i < length xs → get_or vs i (pos 0) ≡ joined m m' (get_or xs i 0) (get_or ys i 0)) → vs ≡ joined_list m m' xs ys
joined-list-is m m' xs ys vs e f each =
    ext_get_or (pos 0) vs (joined_list m m' xs ys) (f ∙ sym (joined-list-length m m' xs ys e))
    (λ i h. each i (omega arith) ∙ sym (joined-list-entry m m' xs ys i (pos 0) e (omega arith)))
