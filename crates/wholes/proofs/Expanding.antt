-- Expand over the whole numbers, joined on two moduli, is exact.
-- Proved: where every true coefficient lies in the range of m m', the joined values of the lists modulo m and modulo m' are the true
-- coefficients (joined-true). It rests on Joined of proofs/. Assumes nothing.
use Rattle.std.specs.Prelude.{true, ℤ, pos}
use mathlib.Core.List.{List}
use Rattle.std.proofs.Math.Path.{◌≡◌}
use Rattle.std.proofs.Common.{sym, ◌∙◌, ap₂, arith}
use Prim.Native.Nat.{ℕ, ◌*◌, ◌≤◌}
use Rattle.std.proofs.Math.ListN.{length}
use Rattle.definitions.specs.Number.{HasInverse}
use Rattle.joining.specs.Whole.{in_range, joined, joined_list}
use Rattle.joining.specs.Expanding.{Signed, coefficient, whole_expand}
use Rattle.joining.specs.Expanding.{reduced_expand}
use Rattle.wholes.proofs.Joined.{joined-exact}
use Rattle.wholes.specs.Lists.{joined-list-is}
use Rattle.wholes.specs.Expanding.{whole-expand-length, whole-expand-entry, coefficient-remainder, reduced-expand-length}

-- ---- on both moduli
pub joined-true : (m m' : ℕ) → 2 ≤ m → 2 ≤ m' → HasInverse m' m → (s : Signed) (u : List ℤ)
    → ((i : ℕ) → i ≤ length s.a → in_range (m * m') (coefficient s u i) ≡ true)
    → joined_list m m' (reduced_expand m s u) (reduced_expand m' s u) ≡ whole_expand s u
joined-true m m' two two' apart s u small =
    sym (joined-list-is m m' (reduced_expand m s u) (reduced_expand m' s u) (whole_expand s u)
    (reduced-expand-length m' two' s u ∙ sym (reduced-expand-length m two s u)) (whole-expand-length s u ∙ sym (reduced-expand-length m two s u))
    (λ i h.
    let l : i ≤ length s.a = omega (arith, reduced-expand-length m two s u) in
    whole-expand-entry s u i (pos 0) l ∙ sym (ap₂ (joined m m') (sym (coefficient-remainder m two s u i l)) (sym (coefficient-remainder m' two' s u i l))
    ∙ joined-exact m m' (omega arith) (omega arith) apart (coefficient s u i) (small i l))))
