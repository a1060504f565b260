-- What `residue`'s inversion says of the definition's inverse, which is 0 where there is none.
-- Assumes nothing.
use Rattle.std.specs.Prelude.{◌≡◌, refl, ℕ, zero, suc, ◌<◌}
use Rattle.std.proofs.Common.{sym, arith}
use Rattle.definitions.specs.Number.{inverse, inverse_below}
use Rattle.residue.specs.Inversion.{SharesFactor}
use Rattle.numbers.specs.Inverse.{inverse-right, inverse-below, inverse-absent}

pub absent-zero : (m x g : ℕ) → SharesFactor m x g → 0 ≡ inverse m x
unfolding inverse inverse_below
absent-zero zero x g h = refl
absent-zero (suc m) x g h =
    let pos : 0 < suc m = omega arith in
    sym (inverse-absent (suc m) x (λ i. h.none (inverse (suc m) x) (inverse-below (suc m) x pos) (inverse-right (suc m) x pos i)))
