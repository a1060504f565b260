-- The sizes of a job.
--   Fits   what the counts and lengths are when size_tests pass
-- Proved: what passing says of the sizes (lengths-shaped, sizes-shape, sizes-fit); a bound of the curve. Assumes nothing.
use Rattle.std.specs.Prelude.{◌≡◌, [], ◌∷◌, ℕ, suc, ◌≤◌}
use Rattle.std.proofs.Common.{arith}
use Rattle.definitions.specs.Family.{most_rows}
use Rattle.definitions.specs.Refusals.{work_length, work_test, shape_tests}
use Rattle.definitions.specs.TextCall.{text_output_length, curve_count, length_tests, size_tests}
use Rattle.definitions.specs.declared.Operation.{Operation}
use Rattle.acceptance.specs.Verdicts.{None, none-append, curve-length-passes, text-output-passes, work-passes}
use Rattle.checks.specs.Shape.{Shaped, shape-passes}

-- the lengths have passed, so the family has a shape
pub lengths-shaped : (m : ℕ) (operation : Operation) (a b c u least output : ℕ) → None (length_tests m operation a b c u least output)
    → Shaped m a b c
unfolding length_tests
lengths-shaped m operation a b c u least output n = shape-passes m a b c ((none-append (shape_tests m a b c) _).0 n).0

pub record Fits (operation : Operation) (a b c u output work : ℕ) : Type 0 where
  pub b_rows : b ≡ a
  pub c_rows : c ≡ a
  pub few : a ≤ most_rows
  pub curve : u ≡ curve_count operation a
  pub text : text_output_length ≤ output
  pub room : work_length ≤ work

pub sizes-shape : (m : ℕ) (operation : Operation) (a b c u output work : ℕ) → None (size_tests m operation a b c u output work)
    → None (shape_tests m a b c)
unfolding size_tests length_tests
sizes-shape m operation a b c u output work n =
    ((none-append (shape_tests m a b c) _).0 ((none-append (length_tests m operation a b c u text_output_length output) (work_test work ∷ [])).0 n).0).0

pub sizes-fit : (m : ℕ) (operation : Operation) (a b c u output work : ℕ) → None (size_tests m operation a b c u output work)
    → Fits operation a b c u output work
unfolding size_tests length_tests
sizes-fit m operation a b c u output work n =
    let parts = (none-append (length_tests m operation a b c u text_output_length output) (work_test work ∷ [])).0 n in
    let lengths = (none-append (shape_tests m a b c) _).0 parts.0 in
    let shaped = shape-passes m a b c (sizes-shape m operation a b c u output work n) in
    record {
      b_rows = shaped.b_length;
      c_rows = shaped.c_length;
      few = shaped.few;
      curve = (curve-length-passes (curve_count operation a) u).0 lengths.1.0;
      text = (text-output-passes text_output_length output).0 lengths.1.1.0;
      room = (work-passes work).0 parts.1.0;
    }

pub curve-few : (operation : Operation) (r : ℕ) → curve_count operation r ≤ suc r
unfolding curve_count
curve-few Operation.Expand r = omega arith
curve-few Operation.Adjoint r = omega arith
curve-few Operation.Decompose r = omega arith
curve-few Operation.Moments r = omega arith
curve-few Operation.Norms r = omega arith
