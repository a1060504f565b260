-- The calls finish exactly on what the paper accepts.
--   PlainInput, TreeInput, MomentsInput, NormsInput, InverseInput
--                 what a call of that kind accepts: of family, curve, number, output and working list
-- Proved: none of a call's tests holds (`-passes`), and its verdict is finished (`-finished`), if and only if its input is of that
-- kind; an accepted family is convertible; the greatest modulus is taken.
-- Assumes nothing.
use Rattle.std.specs.Prelude.{◌≡◌, refl, List, [], ◌∷◌, ◌++◌, ◌↔◌, ℕ, zero, suc, ◌<◌, ◌≤◌, length, get_or}
use Rattle.std.proofs.Math.Logic.Iff
use Rattle.std.proofs.Common.{arith}
use Rattle.definitions.specs.Number.{HasInverse}
use Rattle.definitions.specs.Family.{Family, Modulus, Accepted, Convertible, Curve}
use Rattle.definitions.specs.Family.{greatest_modulus, first_c, ones, family, rows, row_at, size}
use Rattle.definitions.specs.Orthogonality.{moment_count}
use Rattle.definitions.specs.Refusals.{Test, finished, verdict, work_length, curve_length_test, output_test}
use Rattle.definitions.specs.Refusals.{work_test, curve_entries_test, shape_tests, family_shape, row_inverses, family_rows, value_tests}
use Rattle.definitions.specs.Refusals.{plain_tests, tree_tests, moments_tests, norms_tests, inverse_tests}
use Rattle.numbers.specs.Inverse.{one-has-inverse}
use Rattle.acceptance.specs.Verdicts.{None, none-append, verdict-finished, modulus-passes, equal-lengths-pass, row-count-passes}
use Rattle.acceptance.specs.Verdicts.{entries-pass, a-inverses-pass, c-inverses-pass, a-zeros-pass, c-zeros-pass, curve-length-passes}
use Rattle.acceptance.specs.Verdicts.{curve-entries-pass, output-passes, work-passes, number-passes, number-inverse-passes}

pub accepted-convertible : (f : Family) → Accepted f → Convertible f
accepted-convertible f acc = record {
  modulus = acc.modulus.least;
  a_inverse = acc.a_inverse;
  c_inverse = λ i h. acc.c_inverse (suc i) (omega arith) (omega arith);
}

pub curve-accepted : (f : Family) (u : List ℕ) → None (curve_length_test (size f) (length u) ∷ curve_entries_test f.m u ∷ []) ↔ Curve f u
curve-accepted f u = (
  λ n.
      let long : length u ≡ size f = (curve-length-passes (size f) (length u)).0 n.0 in
      record { long = long; below = λ i h. (curve-entries-pass f.m u 0).0 n.1.0 i (omega arith) },
  λ curve.
      let long : length u ≡ size f = curve.long in
      ((curve-length-passes (size f) (length u)).1 long, ((curve-entries-pass f.m u 0).1 (λ i h. curve.below i (omega arith)), tt)),
)

-- what each call accepts; lengths of output and working list are numbers
pub record PlainInput (f : Family) (u : List ℕ) (output : ℕ) : Type 0 where
  pub accepted : Accepted f
  pub curve : Curve f u
  pub output_length : output ≡ size f

pub record TreeInput (f : Family) (u : List ℕ) (output work : ℕ) : Type 0 where
  pub plain : PlainInput f u output
  pub work_long : work_length ≤ work

pub record MomentsInput (f : Family) (output work : ℕ) : Type 0 where
  pub accepted : Accepted f
  pub output_length : output ≡ moment_count f
  pub work_long : work_length ≤ work

pub record NormsInput (f : Family) (output : ℕ) : Type 0 where
  pub accepted : Accepted f
  pub output_length : output ≡ size f

pub record InverseInput (m x : ℕ) : Type 0 where
  pub modulus : Modulus m
  pub below : x < m
  pub has_inverse : HasInverse m x

module _ (f : Family) where
  pub family-passes : (None (family_shape f) × None (family_rows f)) ↔ Accepted f
  unfolding shape_tests row_inverses family_rows
  family-passes = (to, from)
    where
      to : None (family_shape f) × None (family_rows f) → Accepted f
      to ((e3, (e4, (e5, done))), (e9, (e17, (e10, (e18, (e11, done')))))) =
          let modulus : Modulus f.m = (modulus-passes f.m).0 e3 in
          let lengths = (equal-lengths-pass (rows f) (length f.b) (length f.c)).0 e4 in
          let two : 2 ≤ f.m = modulus.least in
          record {
            modulus = modulus;
            b_length = lengths.0;
            c_length = lengths.1;
            row_count = (row-count-passes (rows f)).0 e5;
            below = (entries-pass f).0 e9;
            a_inverse = (a-inverses-pass f (omega arith)).0 e10;
            c_inverse = (c-inverses-pass f (omega arith) first_c).0 e11;
          }

      from : Accepted f → None (family_shape f) × None (family_rows f)
      from acc =
          let two : 2 ≤ f.m = acc.modulus.least in (
            (
              (modulus-passes f.m).1 acc.modulus,
              (
                (equal-lengths-pass (rows f) (length f.b) (length f.c)).1 (acc.b_length, acc.c_length),
                ((row-count-passes (rows f)).1 acc.row_count, tt),
              ),
            ),
            (
              (entries-pass f).1 acc.below,
              (
                a-zeros-pass f (omega arith) acc.a_inverse,
                (
                  (a-inverses-pass f (omega arith)).1 acc.a_inverse,
                  (
                    c-zeros-pass f (omega arith) first_c acc.c_inverse,
                    ((c-inverses-pass f (omega arith) first_c).1 acc.c_inverse, tt),
                  ),
                ),
              ),
            ),
          )

  -- a call on a family makes those two stages, with other tests between and after
  pub call_passes : (between after : List Test) → None (family_shape f ++ (between ++ (family_rows f ++ after)))
      ↔ (Accepted f × None between × None after)
  call_passes between after = simp (none-append, ← family-passes)
      (λ p. ((p.0, p.1.1.0), p.1.0, p.1.1.1), λ p. (p.0.0, (p.1, (p.0.1, p.2))))

  pub plain_passes : (u : List ℕ) (output : ℕ) → None (plain_tests f u output) ↔ PlainInput f u output
  unfolding plain_tests value_tests
  plain_passes u output =
      Iff.trans (call_passes (curve_length_test (size f) (length u) ∷ output_test (size f) output ∷ []) (curve_entries_test f.m u ∷ []))
      (simp output-passes (
        λ p. record { accepted = p.0; curve = (curve-accepted f u).0 (p.1.0, p.2); output_length = p.1.1.0 },
        λ p. let curve = (curve-accepted f u).1 p.curve in (p.accepted, (curve.0, (p.output_length, tt)), curve.1),
      ))

  pub tree-passes : (u : List ℕ) (output work : ℕ) → None (tree_tests f u output work) ↔ TreeInput f u output work
  unfolding tree_tests value_tests
  tree-passes u output work =
      Iff.trans (call_passes (curve_length_test (size f) (length u) ∷ output_test (size f) output ∷ work_test work ∷ [])
      (curve_entries_test f.m u ∷ []))
      (simp (output-passes, work-passes) (
        λ p.
            record {
              plain = record { accepted = p.0; curve = (curve-accepted f u).0 (p.1.0, p.2); output_length = p.1.1.0 };
              work_long = p.1.1.1.0;
            },
        λ p.
            let curve = (curve-accepted f u).1 p.plain.curve in
            (p.plain.accepted, (curve.0, (p.plain.output_length, (p.work_long, tt))), curve.1),
      ))

  pub moments-passes : (output work : ℕ) → None (moments_tests f output work) ↔ MomentsInput f output work
  unfolding moments_tests
  moments-passes output work = simp (none-append, output-passes, work-passes) (
    λ p. record { accepted = family-passes.0 (p.0, p.1.1.1); output_length = p.1.0; work_long = p.1.1.0 },
    λ p. let family = family-passes.1 p.accepted in (family.0, (p.output_length, (p.work_long, family.1))),
  )

  pub norms-passes : (output : ℕ) → None (norms_tests f output) ↔ NormsInput f output
  unfolding norms_tests
  norms-passes output = simp (none-append, output-passes) (
    λ p. record { accepted = family-passes.0 (p.0, p.1.1); output_length = p.1.0 },
    λ p. let family = family-passes.1 p.accepted in (family.0, (p.output_length, family.1)),
  )

  pub plain-finished : (u : List ℕ) (output : ℕ) (values : List ℕ)
      → (verdict (plain_tests f u output) values ≡ finished values) ↔ PlainInput f u output
  plain-finished u output values = Iff.trans (verdict-finished (plain_tests f u output) values) (plain_passes u output)

  pub tree-finished : (u : List ℕ) (output work : ℕ) (values : List ℕ)
      → (verdict (tree_tests f u output work) values ≡ finished values) ↔ TreeInput f u output work
  tree-finished u output work values = Iff.trans (verdict-finished (tree_tests f u output work) values) (tree-passes u output work)

  pub moments-finished : (output work : ℕ) (values : List ℕ)
      → (verdict (moments_tests f output work) values ≡ finished values) ↔ MomentsInput f output work
  moments-finished output work values = Iff.trans (verdict-finished (moments_tests f output work) values) (moments-passes output work)

  pub norms-finished : (output : ℕ) (values : List ℕ) → (verdict (norms_tests f output) values ≡ finished values) ↔ NormsInput f output
  norms-finished output values = Iff.trans (verdict-finished (norms_tests f output) values) (norms-passes output)

pub inverse-passes : (m x : ℕ) → None (inverse_tests m x) ↔ InverseInput m x
unfolding inverse_tests
inverse-passes m x = (to, from)
  where
    to : None (inverse_tests m x) → InverseInput m x
    to (e3, (e12, (e13, done))) =
        let modulus : Modulus m = (modulus-passes m).0 e3 in
        record { modulus = modulus; below = (number-passes m x).0 e12; has_inverse = (number-inverse-passes m x (omega arith)).0 e13 }

    from : InverseInput m x → None (inverse_tests m x)
    from p = (
      (modulus-passes m).1 p.modulus,
      ((number-passes m x).1 p.below, ((number-inverse-passes m x (omega arith)).1 p.has_inverse, tt)),
    )

pub inverse-finished : (m x : ℕ) (values : List ℕ) → (verdict (inverse_tests m x) values ≡ finished values) ↔ InverseInput m x
inverse-finished m x values = Iff.trans (verdict-finished (inverse_tests m x) values) (inverse-passes m x)

-- the greatest modulus is taken: no rows, closed by 1 1 1, and a curve of one entry
rows_none : (m i : ℕ) → row_at (family m [] [] []) i ≡ ones
unfolding row_at
rows_none m i = refl

greatest-curve : Curve (family greatest_modulus [] [] []) (2147483646 ∷ [])
greatest-curve = record { long = refl; below = entry }
  where
    entry : (i : ℕ) → i < 1 → get_or (2147483646 ∷ []) i 0 < greatest_modulus
    entry zero h = omega arith
    entry (suc i) h = absurd (omega arith)

pub greatest-taken : verdict (plain_tests (family greatest_modulus [] [] []) (2147483646 ∷ []) 1) [] ≡ finished []
greatest-taken =
    let one = one-has-inverse greatest_modulus (omega arith) in
    (plain-finished (family greatest_modulus [] [] []) (2147483646 ∷ []) 1 []).1 (record {
      accepted = record {
        modulus = record { least = omega arith; greatest = omega arith };
        b_length = refl;
        c_length = refl;
        row_count = omega arith;
        below = λ i h. rw (rows_none greatest_modulus i) (record { a_below = omega arith; b_below = omega arith; c_below = omega arith });
        a_inverse = λ i h. rw (rows_none greatest_modulus i) one;
        c_inverse = λ i l h. rw (rows_none greatest_modulus i) one;
      };
      curve = greatest-curve;
      output_length = refl;
    })
