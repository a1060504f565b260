-- An operation on lists whose sizes are in order.
--   Sized    the tests 3 to 8 pass: the modulus, the rows, the curve and the working list; and the output is as long as the result
--   Parts    the same for the fronts of longer lists
--   ConvertedValues   the promise of an operation whose tests on sizes have passed, with the tests that are left
--   ConvertedFront    the same, written at the front of a longer output
-- Proved: Sized from the passed tests on sizes; each call of the tree way, and Norms with the working list cleared, as the operation's
-- promise. Assumes nothing.
use Rattle.std.specs.Prelude.{◌≡◌, Bool, true, false, ℕ, ◌-◌, ◌≤◌, take, drop}
use Rattle.std.proofs.Math.Path.{refl, sym}
use Rattle.std.proofs.Common.{◌∙◌, ap, arith, take-append-drop, length-take-le}
use mathlib.Core.List.{List, [], ◌∷◌, ◌++◌}
use Rattle.std.proofs.Math.Nat.{sub-zero}
use Rattle.std.proofs.Math.ListN.{length}
use Rattle.definitions.specs.Answers.{after, cleared, ConvertedIn, TreeCall, NormsCall, MomentsCall}
use Rattle.definitions.specs.Conversion.{expand, adjoint, decompose}
use Rattle.definitions.specs.Family.{Family, ones, rows, size}
use Rattle.definitions.specs.Orthogonality.{moment_count, moments, norms}
use Rattle.definitions.specs.Refusals.{Test, Verdict, finished, refused, verdict, some, work_length, curve_length_test, output_test}
use Rattle.definitions.specs.Refusals.{work_test, curve_entries_test}
use Rattle.definitions.specs.Refusals.{family_shape, family_rows, value_tests, tree_tests, moments_tests, norms_tests}
use Rattle.definitions.specs.TextCall.{curve_count, sizes_of, converted}
use Rattle.definitions.specs.declared.Operation.{Operation}
use Rattle.acceptance.specs.Verdicts.{None, verdict-here, verdict-next}
use Rattle.acceptance.specs.Stages.{Remaining, all-remain, none-remain}
use Rattle.acceptance.specs.Verdicts.{curve-length-passes, output-passes, work-passes}
use Rattle.lists.specs.Lent.{lent, Long}
use Rattle.verdicts.specs.Sizes.{sizes-shape, sizes-fit}
use Rattle.operations.specs.Results.{result_count}

pub record Sized (operation : Operation) (f : Family) (u : List ℕ) (output work : ℕ) : Type 0 where
  pub shape : None (family_shape f)
  pub curve : length u ≡ curve_count operation (rows f)
  pub result : output ≡ result_count operation (rows f)
  pub room : work_length ≤ work

pub record Parts (operation : Operation) (m : ℕ) (a b c : List ℕ) (r : ℕ) (u : List ℕ) (entries : ℕ) (output : List ℕ)
    (count work : ℕ) : Type 0 where
  pub rows_front : Long r a b c
  pub curve_front : entries ≤ length u
  pub output_front : count ≤ length output
  pub sized : Sized operation (lent m r a b c ones) (take entries u) count work

abbrev pub ConvertedValues : Operation → Family → List ℕ → Verdict → List ℕ → List ℕ → List ℕ → List ℕ → Type 0
ConvertedValues operation f u v output output' work work' =
    ConvertedIn (value_tests f u) (converted operation f u) v output output' work work'

abbrev pub ConvertedFront : Operation → Family → List ℕ → ℕ → Verdict → List ℕ → List ℕ → List ℕ → List ℕ → Type 0
ConvertedFront operation f u count v output output' work work' =
    ConvertedIn (value_tests f u) (converted operation f u ++ drop count output) v output output' work work'

pub sized-by-tests : (operation : Operation) (f : Family) (u : List ℕ) (text work count : ℕ) → None (sizes_of operation f u text work)
    → count ≡ result_count operation (rows f) → Sized operation f u count work
sized-by-tests operation f u text work count n e =
    let fits = sizes-fit f.m operation _ _ _ (length u) text work n in
    record {
      shape = sizes-shape f.m operation _ _ _ (length u) text work n;
      curve = fits.curve;
      result = e;
      room = fits.room;
    }

-- a test at the end that does not hold
spare-test : (ts : List Test) (t : Test) (values : List ℕ) → t.holds ≡ false → verdict (ts ++ t ∷ []) values ≡ verdict ts values
unfolding verdict
spare-test [] t values q = verdict-next t [] values q
spare-test (s ∷ ts) t values q = split s.holds refl (spare-test ts t values q)
  where
    split : (h : Bool) → s.holds ≡ h → verdict (ts ++ t ∷ []) values ≡ verdict ts values
        → verdict (s ∷ ts ++ t ∷ []) values ≡ verdict (s ∷ ts) values
    split true p rest = verdict-here s (ts ++ t ∷ []) values p ∙ sym (verdict-here s ts values p)
    split false p rest = verdict-next s (ts ++ t ∷ []) values p ∙ rest ∙ sym (verdict-next s ts values p)

module _ (f : Family) (u : List ℕ) (output work : ℕ) (shape : None (family_shape f)) where
  curve-left : length u ≡ size f → output ≡ size f → work_length ≤ work → Remaining (tree_tests f u output work) (value_tests f u)
  unfolding tree_tests
  curve-left curve result room =
      none-remain (curve_length_test (size f) (length u) ∷ output_test (size f) output ∷ work_test work ∷ []) (value_tests f u)
      (none-remain (family_shape f) _ all-remain shape)
      ((curve-length-passes (size f) (length u)).1 curve, ((output-passes (size f) output).1 result, ((work-passes work).1 room, tt)))

  -- no curve, so nothing of it to test
  no-curve : length u ≡ 0 → verdict (family_rows f) [] ≡ verdict (value_tests f u) []
  unfolding value_tests curve_entries_test some
  no-curve e = none u e
    where
      none : (u : List ℕ) → length u ≡ 0 → verdict (family_rows f) [] ≡ verdict (value_tests f u) []
      none [] z = sym (spare-test (family_rows f) (curve_entries_test f.m []) [] refl)
      none (x ∷ xs) z = absurd (omega arith)

  moments-left : output ≡ moment_count f → work_length ≤ work → Remaining (moments_tests f output work) (family_rows f)
  unfolding moments_tests
  moments-left result room =
      none-remain (output_test (moment_count f) output ∷ work_test work ∷ []) (family_rows f) (none-remain (family_shape f) _ all-remain shape)
      ((output-passes (moment_count f) output).1 result, ((work-passes work).1 room, tt))

  norms-left : output ≡ size f → Remaining (norms_tests f output) (family_rows f)
  unfolding norms_tests
  norms-left result =
      none-remain (output_test (size f) output ∷ []) (family_rows f) (none-remain (family_shape f) _ all-remain shape)
      ((output-passes (size f) output).1 result, tt)

-- ---- each operation
module _ (operation : Operation) (f : Family) (u output work : List ℕ) (sized : Sized operation f u (length output) (length work))
    (v : Verdict) (output' work' : List ℕ) where
  abbrev Promise : Type 0
  Promise = ConvertedValues operation f u v output output' work work'

  module _ (o : Operation) (e : operation ≡ o) where
    takes : length u ≡ curve_count o (rows f)
    takes = sized.curve ∙ ap (λ p. curve_count p (rows f)) e

    hands : length output ≡ result_count o (rows f)
    hands = sized.result ∙ ap (λ p. result_count p (rows f)) e

    -- the promise from what a call did and from its verdict
    by_call : (result : List ℕ) → converted o f u ≡ result → v ≡ verdict (value_tests f u) []
        → output' ≡ after v result output → work' ≡ after v (cleared work) work → Promise
    by_call result is answer written wiped = record {
      answer = answer;
      written = written ∙ ap (λ list. after v list output) (sym (ap (λ p. converted p f u) e ∙ is));
      wiped = wiped;
    }

  module _ (result : List ℕ) (done : ConvertedIn (tree_tests f u (length output) (length work)) result v output output' work work') where
    by-tree-call : (o : Operation) → operation ≡ o → curve_count o (rows f) ≡ size f → result_count o (rows f) ≡ size f
        → converted o f u ≡ result → Promise
    by-tree-call o e all n is =
        let left = curve-left f u (length output) (length work) sized.shape (takes o e ∙ all) (hands o e ∙ n) sized.room in
        by_call o e result is (done.answer ∙ sym (left.same [])) done.written done.wiped

  pub expand-promised : operation ≡ Operation.Expand → TreeCall expand f u v output output' work work' → Promise
  unfolding curve_count result_count converted
  expand-promised e done = by-tree-call _ done Operation.Expand e refl refl refl

  pub adjoint-promised : operation ≡ Operation.Adjoint → TreeCall adjoint f u v output output' work work' → Promise
  unfolding curve_count result_count converted
  adjoint-promised e done = by-tree-call _ done Operation.Adjoint e refl refl refl

  pub decompose-promised : operation ≡ Operation.Decompose → TreeCall decompose f u v output output' work work' → Promise
  unfolding curve_count result_count converted
  decompose-promised e done = by-tree-call _ done Operation.Decompose e refl refl refl

  pub moments-promised : operation ≡ Operation.Moments → MomentsCall f v output output' work work' → Promise
  unfolding curve_count result_count converted
  moments-promised e done =
      let left = moments-left f u (length output) (length work) sized.shape (hands _ e) sized.room in
      let none = no-curve f u (length output) (length work) sized.shape (takes _ e) in
      by_call Operation.Moments e (moments f) refl (done.answer ∙ sym (left.same []) ∙ none) done.written done.wiped

  -- the working list is cleared by itself
  pub norms-promised : operation ≡ Operation.Norms → NormsCall f v output output' → work' ≡ after v (cleared work) work
      → Promise
  unfolding curve_count result_count converted
  norms-promised e done wiped =
      let left = norms-left f u (length output) (length work) sized.shape (hands _ e) in
      let none = no-curve f u (length output) (length work) sized.shape (takes _ e) in
      by_call Operation.Norms e (norms f) refl (done.answer ∙ sym (left.same []) ∙ none) done.written wiped

-- ---- the fronts of longer lists: a part is lent from place 0 to its end
front-promised : (ts : List Test) (result : List ℕ) (v : Verdict) (count : ℕ) (output front work work' : List ℕ)
    → ConvertedIn ts result v (take count output) front work work'
    → ConvertedIn ts (result ++ drop count output) v output (front ++ drop count output) work work'
front-promised ts result (finished values) count output front work work' p =
    record { answer = p.answer; written = ap (λ list. list ++ drop count output) p.written; wiped = p.wiped }
front-promised ts result (refused k) count output front work work' p =
    record { answer = p.answer; written = ap (λ list. list ++ drop count output) p.written ∙ take-append-drop count output; wiped = p.wiped }

module _ (operation : Operation) (m : ℕ) (a b c : List ℕ) (r : ℕ) (u : List ℕ) (entries : ℕ) (output : List ℕ) (count : ℕ) where
  abbrev parts : Family
  parts = lent m (r - 0) a b c ones

  abbrev fronts : Family
  fronts = lent m r a b c ones

  pub parts-sized : (work : ℕ) → Parts operation m a b c r u entries output count work
      → Sized operation parts (take (entries - 0) u) (length (take (count - 0) output)) work
  parts-sized work p = rw (sub-zero r, sub-zero entries, sub-zero count, length-take-le count output p.output_front) p.sized

  pub parts-promised : (v : Verdict) (front work work' : List ℕ)
      → ConvertedValues operation parts (take (entries - 0) u) v (take (count - 0) output) front work work'
      → ConvertedFront operation fronts (take entries u) count v output (front ++ drop (count - 0) output) work work'
  parts-promised v front work work' p =
      rw (sub-zero count) (front-promised _ _ v count output front work work' (rw (sub-zero r, sub-zero entries, sub-zero count) at p))
