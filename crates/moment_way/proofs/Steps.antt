-- The product of the coefficients with the Hankel matrix of the moments in one list, step by step, as the code lends its parts.
-- Proved: the moments, lent just as many places as there are, leave what Hankel of specs/ speaks of; so each step is handed what it requires,
-- and the terms of the product stand at the front. Assumes nothing.
use Rattle.std.proofs.Common.{◌≡◌, ◌∙◌, refl, ap, sym, append_assoc, List, ◌++◌, ℕ, suc, ◌+◌, ◌*◌, ◌-◌, ◌/◌, ◌≤◌, length, take, drop, replicate, get_or, get_or-take, length-take-le, arith}
use Rattle.std.proofs.lemmas.List.{drop-append-le, take-append-drop}
use borrow.Rule.Slice.PartMut.{put_mid}
use Rattle.definitions.specs.Answers.{cleared}
use Rattle.definitions.specs.Conversion.{adjoint, decompose}
use Rattle.definitions.specs.Family.{Row, Curve, family, ones}
use Rattle.definitions.specs.Orthogonality.{moments}
use Rattle.lists.specs.Held.{Output}
use Rattle.lists.specs.Lending.{Lending}
use Rattle.lists.specs.Lent.{lent, lent-whole}
use Rattle.lists.specs.Whole.{written-whole}
use Rattle.numbers.specs.Lists.{filled}
use Rattle.numbers.specs.Products.{transposed_sum}
use Rattle.numbers.specs.Regions.{part, written}
use Rattle.products.specs.Places.{TransposedPlaces, Used}
use Rattle.tree.specs.Input.{Input}
use Rattle.tree_model.specs.Tree.{tree_adjoint}
use Rattle.tree_model.proofs.TreeAdjoint.{tree-adjoint}
use Rattle.moment_way.specs.Input.{DecomposeInput}
use Rattle.moment_way.specs.Hankel.{HankelInput, Weighed, halves, moments-room, first-long, hankel-copy, second-long, hankel-used}
use Rattle.moment_way.specs.Hankel.{hankel-places, hankel-weighed}
use Rattle.moment_way.specs.Decompose.{divided}
use Rattle.moment_way.proofs.DecomposeByMoments.{decompose-hankel, decompose-adjoint, decompose-is}

-- what lies past the first j entries, and past the first k
rest-past : (j k : ℕ) (xs : List ℕ) → j ≤ k → j ≤ length (take k xs) → drop j xs ≡ drop j (take k xs) ++ drop k xs
rest-past j k xs less long = ap (drop j) (sym (take-append-drop k xs)) ∙ drop-append-le j (take k xs) (drop k xs) long

module _ {m : ℕ} {a b c v w : List ℕ} {close : Row} {y z : ℕ} {u : List ℕ} {n : ℕ} {output work : List ℕ}
    (input : DecomposeInput m a b c v w close y z u n output work) (more : 2 ≤ n) {blank : List ℕ} (zeros : blank ≡ replicate 511 0)
    {ms : List ℕ} (made : ms ≡ moments (lent m (n - 1) a b c close)) where
  hankel : HankelInput m n (moments (lent m (n - 1) a b c close)) u
  hankel = decompose-hankel input more

  abbrev room : List ℕ
  room = take 255 (drop 128 blank)

  abbrev pub moment : List ℕ
  moment = ms ++ drop (2 * n - 1) room

  pub moment-is : moment ≡ moments (lent m (n - 1) a b c close) ++ drop (2 * n - 1) room
  moment-is = ap (λ t. t ++ drop (2 * n - 1) room) made

  abbrev pub first_list : List ℕ
  first_list = put_mid 128 (127 + 2 * n - 128) blank ms

  first-is : first_list ≡ take 128 blank ++ (moment ++ drop 255 (drop 128 blank))
  first-is =
      let count : 127 + 2 * n - 128 ≡ 2 * n - 1 = omega arith in
      ap (λ t. take 128 blank ++ (ms ++ t)) (ap (λ k. drop k (drop 128 blank)) count
      ∙ rest-past (2 * n - 1) 255 (drop 128 blank) (omega (arith, hankel.few)) (omega (arith, hankel.few, moments-room zeros)))
      ∙ ap (λ t. take 128 blank ++ t) (sym (append_assoc ms (drop (2 * n - 1) room) (drop 255 (drop 128 blank))))

  pub first-length : length first_list ≡ 511
  first-length = first-long zeros hankel moment-is first-is

  pub copy-room : (n ≤ length u) × (n ≤ length (take 128 (drop 383 first_list)))
  copy-room = hankel-copy zeros hankel moment-is first-is

  module _ {copied : List ℕ} (copy_is : copied ≡ filled (λ i. get_or u i 0) n (take 128 (drop 383 first_list))) where
    abbrev pub second_list : List ℕ
    second_list = put_mid 383 128 first_list copied

    pub second-length : length second_list ≡ 511
    second-length = second-long zeros hankel moment-is first-is copy_is refl

    pub used-room : (383 + n ≤ length second_list) × (383 + n ≤ length second_list)
    used-room = hankel-used zeros hankel moment-is first-is copy_is refl

    module _ {used : ℕ} (left : Used second_list 383 383 n used) where
      abbrev half : ℕ
      half = used - used / 2

      pub places : TransposedPlaces m second_list 0 n 383 (383 + half) half 128 (128 + half) (n + half - 1)
      places = hankel-places zeros hankel moment-is first-is copy_is refl left (halves used)

      pub weighed-is : {weighed : List ℕ}
          → weighed ≡ written second_list 0 (transposed_sum m n (part second_list 383 half) (part second_list 128 (n + half - 1))
          (part second_list (383 + half) half) (part second_list (128 + half) (n + half - 1)))
          → Weighed m n (take n u) (moments (lent m (n - 1) a b c close)) weighed
      weighed-is e = hankel-weighed zeros hankel moment-is first-is copy_is refl left (halves used) e

      module _ (lending : Lending (family m a b c)) (sized : n ≡ length a + 1) (wide : length output ≡ n) {work₁ weighed : List ℕ}
          (wiped : work₁ ≡ cleared work)
          (product : weighed ≡ written second_list 0 (transposed_sum m n (part second_list 383 half) (part second_list 128 (n + half - 1))
          (part second_list (383 + half) half) (part second_list (128 + half) (n + half - 1)))) where
        left_moments : Output (moments (lent m (n - 1) a b c close)) (2 * n - 1) room moment work work₁
        left_moments = record { written = moment-is; wiped = wiped }

        adjoint-input : Input m a b c weighed n output work₁
        adjoint-input = decompose-adjoint input more zeros left_moments (weighed-is product)

        weighed-long : length (take n weighed) ≡ suc (length a)
        weighed-long = length-take-le n weighed adjoint-input.curve_holds.long ∙ omega (arith, sized)

        pub adjoint-curve : Curve (family m a b c) (take n weighed)
        adjoint-curve = record {
          long = weighed-long;
          below = λ i l. rw (get_or-take n weighed i 0 (omega (arith, sized))) (adjoint-input.curve_holds.below i (omega (arith, sized)));
        }

        module _ {output₁ work₂ : List ℕ} (adjoined : output₁ ≡ adjoint (family m a b c) (take n weighed)) (again : work₂ ≡ cleared work₁) where
          by-tree : adjoint (family m a b c) (take n weighed) ≡ tree_adjoint (lent m (n - 1) a b c ones) (take n weighed)
          by-tree =
              let rows_are : n - 1 ≡ length a = omega (arith, sized) in
              sym (tree-adjoint (family m a b c) (omega (arith, lending.lent.modulus.least))
              (record { b_length = lending.b_length; c_length = lending.c_length }) (take n weighed) weighed-long)
              ∙ ap (λ f. tree_adjoint f (take n weighed))
              (sym (ap (λ r. lent m r a b c ones) rows_are ∙ lent-whole m a b c lending.b_length lending.c_length))

          left_entries : Output (tree_adjoint (lent m (n - 1) a b c ones) (take n weighed)) n output output₁ work₁ work₂
          left_entries = record { written = adjoined ∙ by-tree ∙ sym (written-whole _ output n wide); wiped = again }

          pub divided-is : {output₂ : List ℕ} → length output₁ ≡ n
              → output₂ ≡ filled (divided m a w close.a z (length output₁) output₁) (length output₁) output₁
              → Output (decompose (lent m (n - 1) a b c close) (take n u)) n output output₂ work work₂
          divided-is long e = decompose-is input more zeros left_moments (weighed-is product) left_entries (rw long at e)
