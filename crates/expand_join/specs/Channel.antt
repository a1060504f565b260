-- One channel by the plain core on reduced lists, and both channels joined.
-- Proved: what the core asks and writes where its lists begin with remainders (channel-input, channel-result); what joining asks of two outputs that
-- begin with expanded curves, and what it writes (both-held, both-joined); what each channel asks, from the call's tests (channel-asked).
-- Assumes nothing.
use Rattle.std.specs.Prelude.{List, [], ◌++◌, ◌≡◌, refl, ℕ, suc, ◌-◌, ◌<◌, ◌≤◌, ℤ, length, get_or, take, drop, replicate, Ok}
use Rattle.std.proofs.Common.{sym, ◌∙◌, ap, ap₂, arith, length-append, take_at}
use Rattle.std.proofs.lemmas.List.{length-map, length-replicate}
use Rattle.std.proofs.Math.ListN.{get_or-append}
use Rattle.definitions.specs.Answers.{Answer, answered}
use Rattle.definitions.specs.Conversion.{expand}
use Rattle.definitions.specs.Family.{Modulus, family, ones}
use Rattle.definitions.specs.Refusals.{verdict}
use Rattle.acceptance.specs.Stages.{stage-none}
use Rattle.acceptance.specs.Verdicts.{none-append}
use Rattle.lists.specs.Held.{Holds}
use Rattle.lists.specs.Lent.{lent}
use Rattle.plain.specs.Input.{ConvertInput}
use Rattle.joining.specs.Whole.{remainder, joined_list}
use Rattle.joining.specs.Expanding.{Signed, signed, reduced_list, reduced, reduced_expand}
use Rattle.joining.specs.Calls.{moduli_tests, size_tests, both_rows, expand_join_tests}
use Rattle.wholes.specs.Accepting.{ExpandJoinInput, expand-join-passes}
use Rattle.wholes.specs.Expanding.{reduced-expand-length, reduced-expand-below}
use Rattle.wholes.specs.Reduction.{remainders-below}
use Rattle.join.specs.Joining.{Paired, Remainders}
use Rattle.join_calls.specs.Pairs.{pair-none}
use Rattle.expand_join.specs.Input.{ChannelInput}

-- ---- a list that begins with remainders
module _ (m : ℕ) (p : 0 < m) (xs : List ℤ) (rest list : List ℕ) (e : list ≡ reduced_list m xs ++ rest) where
  front-taken : (k : ℕ) → k ≡ length xs → take k list ≡ reduced_list m xs
  front-taken k l = ap (take k) e ∙ take_at (reduced_list m xs) rest k (length-map xs (remainder m) ∙ sym l)

  front-holds : (k : ℕ) → k ≡ length xs → Holds m k list
  front-holds k l = record {
    long = omega (arith, ap length e, length-append (reduced_list m xs) rest, length-map xs (remainder m));
    below = below;
  }
    where
      below : (i : ℕ) → i < k → get_or list i 0 < m
      below i h =
          rw (e, get_or-append (reduced_list m xs) rest 0 i (omega (arith, length-map xs (remainder m)))) (remainders-below m p xs i 0 p)

-- ---- one channel
module _ (m : ℕ) (a b c u : List ℤ) (l : ℕ) (s : ChannelInput m a b c u l) where
  some : 0 < m
  some = omega (arith, s.modulus.least)

  rows : length u - 1 ≡ length a
  rows = omega (arith, s.curve_long)

  -- the family that the core is lent
  pub channel-rows : (x y z : List ℕ) → lent m (length u - 1) x y z ones ≡ lent m (length a) x y z ones
  channel-rows x y z = ap (λ r. lent m r x y z ones) rows

  module _ (x y z v x₀ y₀ z₀ v₀ : List ℕ) (ex : x ≡ reduced_list m a ++ x₀) (ey : y ≡ reduced_list m b ++ y₀)
      (ez : z ≡ reduced_list m c ++ z₀) (ev : v ≡ reduced_list m u ++ v₀) where
    pub channel-input : (out : List ℕ) → l ≡ length out → ConvertInput m x y z v (length u) out
    channel-input out e = record {
      rows = record {
        modulus = s.modulus;
        a_holds = front-holds m some a x₀ x ex (length u - 1) rows;
        b_holds = front-holds m some b y₀ y ey (length u - 1) (rows ∙ sym s.b_same);
        c_holds = front-holds m some c z₀ z ez (length u - 1) (rows ∙ sym s.c_same);
      };
      least = omega (arith, s.curve_long);
      most = omega (arith, s.curve_long, s.few);
      curve_holds = front-holds m some u v₀ v ev (length u) refl;
      output_long = omega (arith, s.room);
    }

    pub channel-result : (out out' : List ℕ) → out' ≡ expand (lent m (length u - 1) x y z ones) (take (length u) v) ++ drop (length u) out
        → out' ≡ reduced_expand m (signed a b c) u ++ drop (length u) out
    channel-result out out' e =
        e ∙ lists-equal (front-taken m some a x₀ x ex _ rows) (front-taken m some b y₀ y ey _ (rows ∙ sym s.b_same))
        (front-taken m some c z₀ z ez _ (rows ∙ sym s.c_same)) (front-taken m some u v₀ v ev _ refl)
      where
        lists-equal : {x x' y y' z z' v v' : List ℕ} → x ≡ x' → y ≡ y' → z ≡ z' → v ≡ v'
            → expand (family m x y z) v ++ drop (length u) out ≡ expand (family m x' y' z') v' ++ drop (length u) out
        lists-equal e f g h = cc

-- an output that begins with an expanded curve
module _ (m : ℕ) (two : 2 ≤ m) (s : Signed) (u : List ℤ) (long : length u ≡ suc (length s.a)) (rest out : List ℕ)
    (e : out ≡ reduced_expand m s u ++ rest) where
  size : length (reduced_expand m s u) ≡ length u
  size = reduced-expand-length m two s u ∙ sym long

  out-long : length u ≤ length out
  out-long = omega (arith, ap length e, length-append (reduced_expand m s u) rest, size)

  out-taken : (n : ℕ) → n ≡ length u → take n out ≡ reduced_expand m s u
  out-taken n l = ap (take n) e ∙ take_at (reduced_expand m s u) rest n (size ∙ sym l)

  out_below : (i : ℕ) → i < length u → get_or out i 0 < m
  out_below i h =
      rw (e, get_or-append (reduced_expand m s u) rest 0 i (omega (arith, size)))
      (reduced-expand-below m two s u i (omega arith))

-- ---- both channels, after the tests
module _ (m m' k : ℕ) (pair : Paired m m' k) (a b c u : List ℤ) (output : ℕ) (r : Answer)
    (is : answered r ≡ verdict (size_tests (length a) (length b) (length c) (length u) output
    ++ both_rows (reduced m (signed a b c)) (reduced m' (signed a b c))) []) (q : r ≡ Ok tt) where
  input : ExpandJoinInput m m' (signed a b c) u output
  unfolding expand_join_tests
  input = (expand-join-passes m m' (signed a b c) u output).0 ((none-append (moduli_tests m m') _).1 (pair-none pair, stage-none _ r is q))

  same_length : (n : ℕ) (xs : List ℤ) → length (reduced_list n xs) ≡ length (reduced_list n a) → length xs ≡ length a
  same_length n xs e = sym (length-map xs (remainder n)) ∙ e ∙ length-map a (remainder n)

  -- what a channel asks, with a local list of 128 places for its output
  channel-asked : (n : ℕ) → Modulus n → (z : List ℕ) → z ≡ replicate 128 0 → ChannelInput n a b c u (length z)
  channel-asked n modulus z e = record {
    modulus = modulus;
    few = omega (arith, input.accepted.row_count, length-map a (remainder m));
    b_same = same_length m b input.accepted.b_length;
    c_same = same_length m c input.accepted.c_length;
    curve_long = input.curve_length;
    room = omega (
      arith,
      input.curve_length,
      input.accepted.row_count,
      length-map a (remainder m),
      ap length e,
      length-replicate {A = ℕ} 128 0,
    );
  }

  pub first-asked : (z : List ℕ) → z ≡ replicate 128 0 → ChannelInput m a b c u (length z)
  first-asked = channel-asked m pair.first

  pub second-asked : (z : List ℕ) → z ≡ replicate 128 0 → ChannelInput m' a b c u (length z)
  second-asked = channel-asked m' pair.second

  module _ (x y x₀ y₀ : List ℕ) (ex : x ≡ reduced_expand m (signed a b c) u ++ x₀) (ey : y ≡ reduced_expand m' (signed a b c) u ++ y₀) where
    lengths : output ≡ length u
    lengths = input.output_length ∙ sym input.curve_length

    pub both-held : Remainders m m' x y output
    both-held = record {
      first_long = omega (arith, lengths, out-long m pair.first.least (signed a b c) u input.curve_length x₀ x ex);
      second_long = omega (arith, lengths, out-long m' pair.second.least (signed a b c) u input.curve_length y₀ y ey);
      first_below = λ i h. out_below m pair.first.least (signed a b c) u input.curve_length x₀ x ex i (omega (arith, lengths));
      second_below = λ i h. out_below m' pair.second.least (signed a b c) u input.curve_length y₀ y ey i (omega (arith, lengths));
    }

    pub both-joined : joined_list m m' (take output x) (take output y)
        ≡ joined_list m m' (reduced_expand m (signed a b c) u) (reduced_expand m' (signed a b c) u)
    both-joined = ap₂ (joined_list m m') (out-taken m pair.first.least (signed a b c) u input.curve_length x₀ x ex output lengths)
        (out-taken m' pair.second.least (signed a b c) u input.curve_length y₀ y ey output lengths)
