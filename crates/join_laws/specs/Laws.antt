-- The laws over the calls on two channels, as the functions of this crate promise them: all that is to be believed of `join_laws`, and nothing
-- proved. Each is over the very lists that the calls hand out, on what they accept (`wholes`, Accepting).
--   JoinHolds          Join finishes, each number handed out is in the range and leaves both remainders of its place, no other whole
--                      number does, and the remainders of the list are the two lists
--   ExpandJoinHolds    Expand and join finishes; each number handed out is in the range; the remainders of the list are those of Expand on
--                      each channel; each number differs from the true coefficient by a multiple of m m'; a true coefficient in the range is
--                      handed out, and so all of them where each is
--   ChannelsHold       the answer is finished; what Expand hands out on each channel is the definition's list and what the joined list leaves; what
--                      Join makes of the two is what Expand and join hands out
--   JoinLaw, ExpandJoinLaw   the promises: that of the call on every input, and the law on what it accepts
--   ChannelsLaw        the promise of four calls, on what Expand and join accepts where the other lists are the remainders of its lists and the
--                      other outputs n long; on other input it promises nothing
-- Item 6 of the change requests. Assumes nothing.
use Rattle.std.specs.Prelude.{true, List, [], ◌≡◌, ℕ, suc, ◌*◌, ◌<◌, ◌≤◌, ℤ, pos, length, get_or}
use Rattle.definitions.specs.Refusals.{Verdict, finished}
use Rattle.joining.specs.Whole.{remainder, in_range, joins, joined_list}
use Rattle.joining.specs.Expanding.{Signed, coefficient, whole_expand, reduced_list, reduced_expand}
use Rattle.joining.specs.Calls.{JoinCall, ExpandJoinCall}
use Rattle.wholes.specs.Accepting.{JoinInput, ExpandJoinInput}

-- v: what the answer says; a prime on a list marks it as the calls leave it, and m' is the second modulus
pub record JoinHolds (m m' : ℕ) (xs ys : List ℕ) (v : Verdict) (output' : List ℤ) : Type 0 where
  pub finishes : v ≡ finished []
  pub each : (i : ℕ) → i < length xs → joins m m' (get_or xs i 0) (get_or ys i 0) (get_or output' i (pos 0)) ≡ true
  pub only : (i : ℕ) → i < length xs → (z : ℤ) → joins m m' (get_or xs i 0) (get_or ys i 0) z ≡ true → get_or output' i (pos 0) ≡ z
  pub first : reduced_list m output' ≡ xs
  pub second : reduced_list m' output' ≡ ys

pub record JoinLaw (m m' : ℕ) (xs ys : List ℕ) (v : Verdict) (output output' : List ℤ) : Type 0 where
  pub made : JoinCall m m' xs ys v output output'
  pub holds : JoinInput m m' xs ys (length output) → JoinHolds m m' xs ys v output'

pub record ExpandJoinHolds (m m' : ℕ) (s : Signed) (u : List ℤ) (v : Verdict) (output' : List ℤ) : Type 0 where
  pub finishes : v ≡ finished []
  pub ranged : (i : ℕ) → i ≤ length s.a → in_range (m * m') (get_or output' i (pos 0)) ≡ true
  pub first : reduced_list m output' ≡ reduced_expand m s u
  pub second : reduced_list m' output' ≡ reduced_expand m' s u
  pub congruent : (i : ℕ) → i ≤ length s.a → remainder (m * m') (get_or output' i (pos 0)) ≡ remainder (m * m') (coefficient s u i)
  pub each : (i : ℕ) → i ≤ length s.a → in_range (m * m') (coefficient s u i) ≡ true → get_or output' i (pos 0) ≡ coefficient s u i
  pub exact : ((i : ℕ) → i ≤ length s.a → in_range (m * m') (coefficient s u i) ≡ true) → output' ≡ whole_expand s u

pub record ExpandJoinLaw (m m' : ℕ) (s : Signed) (u : List ℤ) (v : Verdict) (output output' : List ℤ) : Type 0 where
  pub made : ExpandJoinCall m m' s u v output output'
  pub holds : ExpandJoinInput m m' s u (length output) → ExpandJoinHolds m m' s u v output'

-- the rows and the curve that a channel is lent
pub record Lists : Type 0 where
  pub a : List ℕ
  pub b : List ℕ
  pub c : List ℕ
  pub curve : List ℕ

abbrev pub lists : (a b c curve : List ℕ) → Lists
lists a b c curve = record { a = a; b = b; c = c; curve = curve }

abbrev pub remainders : ℕ → Signed → List ℤ → Lists
remainders m s u = lists (reduced_list m s.a) (reduced_list m s.b) (reduced_list m s.c) (reduced_list m u)

pub record ChannelsInput (m m' : ℕ) (s : Signed) (u : List ℤ) (one two : Lists) (first second : List ℕ) (joined output : List ℤ) : Type 0 where
  pub input : ExpandJoinInput m m' s u (length output)
  pub one_is : one ≡ remainders m s u
  pub two_is : two ≡ remainders m' s u
  pub first_length : length first ≡ suc (length s.a)
  pub second_length : length second ≡ suc (length s.a)
  pub joined_length : length joined ≡ suc (length s.a)

pub record ChannelsHold (m m' : ℕ) (s : Signed) (u : List ℤ) (v : Verdict) (first' second' : List ℕ) (joined' output' : List ℤ) : Type 0 where
  pub finishes : v ≡ finished []
  pub first_is : first' ≡ reduced_expand m s u
  pub second_is : second' ≡ reduced_expand m' s u
  pub output_is : output' ≡ joined_list m m' first' second'
  pub first_left : first' ≡ reduced_list m output'
  pub second_left : second' ≡ reduced_list m' output'
  pub law : joined' ≡ output'

pub record ChannelsLaw (m m' : ℕ) (s : Signed) (u : List ℤ) (one two : Lists) (v : Verdict) (first first' second second' : List ℕ)
    (joined joined' output output' : List ℤ) : Type 0 where
  pub holds : ChannelsInput m m' s u one two first second joined output → ChannelsHold m m' s u v first' second' joined' output'
