-- Why the laws over the calls on two channels hold: each list handed out is its definition, and so is what holds of the definitions.
-- Assumes nothing.
use Rattle.std.specs.Prelude.{true, List, [], ◌≡◌, ℕ, suc, ◌*◌, ◌<◌, ◌≤◌, ℤ, pos, length, get_or, Err}
use Rattle.std.proofs.Common.{sym, ◌∙◌, ap, ap₂, subst, arith}
use Rattle.std.proofs.lemmas.List.{length-map}
use Rattle.std.proofs.Math.ListN.{get_or-map}
use Rattle.definitions.specs.Answers.{Answer, number_of, answered, after, PlainCall}
use Rattle.definitions.specs.Conversion.{expand}
use Rattle.definitions.specs.Family.{Accepted, Curve, family}
use Rattle.definitions.specs.Refusals.{Verdict, finished}
use Rattle.acceptance.specs.Acceptance.{plain-finished}
use Rattle.acceptance.specs.Verdicts.{refused-not-finished}
use Rattle.numbers.specs.Lists.{Each, get_or-default}
use Rattle.joining.specs.Whole.{remainder, in_range, joined, joined_list}
use Rattle.joining.specs.Expanding.{Signed, coefficient, reduced_list, reduced, reduced_expand}
use Rattle.joining.specs.Calls.{wholes_after, JoinCall, ExpandJoinCall}
use Rattle.wholes.specs.Accepting.{Apart, JoinInput, ExpandJoinInput, join-finished, expand-join-finished}
use Rattle.wholes.specs.Expanding.{coefficient-remainder, reduced-expand-length, reduced-expand-below}
use Rattle.wholes.proofs.Expanding.{joined-true}
use Rattle.wholes.proofs.Joined.{joined-exact, same-modulo-both}
use Rattle.wholes.specs.Reduction.{remainders-below}
use Rattle.wholes.specs.Lists.{joined-list-entry}
use Rattle.wholes.proofs.Lists.{joined-list-range, joined-list-joins, joined-list-only, joined-list-first}
use Rattle.wholes.proofs.Lists.{joined-list-second}
use Rattle.join_laws.specs.Laws.{JoinHolds, JoinLaw, ExpandJoinHolds, ExpandJoinLaw}
use Rattle.join_laws.specs.Laws.{Lists, remainders, ChannelsInput, ChannelsHold, ChannelsLaw}
use Rattle.definitions.specs.declared.Refusal.{Refusal}

-- ---- two moduli and two lists of remainders below them
module _ (m m' : ℕ) (apart : Apart m m') where
  some : 0 < m
  some = omega (arith, apart.modulus.least)

  some' : 0 < m'
  some' = omega (arith, apart.modulus'.least)

module _ (m m' : ℕ) (apart : Apart m m') (xs ys : List ℕ) (same : length ys ≡ length xs)
    (below : Each (λ x. x < m) xs 0) (below' : Each (λ y. y < m') ys 0) where
  in-range : (i : ℕ) → i < length xs → in_range (m * m') (get_or (joined_list m m' xs ys) i (pos 0)) ≡ true
  in-range = joined-list-range m m' (some m m' apart) (some' m m' apart) apart.inverse xs ys same below below'

  leaves-first : reduced_list m (joined_list m m' xs ys) ≡ xs
  leaves-first = joined-list-first m m' (some m m' apart) (some' m m' apart) apart.inverse xs ys same below below'

  leaves-second : reduced_list m' (joined_list m m' xs ys) ≡ ys
  leaves-second = joined-list-second m m' (some m m' apart) (some' m m' apart) apart.inverse xs ys same below below'

-- ---- Join
pub join-law : (m m' : ℕ) (xs ys : List ℕ) (v : Verdict) (out out' : List ℤ) → JoinCall m m' xs ys v out out'
    → JoinLaw m m' xs ys v out out'
join-law m m' xs ys v out out' made = record { made = made; holds = holds }
  where
    holds : JoinInput m m' xs ys (length out) → JoinHolds m m' xs ys v out'
    holds p =
        let done : v ≡ finished [] = made.answer ∙ (join-finished m m' xs ys (length out)).1 p in
        let is : out' ≡ joined_list m m' xs ys = made.written ∙ ap (λ w. wholes_after w (joined_list m m' xs ys) out) done in
        record {
          finishes = done;
          each = rw is (joined-list-joins m m' (some m m' p.apart) (some' m m' p.apart) p.apart.inverse xs ys p.same p.below p.below');
          only = rw is (joined-list-only m m' (some m m' p.apart) (some' m m' p.apart) p.apart.inverse xs ys p.same p.below p.below');
          first = rw is (leaves-first m m' p.apart xs ys p.same p.below p.below');
          second = rw is (leaves-second m m' p.apart xs ys p.same p.below p.below');
        }

-- ---- Expand and join
module _ (m m' : ℕ) (s : Signed) (u : List ℤ) (apart : Apart m m') where
  two : 2 ≤ m
  two = apart.modulus.least

  two' : 2 ≤ m'
  two' = apart.modulus'.least

  abbrev xs : List ℕ
  xs = reduced_expand m s u

  abbrev ys : List ℕ
  ys = reduced_expand m' s u

  same_length : length ys ≡ length xs
  same_length = reduced-expand-length m' two' s u ∙ sym (reduced-expand-length m two s u)

  xs-below : Each (λ x. x < m) xs 0
  xs-below i h = reduced-expand-below m two s u i (omega (arith, reduced-expand-length m two s u))

  ys-below : Each (λ y. y < m') ys 0
  ys-below i h = reduced-expand-below m' two' s u i (omega (arith, reduced-expand-length m' two' s u))

  first-left : reduced_list m (joined_list m m' xs ys) ≡ xs
  first-left = leaves-first m m' apart xs ys same_length xs-below ys-below

  second-left : reduced_list m' (joined_list m m' xs ys) ≡ ys
  second-left = leaves-second m m' apart xs ys same_length xs-below ys-below

  each-exact : (i : ℕ) → i ≤ length s.a → in_range (m * m') (coefficient s u i) ≡ true
      → get_or (joined_list m m' xs ys) i (pos 0) ≡ coefficient s u i
  each-exact i h small =
      joined-list-entry m m' xs ys i (pos 0) same_length (omega (arith, reduced-expand-length m two s u))
      ∙ ap₂ (joined m m') (sym (coefficient-remainder m two s u i h)) (sym (coefficient-remainder m' two' s u i h))
      ∙ joined-exact m m' (omega (arith, two)) (omega (arith, two')) apart.inverse (coefficient s u i) small

  -- an entry of a list of remainders
  entry-left : (k : ℕ) (zs : List ℤ) (ws : List ℕ) (i : ℕ) → reduced_list k zs ≡ ws → i < length ws
      → remainder k (get_or zs i (pos 0)) ≡ get_or ws i 0
  entry-left k zs ws i e h =
      sym (get_or-map (remainder k) zs i (pos 0)) ∙ ap (λ l. get_or l i (remainder k (pos 0))) e ∙ get_or-default ws i (remainder k (pos 0)) 0 h

  each-congruent : (i : ℕ) → i ≤ length s.a
      → remainder (m * m') (get_or (joined_list m m' xs ys) i (pos 0)) ≡ remainder (m * m') (coefficient s u i)
  each-congruent i h =
      same-modulo-both m m' (some m m' apart) (some' m m' apart) apart.inverse (get_or (joined_list m m' xs ys) i (pos 0)) (coefficient s u i)
      (entry-left m (joined_list m m' xs ys) xs i first-left (omega (arith, reduced-expand-length m two s u))
      ∙ sym (coefficient-remainder m two s u i h))
      (entry-left m' (joined_list m m' xs ys) ys i second-left (omega (arith, reduced-expand-length m' two' s u))
      ∙ sym (coefficient-remainder m' two' s u i h))

-- what a call that finishes has written
both-written : (m m' : ℕ) (s : Signed) (u : List ℤ) (v : Verdict) (out out' : List ℤ) → ExpandJoinCall m m' s u v out out'
    → v ≡ finished [] → out' ≡ joined_list m m' (reduced_expand m s u) (reduced_expand m' s u)
both-written m m' s u v out out' made done =
    made.written ∙ ap (λ w. wholes_after w (joined_list m m' (reduced_expand m s u) (reduced_expand m' s u)) out) done

pub expand-join-law : (m m' : ℕ) (s : Signed) (u : List ℤ) (v : Verdict) (out out' : List ℤ) → ExpandJoinCall m m' s u v out out'
    → ExpandJoinLaw m m' s u v out out'
expand-join-law m m' s u v out out' made = record { made = made; holds = holds }
  where
    holds : ExpandJoinInput m m' s u (length out) → ExpandJoinHolds m m' s u v out'
    holds p =
        let done : v ≡ finished [] = made.answer ∙ (expand-join-finished m m' s u (length out)).1 p in
        let is = both-written m m' s u v out out' made done in
        let apart : Apart m m' = p.apart in
        record {
          finishes = done;
          ranged = λ i h. rw is (in-range m m' apart (xs m m' s u apart) (ys m m' s u apart) (same_length m m' s u apart)
              (xs-below m m' s u apart) (ys-below m m' s u apart) i (omega (arith, reduced-expand-length m (two m m' s u apart) s u)));
          first = rw is (first-left m m' s u apart);
          second = rw is (second-left m m' s u apart);
          congruent = λ i h. rw is (each-congruent m m' s u apart i h);
          each = λ i h small. rw is (each-exact m m' s u apart i h small);
          exact = λ small. is ∙ joined-true m m' (two m m' s u apart) (two' m m' s u apart) apart.inverse s u small;
        }

-- ---- Expand on either channel, and Join
never : (r : Answer) (k : Refusal) → r ≡ Err k → answered r ≡ finished [] → ⊥
never r k q e = refused-not-finished (number_of k) [] (sym (ap answered q) ∙ e)

-- one channel, lent the remainders of rows and curve
module _ (m : ℕ) (s : Signed) (u : List ℤ) (accepted : Accepted (reduced m s)) (curve_long : length u ≡ suc (length s.a)) where
  reduced-curve : Curve (reduced m s) (reduced_list m u)
  reduced-curve = record {
    long = length-map u (remainder m) ∙ curve_long ∙ ap suc (sym (length-map s.a (remainder m)));
    below = λ i h. remainders-below m (omega (arith, accepted.modulus.least)) u i 0 (omega (arith, accepted.modulus.least));
  }

  module _ (lent : Lists) (is : lent ≡ remainders m s u) (r : Answer) (out out' : List ℕ) (long : length out ≡ suc (length s.a))
      (made : PlainCall expand (family m lent.a lent.b lent.c) lent.curve (answered r) out out') where
    own : PlainCall expand (reduced m s) (reduced_list m u) (answered r) out out'
    own = subst (λ l. PlainCall expand (family m l.a l.b l.c) l.curve (answered r) out out') is made

    channel-finishes : answered r ≡ finished []
    channel-finishes = own.answer ∙ (plain-finished (reduced m s) (reduced_list m u) (length out) []).1 (record {
      accepted = accepted;
      curve = reduced-curve;
      output_length = long ∙ ap suc (sym (length-map s.a (remainder m)));
    })

    channel-writes : out' ≡ reduced_expand m s u
    channel-writes = own.written ∙ ap (λ v. after v (reduced_expand m s u) out) channel-finishes

module _ (m m' : ℕ) (s : Signed) (u : List ℤ) (one two : Lists) (first second : List ℕ) (joined output output' : List ℤ) (r₀ : Answer)
    (both : ExpandJoinCall m m' s u (answered r₀) output output') where
  -- the promise where not all calls are made
  abbrev Promise : Verdict → (first' second' : List ℕ) (joined' : List ℤ) → Type 0
  Promise v first' second' joined' = ChannelsLaw m m' s u one two v first first' second second' joined joined' output output'

  abbrev Input : Type 0
  Input = ChannelsInput m m' s u one two first second joined output

  both-finishes : Input → answered r₀ ≡ finished []
  both-finishes p = both.answer ∙ (expand-join-finished m m' s u (length output)).1 p.input

  pub both-refused : (k : Refusal) → r₀ ≡ Err k → Promise (answered r₀) first second joined
  both-refused k q = record { holds = λ p. absurd (never r₀ k q (both-finishes p)) }

  module _ (r₁ : Answer) (first' : List ℕ) (made₁ : PlainCall expand (family m one.a one.b one.c) one.curve (answered r₁) first first') where
    one-finishes : Input → answered r₁ ≡ finished []
    one-finishes p =
        channel-finishes m s u p.input.accepted p.input.curve_length one p.one_is r₁ first first' p.first_length made₁

    pub first-refused : (k : Refusal) → r₁ ≡ Err k → Promise (answered r₁) first' second joined
    first-refused k q = record { holds = λ p. absurd (never r₁ k q (one-finishes p)) }

    module _ (r₂ : Answer) (second' : List ℕ)
        (made₂ : PlainCall expand (family m' two.a two.b two.c) two.curve (answered r₂) second second') where
      two-finishes : Input → answered r₂ ≡ finished []
      two-finishes p =
          channel-finishes m' s u p.input.accepted' p.input.curve_length two p.two_is r₂ second second' p.second_length made₂

      pub second-refused : (k : Refusal) → r₂ ≡ Err k → Promise (answered r₂) first' second' joined
      second-refused k q = record { holds = λ p. absurd (never r₂ k q (two-finishes p)) }

      pub channels-law : (r₃ : Answer) (joined' : List ℤ) → JoinCall m m' first' second' (answered r₃) joined joined'
          → Promise (answered r₃) first' second' joined'
      channels-law r₃ joined' made₃ = record { holds = holds }
        where
          holds : Input → ChannelsHold m m' s u (answered r₃) first' second' joined' output'
          holds p =
              let apart : Apart m m' = p.input.apart in
              let x : first' ≡ reduced_expand m s u =
              channel-writes m s u p.input.accepted p.input.curve_length one p.one_is r₁ first first' p.first_length made₁ in
              let y : second' ≡ reduced_expand m' s u =
              channel-writes m' s u p.input.accepted' p.input.curve_length two p.two_is r₂ second second' p.second_length made₂ in
              let is = both-written m m' s u (answered r₀) output output' both (both-finishes p) in
              let lists-lent : JoinInput m m' first' second' (length joined) = rw (x, y) (record {
                apart = apart;
                same = same_length m m' s u apart;
                output_length = p.joined_length ∙ sym (reduced-expand-length m apart.modulus.least s u);
                below = xs-below m m' s u apart;
                below' = ys-below m m' s u apart;
              }) in
              let done : answered r₃ ≡ finished [] = made₃.answer ∙ (join-finished m m' first' second' (length joined)).1 lists-lent in
              record {
                finishes = done;
                first_is = x;
                second_is = y;
                output_is = is ∙ sym (ap₂ (joined_list m m') x y);
                first_left = x ∙ sym (first-left m m' s u apart) ∙ ap (reduced_list m) (sym is);
                second_left = y ∙ sym (second-left m m' s u apart) ∙ ap (reduced_list m') (sym is);
                law = made₃.written ∙ ap (λ w. wholes_after w (joined_list m m' first' second') joined) done
                    ∙ ap₂ (joined_list m m') x y ∙ sym is;
              }
