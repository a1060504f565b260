-- The inverses that are lent beside a list of the rows' numbers, with that of the closing row's number.
--   Inverts m first r list inverses close close_inverse  entries first to r - 1 of inverses are inverses of those of list, and close_inverse
--                                                        of close, which stands at place r
-- Proved: a list whose first r entries all have inverses has r entries; a number of the rows, the closing row's from place r on, times the
-- inverse beside it leaves 1; where the family is accepted, the inverses of its a and of its c are lent so.
-- Assumes nothing.
use Rattle.std.specs.Prelude.{◌≡◌, List, ℕ, ◌*◌, ◌%◌, ◌≤◌, ◌<◌, length, get_or, take}
use Rattle.std.proofs.Common.{sym, ◌∙◌, ap₂, zero-mul, arith}
use Rattle.std.proofs.Math.Logic.{by_cases}
use Rattle.std.proofs.Math.Decide.{dec_lt}
use Rattle.std.proofs.Math.Nat.{zero-mod}
use Rattle.std.proofs.Math.ListN.{get_or-eq_default}
use Rattle.definitions.specs.Number.{inverse}
use Rattle.definitions.specs.Family.{Row, Accepted, first_c}
use Rattle.numbers.specs.Inverse.{inverse-right}
use Rattle.lists.specs.Entries.{entry-inside, entry_past}
use Rattle.lists.specs.Lent.{Long, lent, accepted-a, accepted-c}

pub record Inverts (m first r : ℕ) (list inverses : List ℕ) (close close_inverse : ℕ) : Type 0 where
  pub long : r ≤ length inverses
  pub inverts : (i : ℕ) → first ≤ i → i < r → get_or list i 0 * get_or inverses i 0 % m ≡ 1
  pub closes : first ≤ r → close * close_inverse % m ≡ 1

-- past its end a list reads 0, which has no inverse
pub inverts-long : {m r : ℕ} {list inverses : List ℕ} {close close_inverse : ℕ}
    → Inverts m 0 r list inverses close close_inverse → r ≤ length list
inverts-long {m} {r} {list} {inverses} h = by_cases (dec_lt (length list) r)
    (λ l.
    let product = h.inverts (length list) (omega arith) l in
    let none : get_or list (length list) 0 ≡ 0 = get_or-eq_default list 0 (omega arith) in
    let zero : get_or list (length list) 0 * get_or inverses (length list) 0 % m ≡ 0 = rw (none, zero-mul) (zero-mod m) in
    absurd (omega arith))
    (λ l. omega arith)

module _ {m first r : ℕ} {list inverses : List ℕ} {close close_inverse : ℕ} (h : Inverts m first r list inverses close close_inverse) where
  pub inverts-at : r ≤ length list → first ≤ r → (i : ℕ) → first ≤ i
      → get_or (take r list) i close * get_or (take r inverses) i close_inverse % m ≡ 1
  inverts-at long some i from = by_cases (dec_lt i r)
      (λ l. ap₂ (λ x y. x * y % m) (sym (entry-inside r list long i close l)) (sym (entry-inside r inverses h.long i close_inverse l))
      ∙ h.inverts i from l)
      (λ l. ap₂ (λ x y. x * y % m) (sym (entry_past r list long i close (omega arith)))
      (sym (entry_past r inverses h.long i close_inverse (omega arith))) ∙ h.closes some)

-- the inverses of an accepted family's numbers
module _ (m r : ℕ) (a b c : List ℕ) (close : Row) (long : Long r a b c) (accepted : Accepted (lent m r a b c close)) where
  positive : 0 < m
  positive = let two : 2 ≤ m = accepted.modulus.least in omega arith

  pub accepted-inverts-a : (inverses : List ℕ) (close_inverse : ℕ) → r ≤ length inverses
      → ((i : ℕ) → i < r → get_or inverses i 0 ≡ inverse m (get_or a i 0)) → close.a * close_inverse % m ≡ 1
      → Inverts m 0 r a inverses close.a close_inverse
  accepted-inverts-a inverses close_inverse room at closes = record {
    long = room;
    inverts = λ i _ l. rw (at i l) (inverse-right m (get_or a i 0) positive (accepted-a m r a b c close long accepted i l));
    closes = λ _. closes;
  }

  pub accepted-inverts-c : (first : ℕ) (inverses : List ℕ) (close_inverse : ℕ) → first_c ≤ first → r ≤ length inverses
      → ((i : ℕ) → first ≤ i → i < r → get_or inverses i 0 ≡ inverse m (get_or c i 0)) → (first ≤ r → close.c * close_inverse % m ≡ 1)
      → Inverts m first r c inverses close.c close_inverse
  accepted-inverts-c first inverses close_inverse from room at closes = record {
    long = room;
    inverts = λ i g l. rw (at i g l)
        (inverse-right m (get_or c i 0) positive (accepted-c m r a b c close long accepted i (omega arith) l));
    closes = closes;
  }
