-- The record of rows that stand in arrays, with zeros behind.
--   Preparable m r a b c   the first r rows of three arrays are accepted, and zeros stand behind them
-- Proved: from the inverses and the norms, with zeros behind, the record of their family; the inverses of the a are such as the norms ask for;
-- the record of an accepted family is right, and its own rows are that family. Assumes nothing.
use Rattle.std.specs.Prelude.{◌≡◌, List, ℕ, ◌<◌, ◌≤◌, ltb}
use Rattle.std.proofs.Math.Path.{sym, ap}
use Rattle.std.proofs.Common.{◌∙◌, mod-eq_of_lt, arith, le-ltb}
use Rattle.std.proofs.Math.Bool.{true, false}
use Rattle.std.proofs.Math.ListN.{length, get_or, take}
use Rattle.definitions.specs.Family.{Family, Accepted, most_rows, first_c, family, ones, rows}
use Rattle.definitions.specs.Number.{inverse, table}
use Rattle.definitions.specs.Orthogonality.{norms}
use Rattle.definitions.specs.Prepared.{Right, most_norms, padded, stored_a, stored_c, prepared, own_rows}
use Rattle.numbers.specs.Lists.{table-length, table-entry, table-equal}
use Rattle.inverses.specs.Range.{inverse_from}
use Rattle.lists.specs.Inverses.{Inverts, accepted-inverts-a}
use Rattle.lists.specs.Lent.{Long, lent, lent_rows, lent-inside}
use Rattle.prepared_model.specs.Padding.{padded-length, padded-inside, padded-front, own-padded}
use Rattle.prepared_model.specs.Parts.{fields}

pub record Preparable (m r : ℕ) (a b c : List ℕ) : Type 0 where
  pub accepted : Accepted (lent m r a b c ones)
  pub few : r ≤ most_rows
  pub a_length : length a ≡ most_rows
  pub b_length : length b ≡ most_rows
  pub c_length : length c ≡ most_rows
  pub a_zeros : (i : ℕ) → r ≤ i → get_or a i 0 ≡ 0
  pub b_zeros : (i : ℕ) → r ≤ i → get_or b i 0 ≡ 0
  pub c_zeros : (i : ℕ) → r ≤ i → get_or c i 0 ≡ 0

module _ {m r : ℕ} {a b c : List ℕ} (given : Preparable m r a b c) where
  abbrev f : Family
  f = lent m r a b c ones

  long : Long r a b c
  long = record {
    a_long = omega (arith, given.few, given.a_length);
    b_long = omega (arith, given.few, given.b_length);
    c_long = omega (arith, given.few, given.c_length);
  }

  rows_are : rows f ≡ r
  rows_are = lent_rows m r a b c ones long

  a-stored : (i : ℕ) → i < r → inverse_from m 0 a i ≡ stored_a f i
  unfolding inverse_from stored_a
  a-stored i h =
      rw (le-ltb i 0 (omega arith), inverse_from) (ap (λ row. inverse m row.a) (sym (lent-inside m r a b c ones long i h)))

  c-stored : (i : ℕ) → i < r → inverse_from m first_c c i ≡ stored_c f i
  unfolding inverse_from stored_c
  c-stored i h = ap (λ row. elim (ltb i first_c) [ true ↦ 0 | false ↦ inverse m row.c ]) (sym (lent-inside m r a b c ones long i h))

  stored-list : (entry stored : ℕ → ℕ) (list : List ℕ) → ((i : ℕ) → i < r → entry i ≡ stored i) → list ≡ padded most_rows (table r entry)
      → list ≡ padded most_rows (table (rows f) stored)
  stored-list entry stored list same e =
      e ∙ ap (padded most_rows) (table-equal r entry stored same ∙ ap (λ k. table k stored) (sym rows_are))

  module _ {a_inverses : List ℕ} (a_inverses_are : a_inverses ≡ padded most_rows (table r (inverse_from m 0 a))) where
    pub prepared-inverts : Inverts m 0 r a a_inverses 1 1
    unfolding inverse_from
    prepared-inverts =
        let count : length (table r (inverse_from m 0 a)) ≡ r = table-length r (inverse_from m 0 a) in
        accepted-inverts-a m r a b c ones long given.accepted a_inverses 1
        (omega (arith, given.few, ap length a_inverses_are, padded-length most_rows (table r (inverse_from m 0 a)) (omega (arith, given.few))))
        (λ i h. ap (λ xs. get_or xs i 0) a_inverses_are ∙ padded-inside most_rows (table r (inverse_from m 0 a)) i (omega arith)
        ∙ table-entry r (inverse_from m 0 a) i 0 h ∙ rw (le-ltb i 0 (omega arith), inverse_from))
        (mod-eq_of_lt (omega (arith, given.accepted.modulus.least)))

    pub prepared-is : {c_inverses d : List ℕ} → c_inverses ≡ padded most_rows (table r (inverse_from m first_c c))
        → d ≡ padded most_norms (norms f) → fields m r a b c a_inverses c_inverses d ≡ prepared f
    unfolding prepared
    prepared-is {c_inverses} {d} c_inverses_are norms_are =
        let rs = sym rows_are in
        let xs = own-padded most_rows r a given.a_length given.few given.a_zeros in
        let ys = own-padded most_rows r b given.b_length given.few given.b_zeros in
        let zs = own-padded most_rows r c given.c_length given.few given.c_zeros in
        let ps = stored-list (inverse_from m 0 a) (stored_a f) a_inverses a-stored a_inverses_are in
        let qs = stored-list (inverse_from m first_c c) (stored_c f) c_inverses c-stored c_inverses_are in
        λ i.
        record {
          modulus = m;
          rows = rs i;
          a = xs i;
          b = ys i;
          c = zs i;
          a_inverses = ps i;
          c_inverses = qs i;
          norms = norms_are i;
        }

-- the record of an accepted family
module _ {m : ℕ} {a b c : List ℕ} (accepted : Accepted (family m a b c)) where
  pub own-rows : own_rows (prepared (family m a b c)) ≡ family m a b c
  unfolding prepared
  own-rows =
      let xs = padded-front most_rows a in
      let ys : take (length a) (padded most_rows b) ≡ b =
      ap (λ k. take k (padded most_rows b)) (sym accepted.b_length) ∙ padded-front most_rows b in
      let zs : take (length a) (padded most_rows c) ≡ c =
      ap (λ k. take k (padded most_rows c)) (sym accepted.c_length) ∙ padded-front most_rows c in
      rw (xs, ys, zs)

  pub prepared-right : Right (prepared (family m a b c))
  prepared-right = record { accepted = rw own-rows accepted; own = ap prepared (sym own-rows) }
