-- Keys compared byte for byte, and the lines that they open.
--   Compared t at key k    the first k bytes of the key stand at place at
--   KeyAt t at key         the whole key does
-- Proved: how a comparison begins, goes on and ends; what has_key says; a line by its key and its content. Assumes nothing.
use Rattle.std.specs.Prelude.{◌≡◌, refl, Bool, true, false, List, ℕ, ◌+◌, ◌-◌, ◌<◌, ◌≤◌, length, drop, get_or}
use Rattle.std.proofs.Math.Path.{sym}
use Rattle.std.proofs.Common.{◌∙◌, ap, true≢false, add-zero, arith, length-append, length-drop, drop_of_length-le, drop-drop}
use Rattle.std.proofs.Math.Nat.{add_assoc}
use Rattle.std.proofs.Math.Numerals.{add-one}
use Rattle.std.proofs.Math.Seq.{drop-append_seam, drop-cons}
use borrow.Author.Tests.{eq-eqb, ne_eqb}
use Rattle.definitions.specs.Reading.{Front, got, bad, read_key, ended, read_line}
use Rattle.texts.specs.LinesReading.{key-read}
use Rattle.reader.specs.Places.{opens}

pub record Compared (t : List ℕ) (at : ℕ) (key : List ℕ) (k : ℕ) : Type 0 where
  pub within : k ≤ length key
  pub inside : at + k ≤ length t
  pub same : read_key key (drop at t) ≡ read_key (drop k key) (drop (at + k) t)

module _ (t : List ℕ) (at : ℕ) (key : List ℕ) where
  pub compared-starts : at ≤ length t → Compared t at key 0
  compared-starts h = record { within = omega arith; inside = omega arith; same = rw add-zero }

  module _ (k : ℕ) (c : Compared t at key k) where
    pub compared-ends : length key ≤ k → true ≡ opens (read_key key (drop at t))
    unfolding read_key
    compared-ends l = sym (ap opens c.same ∙ rw (drop_of_length-le key {i = k} l))

    module _ (l : k < length key) where
      pub compared-short : length t ≤ at + k → false ≡ opens (read_key key (drop at t))
      unfolding read_key
      compared-short h = sym (ap opens c.same ∙ rw (drop_of_length-le t {i = at + k} h, drop-cons key k 0))

      module _ (h : at + k < length t) where
        pub compared-other : (get_or t (at + k) 0 ≡ get_or key k 0 → ⊥) → false ≡ opens (read_key key (drop at t))
        unfolding read_key
        compared-other n =
            sym (ap opens c.same ∙ rw (drop-cons t (at + k) 0, drop-cons key k 0, ne_eqb (get_or t (at + k) 0) (get_or key k 0)))

        pub compared-next : get_or t (at + k) 0 ≡ get_or key k 0 → Compared t at key (k + 1)
        unfolding read_key
        compared-next e =
            let step : read_key (drop k key) (drop (at + k) t) ≡ read_key (drop (k + 1) key) (drop (at + k + 1) t) =
            rw (drop-cons t (at + k) 0, drop-cons key k 0, eq-eqb (get_or t (at + k) 0) (get_or key k 0), add-one (at + k), add-one k) in
            record { within = omega arith; inside = omega arith; same = c.same ∙ step ∙ rw add_assoc }

-- ---- what has_key says
pub record KeyAt (t : List ℕ) (at : ℕ) (key : List ℕ) : Type 0 where
  pub read : read_key key (drop at t) ≡ got tt (drop (at + length key) t)
  pub inside : at + length key ≤ length t

module _ (t : List ℕ) (at : ℕ) (key : List ℕ) (r : Bool) (says : r ≡ opens (read_key key (drop at t))) where
  pub key-found : at ≤ length t → r ≡ true → KeyAt t at key
  key-found h q = cases (read_key key (drop at t)) refl (sym says ∙ q)
    where
      cases : (f : Front (Unit {0})) → read_key key (drop at t) ≡ f → opens f ≡ true → KeyAt t at key
      cases (got u rest) e f =
          let text = key-read key (drop at t) u rest e in
          let left : drop (at + length key) t ≡ rest =
          sym (drop-drop (length key) at t) ∙ ap (drop (length key)) text ∙ drop-append_seam key rest in
          let n : length t - at ≡ length key + length rest = sym (length-drop at t) ∙ ap length text ∙ length-append key rest in
          record { read = e ∙ ap (got tt) (sym left); inside = omega arith }
      cases bad e f = absurd (true≢false (sym f))

  pub key-missed : r ≡ false → read_key key (drop at t) ≡ bad
  key-missed q = cases (read_key key (drop at t)) refl (sym says ∙ q)
    where
      cases : (f : Front (Unit {0})) → read_key key (drop at t) ≡ f → opens f ≡ false → read_key key (drop at t) ≡ bad
      cases (got u rest) e f = absurd (true≢false f)
      cases bad e f = e

-- ---- a line and its key
module _ {A : Type 0} (key : List ℕ) (content : List ℕ → Front A) where
  pub line-none : (q : List ℕ) → read_key key q ≡ bad → read_line key content q ≡ bad
  unfolding read_line
  line-none q e = rw e

  pub line-content : (t : List ℕ) (at : ℕ) → KeyAt t at key
      → read_line key content (drop at t) ≡ ended (content (drop (at + length key) t))
  unfolding read_line
  line-content t at k = rw k.read
