-- What the library says of a part of a text and of a byte of it.
--   rest-whole   a part that goes to the end, as code writes it
--   byte-at      the byte that `get` answers is the one at its place; where it answers none, the text is past (no_byte)
--   key_starts   a key stands at the front of a text where the text begins with it
-- Assumes nothing.
use Rattle.std.specs.Prelude.{◌≡◌, refl, Bool, true, false, List, ◌++◌, ℕ, ◌-◌, ◌<◌, ◌≤◌, ltb, length, take, drop, get_or}
use Rattle.std.proofs.Common.{sym, ◌∙◌, ap, arith, true≢false, take_all, length-drop, ltb-true, ltb-false}
use Rattle.std.proofs.lemmas.Grind.{get_or_default_zero}
use Rattle.definitions.specs.Reading.{Front, got, bad, read_key}
use Rattle.texts.specs.LinesReading.{read-key, key-read}
use Rattle.reader.specs.Places.{opens}

pub rest-whole : (t : List ℕ) (at : ℕ) → take (length t - at) (drop at t) ≡ drop at t
rest-whole t at = take_all (length t - at) (drop at t) (omega (arith, length-drop at t))

pub record ByteAt (t : List ℕ) (i b : ℕ) : Type 0 where
  pub inside : i < length t
  pub is : get_or t i 0 ≡ b

pub byte-at : (t : List ℕ) (i b : ℕ) → true ≡ ltb i (length t) → b ≡ get_or t i b → ByteAt t i b
byte-at t i b there e =
    let inside : i < length t = ltb-true i (length t) (sym there) in
    record { inside = inside; is = sym (e ∙ get_or_default_zero t i b inside) }

pub no_byte : (t : List ℕ) (i : ℕ) → false ≡ ltb i (length t) → length t ≤ i
no_byte t i none = ltb-false i (length t) (sym none)

pub key_starts : (key s : List ℕ) (r : Bool) → (r ≡ true → s ≡ key ++ drop (length key) s) × ((rest : List ℕ) → s ≡ key ++ rest → r ≡ true)
    → r ≡ opens (read_key key s)
key_starts key s true h = sym (ap opens (ap (read_key key) (h.0 refl) ∙ read-key key (drop (length key) s)))
key_starts key s false h = cases (read_key key s) refl
  where
    cases : (f : Front (Unit {0})) → read_key key s ≡ f → false ≡ opens (read_key key s)
    cases (got u rest) e = absurd (true≢false (sym (h.1 rest (key-read key s u rest e))))
    cases bad e = sym (ap opens e)
