-- What the reader answers: the place after what was read, in a text of n bytes, for what is left of the text.
--   found x j          x was read, and j is the place after it
--   placed n r         a number that was read
--   opens r            whether a key stands there
--   NumberAt t i x j   the number x stands in t from place i to place j
-- Proved: what an answer says of the reader's; where something stands at a place, what is left begins right after it; an answer of
-- read_number says what stands there.
-- Assumes nothing.
use Rattle.std.specs.Prelude.{◌≡◌, refl, Bool, true, false, List, ◌++◌, ℕ, ◌+◌, ◌-◌, ◌<◌, ◌≤◌, length, drop, Option, Some, None}
use Rattle.std.proofs.Common.{sym, ◌∙◌, ap, arith, length-append, length-drop, drop-drop}
use Rattle.std.proofs.Math.Seq.{drop-append_seam}
use Rattle.definitions.specs.Text.{decimal}
use Rattle.definitions.specs.Reading.{Front, got, bad, read_number}
use Rattle.texts.specs.Decimal.{decimal-not-empty}
use Rattle.texts.specs.DecimalReading.{decimal-read}
use Rattle.reader.specs.declared.Read.{Read}

abbrev pub found : {A : Type 0} → A → ℕ → Option (Read A)
found x next = Some (record { value = x; next = next })

abbrev pub placed : ℕ → Front ℕ → Option (Read ℕ)
placed n (got x rest) = found x (n - length rest)
placed n bad = None

abbrev pub opens : Front (Unit {0}) → Bool
opens (got u rest) = true
opens bad = false

-- ---- an answer taken back
wrong-way : ◌≡◌ {A = ℕ} 0 1 → ⊥
wrong-way e = omega arith

found-same : {A : Type 0} {r s : Read A} → Some r ≡ Some s → r ≡ s
found-same e = cc

value-of : Read ℕ → ℕ
value-of r = r.value

next-of : Read ℕ → ℕ
next-of r = r.next

module _ (n : ℕ) where
  placed-found : (f : Front ℕ) (x next : ℕ) → placed n f ≡ found x next
      → (rest : List ℕ) × (f ≡ got x rest) × (next ≡ n - length rest)
  unfolding value-of next-of
  placed-found (got y rest) x next e =
      let same = found-same e in
      (rest, ap (λ z. got z rest) (ap value-of same), sym (ap next-of same))
  placed-found bad x next e = absurd (wrong-way cc)

  placed-missed : (f : Front ℕ) → placed n f ≡ None → f ≡ bad
  placed-missed (got x rest) e = absurd (wrong-way cc)
  placed-missed bad e = refl

-- ---- places
pub place-drop : (t : List ℕ) (i : ℕ) → i ≤ length t → length t - length (drop i t) ≡ i
place-drop t i h = omega (arith, length-drop i t)

-- what is left of t after `front`, which stands at place at
record Rest (t : List ℕ) (at : ℕ) (front rest : List ℕ) : Type 0 where
  inside : at + length front ≤ length t
  place : length t - length rest ≡ at + length front
  left : drop (length t - length rest) t ≡ rest

rest-after : (t : List ℕ) (at : ℕ) (front rest : List ℕ) → drop at t ≡ front ++ rest → 0 < length front → Rest t at front rest
rest-after t at front rest e h =
    let n : length t - at ≡ length front + length rest = sym (length-drop at t) ∙ ap length e ∙ length-append front rest in
    let place : length t - length rest ≡ at + length front = omega arith in
    record {
      inside = omega arith;
      place = place;
      left = ap (λ j. drop j t) place ∙ sym (drop-drop (length front) at t) ∙ ap (drop (length front)) e ∙ drop-append_seam front rest;
    }

pub record NumberAt (t : List ℕ) (i x next : ℕ) : Type 0 where
  pub read : read_number (drop i t) ≡ got x (drop next t)
  pub on : i < next
  pub inside : next ≤ length t

module _ (t : List ℕ) (i : ℕ) (r : Option (Read ℕ)) (says : r ≡ placed (length t) (read_number (drop i t))) where
  pub number-found : (x next : ℕ) → r ≡ found x next → NumberAt t i x next
  number-found x next q =
      let g = placed-found (length t) (read_number (drop i t)) x next (sym says ∙ q) in
      let after = rest-after t i (decimal x) g.0 (decimal-read (drop i t) x g.0 g.1).text (decimal-not-empty x) in
      let left : drop next t ≡ g.0 = ap (λ j. drop j t) g.2 ∙ after.left in
      record {
        read = g.1 ∙ ap (got x) (sym left);
        on = omega (arith, g.2, decimal-not-empty x, after.place);
        inside = omega (arith, g.2, after.inside, after.place);
      }

  pub number-missed : r ≡ None → read_number (drop i t) ≡ bad
  number-missed q = placed-missed (length t) (read_number (drop i t)) (sym says ∙ q)
