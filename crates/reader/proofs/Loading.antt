-- One step of loading the numbers of a line.
--   onto done f               the answer f, with the numbers done before those that were read
--   Loading t at old out k i  k numbers of the list that begins at place at are read and put into out, and the next begins at place i
-- Proved: how loading begins, goes on and ends. These rest on `kept` of Storing, which an edit of specs/ changes. Assumes nothing.
use Rattle.std.specs.Prelude.{◌≡◌, Bool, ℕ, zero, suc, ◌+◌, ◌-◌, ◌<◌, ◌≤◌, drop, set}
use Rattle.std.proofs.Math.Path.{refl, sym, ap}
use Rattle.std.proofs.Common.{◌∙◌, arith, length-drop}
use Rattle.std.proofs.Math.Bool.{true, false}
use mathlib.Core.List.{List, [], ◌∷◌, ◌++◌, append_assoc}
use Rattle.std.proofs.Math.Numerals.{add-one}
use Rattle.std.proofs.Math.ListN.{length, get_or, length-append, length-set, drop_of_length-le}
use Rattle.std.proofs.Math.Seq.{drop-cons}
use borrow.Author.Tests.{ne_eqb}
use Rattle.definitions.specs.Text.{newline, space}
use Rattle.definitions.specs.Reading.{Front, got, bad, read_key, is_digit, read_number, put, read_on, read_some, read_numbers, ended}
use Rattle.texts.specs.NumbersReading.{read_some-step}
use Rattle.reader.specs.Places.{NumberAt}
use Rattle.reader.specs.Digits.{number_past, number-other}
use Rattle.reader.specs.Storing.{kept, ListAt, kept-none, kept_next}

abbrev onto : List ℕ → Front (List ℕ) → Front (List ℕ)
onto done (got xs rest) = got (done ++ xs) rest
onto done bad = bad

onto-none : (f : Front (List ℕ)) → f ≡ onto [] f
onto-none (got xs rest) = refl
onto-none bad = refl

onto-put : (done : List ℕ) (x : ℕ) (f : Front (List ℕ)) → onto done (put x f) ≡ onto (done ++ x ∷ []) f
onto-put done x (got xs rest) = ap (λ ys. got ys rest) (sym (append_assoc done (x ∷ []) xs))
onto-put done x bad = refl

-- ---- the end of a line
ended-put : (x : ℕ) (r : Front (List ℕ)) → ended (put x r) ≡ put x (ended r)
unfolding ended
ended-put x (got xs t) = cases (read_key (newline ∷ []) t) refl
  where
    cases : (f : Front (Unit {0})) → read_key (newline ∷ []) t ≡ f → ended (put x (got xs t)) ≡ put x (ended (got xs t))
    cases (got u rest) e = rw e
    cases bad e = rw e
ended-put x bad = refl

module _ (xs : List ℕ) where
  ended_here : (rest : List ℕ) → ended (got xs (newline ∷ rest)) ≡ got xs rest
  unfolding ended read_key
  ended_here rest = refl

  ended-past : ended (got xs []) ≡ bad
  unfolding ended read_key
  ended-past = refl

  ended-other : (b : ℕ) (rest : List ℕ) → (b ≡ newline → ⊥) → ended (got xs (b ∷ rest)) ≡ bad
  unfolding ended read_key
  ended-other b rest n = rw (ne_eqb b newline n)

ended-bad : ended {A = List ℕ} bad ≡ bad
unfolding ended
ended-bad = refl

some-bad : (f : ℕ) (q : List ℕ) → read_number q ≡ bad → read_some f q ≡ bad
unfolding read_some
some-bad zero q e = refl
some-bad (suc f) q e = rw e

-- ---- where a list begins
module _ (t : List ℕ) (at : ℕ) (old : List ℕ) where
  abbrev list : Front (List ℕ)
  list = ended (read_numbers (drop at t))

  pub record Loading (out : List ℕ) (k i : ℕ) : Type 0 where
    pub inside : i ≤ length t
    pub passed : at + k ≤ i
    pub done : List ℕ
    pub count : length done ≡ k
    pub same : list ≡ onto done (ended (read_some (length t - (at + k)) (drop i t)))
    pub front : out ≡ kept done old
    pub size : length out ≡ length old

  pub list-past : length t ≤ at → list ≡ bad
  unfolding read_numbers
  list-past h = rw (drop_of_length-le t {i = at} h, ended-past)

  module _ (l : at < length t) where
    pub list-empty : get_or t at 0 ≡ newline → ListAt t list 0 (at + 1) old old
    unfolding read_numbers is_digit
    list-empty e = record {
      xs = [];
      read = rw (drop-cons t at 0, e, ended_here, ← add-one at);
      inside = omega arith;
      stored = record { count = refl; front = sym (kept-none old) };
    }

    -- a byte that is neither a digit nor byte 10 is wrong either way
    read_numbers-some : (get_or t at 0 ≡ newline → ⊥) → list ≡ ended (read_some (length (drop at t)) (drop at t))
    unfolding read_numbers
    read_numbers-some n = cases (is_digit (get_or t at 0)) refl
      where
        cases : (d : Bool) → is_digit (get_or t at 0) ≡ d
            → ended (read_numbers (drop at t)) ≡ ended (read_some (length (drop at t)) (drop at t))
        cases true d = ap ended (rw (drop-cons t at 0, d))
        cases false d =
            let none : ended (read_numbers (drop at t)) ≡ bad =
            rw (drop-cons t at 0, d, ended-other [] (get_or t at 0) (drop (suc at) t) n) in
            none ∙ sym (ap ended (some-bad (length (drop at t)) (drop at t) (number-other t at l d)) ∙ ended-bad)

    pub loading-starts : (get_or t at 0 ≡ newline → ⊥) → Loading old 0 at
    loading-starts n =
        let f : length (drop at t) ≡ length t - (at + 0) = omega (arith, length-drop at t) in
        record {
          inside = omega arith;
          passed = omega arith;
          done = [];
          count = refl;
          same = read_numbers-some n ∙ ap (λ k. ended (read_some k (drop at t))) f
              ∙ onto-none (ended (read_some (length t - (at + 0)) (drop at t)));
          front = sym (kept-none old);
          size = refl;
        }

  -- ---- one number and the byte after it
  module _ (out : List ℕ) (k i : ℕ) (c : Loading out k i) where
    pub loading-none : read_number (drop i t) ≡ bad → list ≡ bad
    loading-none e = c.same ∙ rw (some-bad (length t - (at + k)) (drop i t) e, ended-bad)

    pub loading-past : length t ≤ i → list ≡ bad
    loading-past h = loading-none (number_past t i h)

    module _ (x next : ℕ) (e : NumberAt t i x next) where
      some_turn : read_some (length t - (at + k)) (drop i t) ≡ read_on (read_some (length t - (at + (k + 1)))) x (drop next t)
      some_turn =
          let f : length t - (at + k) ≡ suc (length t - (at + (k + 1))) = omega (arith, e.on, e.inside, c.passed) in
          ap (λ j. read_some j (drop i t)) f ∙ read_some-step (length t - (at + (k + 1))) x (drop i t) (drop next t) e.read

      pub loading-open : length t ≤ next → list ≡ bad
      unfolding read_on
      loading-open h = c.same ∙ rw (some_turn, drop_of_length-le t {i = next} h, ended-past)

      module _ (l : next < length t) where
        pub loading-other : (get_or t next 0 ≡ space → ⊥) → (get_or t next 0 ≡ newline → ⊥) → list ≡ bad
        unfolding read_on
        loading-other m n =
            let b = get_or t next 0 in
            c.same ∙ rw (some_turn, drop-cons t next 0, ne_eqb b space m, ended-other (x ∷ []) b (drop (suc next) t) n)

        module _ (out' : List ℕ) (w : out' ≡ set out k x) where
          more : List ℕ
          more = c.done ++ x ∷ []

          more-count : length more ≡ k + 1
          unfolding more
          more-count = length-append c.done (x ∷ []) ∙ ap (λ j. j + 1) c.count

          more-front : out' ≡ kept more old
          unfolding more
          more-front = w ∙ rw (← c.count, c.front) (kept_next c.done old x)

          pub loading-next : get_or t next 0 ≡ space → Loading out' (k + 1) (next + 1)
          unfolding read_on more
          loading-next b = record {
            inside = omega arith;
            passed = omega (arith, e.on, c.passed);
            done = more;
            count = more-count;
            same = c.same
                ∙ rw (some_turn, drop-cons t next 0, b, ended-put, add-one next)
                (onto-put c.done x (ended (read_some (length t - (at + (k + 1))) (drop (suc next) t))));
            front = more-front;
            size = ap length w ∙ length-set out k x ∙ c.size;
          }

          pub loading-ends : get_or t next 0 ≡ newline → ListAt t list (k + 1) (next + 1) old out'
          unfolding read_on more
          loading-ends b = record {
            xs = more;
            read = c.same ∙ rw (some_turn, drop-cons t next 0, b, ended_here, ← add-one next);
            inside = omega arith;
            stored = record { count = more-count; front = more-front };
          }
