-- Lists of numbers with one space between two, written and read.
--   NumbersFront t xs rest   t begins with the 32-bit numbers xs, and rest is what follows
-- Proved: numbers that are written before byte 10 are read back (read-numbers), and numbers that are read stood there so
-- written (numbers-read).
-- Assumes nothing.
use Rattle.std.specs.Prelude.{◌≡◌, Bool, true, false, List, [], ◌∷◌, ◌++◌, ℕ, zero, suc, ◌-◌, ◌<◌, ◌≤◌, eqb, length}
use Rattle.std.proofs.Math.Path.{refl, sym, ap}
use Rattle.std.proofs.Common.{◌∙◌, append_assoc, append-nil, arith, length-append, eqb-true}
use Rattle.definitions.specs.Text.{greatest_number, newline, space, nought, decimal, spaced, numbers, AllWritable}
use Rattle.definitions.specs.Reading.{Front, got, bad, pick, then, is_digit, read_digits, read_number, put, read_on, read_some}
use Rattle.definitions.specs.Reading.{read_numbers}
use Rattle.texts.specs.DecimalReading.{got-not-bad, read-decimal, decimal-read}

space-no-digit : is_digit space ≡ false
unfolding is_digit
space-no-digit = refl

pub newline-no-digit : is_digit newline ≡ false
unfolding is_digit
newline-no-digit = refl

-- ---- what a reader answers, step by step
pub read_some-step : (k x : ℕ) (t rest : List ℕ) → read_number t ≡ got x rest → read_some (suc k) t ≡ read_on (read_some k) x rest
unfolding read_some
read_some-step k x t rest e = rw e

module _ (next : List ℕ → Front (List ℕ)) (x : ℕ) (t : List ℕ) where
  read_on-space : read_on next x (space ∷ t) ≡ put x (next t)
  unfolding read_on
  read_on-space = refl

  read_on-newline : read_on next x (newline ∷ t) ≡ got (x ∷ []) (newline ∷ t)
  unfolding read_on
  read_on-newline = refl

-- where a number is read, there is a digit
pub read_numbers-some : (x : ℕ) (t rest : List ℕ) → read_number t ≡ got x rest → read_numbers t ≡ read_some (length t) t
unfolding read_numbers read_number
read_numbers-some x [] rest e = absurd (got-not-bad e)
read_numbers-some x (b ∷ t) rest e = split (is_digit b) refl e
  where
    split : (d : Bool) → is_digit b ≡ d → pick d (pick (eqb b nought) (got 0 t) (read_digits (b - nought) t)) bad ≡ got x rest
        → read_numbers (b ∷ t) ≡ read_some (length (b ∷ t)) (b ∷ t)
    split true d e = rw d
    split false d e = absurd (got-not-bad e)

-- ---- numbers are read back
read_first : (x : ℕ) (xs t : List ℕ) → x ≤ greatest_number
    → read_number (decimal x ++ (spaced xs ++ newline ∷ t)) ≡ got x (spaced xs ++ newline ∷ t)
unfolding spaced
read_first x [] t h = read-decimal x newline t h newline-no-digit
read_first x (y ∷ ys) t h = read-decimal x space ((decimal y ++ spaced ys) ++ newline ∷ t) h space-no-digit

read_some-spaced : (k x : ℕ) (xs t : List ℕ) → length xs < k → AllWritable (x ∷ xs)
    → read_some k (decimal x ++ (spaced xs ++ newline ∷ t)) ≡ got (x ∷ xs) (newline ∷ t)
unfolding spaced
read_some-spaced zero x xs t l h = absurd (omega arith)
read_some-spaced (suc k) x xs t l h = read_some-step k x _ _ (read_first x xs t h.0) ∙ on xs l h.1 (read_some-spaced k)
  where
    on : (xs : List ℕ) → length xs < suc k → AllWritable xs
        → ((y : ℕ) (ys t : List ℕ) → length ys < k → AllWritable (y ∷ ys)
        → read_some k (decimal y ++ (spaced ys ++ newline ∷ t)) ≡ got (y ∷ ys) (newline ∷ t))
        → read_on (read_some k) x (spaced xs ++ newline ∷ t) ≡ got (x ∷ xs) (newline ∷ t)
    on [] l h next = read_on-newline (read_some k) x t
    on (y ∷ ys) l h next =
        read_on-space (read_some k) x ((decimal y ++ spaced ys) ++ newline ∷ t)
        ∙ ap (λ q. put x (read_some k q)) (append_assoc (decimal y) (spaced ys) (newline ∷ t)) ∙ ap (put x) (next y ys t (omega arith) h)

pub length-spaced : (xs : List ℕ) → length xs ≤ length (spaced xs)
unfolding spaced
length-spaced [] = omega arith
length-spaced (x ∷ xs) = omega (arith, length-append (decimal x) (spaced xs), length-spaced xs)

pub read-numbers : (xs t : List ℕ) → AllWritable xs → read_numbers (numbers xs ++ newline ∷ t) ≡ got xs (newline ∷ t)
unfolding numbers read_numbers is_digit
read-numbers [] t h = refl
read-numbers (x ∷ xs) t h =
    let s = decimal x ++ (spaced xs ++ newline ∷ t) in
    let l : length xs < length s =
    omega (arith, length-append (decimal x) (spaced xs ++ newline ∷ t), length-append (spaced xs) (newline ∷ t), length-spaced xs) in
    ap read_numbers (append_assoc (decimal x) (spaced xs) (newline ∷ t)) ∙ read_numbers-some x s _ (read_first x xs t h.0)
    ∙ read_some-spaced (length s) x xs t l h

-- ---- what is read stood there
pub record NumbersFront (t xs rest : List ℕ) : Type 0 where
  pub text : t ≡ numbers xs ++ rest
  pub writable : AllWritable xs

pub then-got : {A B : Type 0} (r : Front A) (next : A → List ℕ → Front B) (y : B) (rest : List ℕ) → then r next ≡ got y rest
    → (x : A) × (q : List ℕ) × (r ≡ got x q) × (next x q ≡ got y rest)
then-got (got x q) next y rest e = (x, q, refl, e)
then-got bad next y rest e = absurd (got-not-bad e)

put-got : (x : ℕ) (r : Front (List ℕ)) (xs rest : List ℕ) → put x r ≡ got xs rest
    → (ys : List ℕ) × (r ≡ got ys rest) × (x ∷ ys ≡ xs)
put-got x (got ys q) xs rest e = let a : q ≡ rest = cc in (ys, cc, cc)
put-got x bad xs rest e = absurd (got-not-bad e)

spaced-numbers : (xs : List ℕ) → 0 < length xs → spaced xs ≡ space ∷ numbers xs
unfolding spaced numbers
spaced-numbers [] h = absurd (omega arith)
spaced-numbers (x ∷ xs) h = refl

module _ (x : ℕ) (t : List ℕ) where
  one-front : (rest : List ℕ) → t ≡ decimal x ++ rest → t ≡ numbers (x ∷ []) ++ rest
  unfolding numbers spaced
  one-front rest e = e ∙ ap (λ ds. ds ++ rest) (sym (append-nil (decimal x)))

  more-front : (q ys rest : List ℕ) → t ≡ decimal x ++ space ∷ q → q ≡ numbers ys ++ rest → 0 < length ys → t ≡ numbers (x ∷ ys) ++ rest
  unfolding numbers
  more-front q ys rest e f h =
      e ∙ ap (λ s. decimal x ++ space ∷ s) f ∙ ap (λ s. decimal x ++ (s ++ rest)) (sym (spaced-numbers ys h))
      ∙ sym (append_assoc (decimal x) (spaced ys) rest)

some_read : (k : ℕ) (t xs rest : List ℕ) → read_some k t ≡ got xs rest → NumbersFront t xs rest × (0 < length xs)
unfolding read_some read_on
some_read zero t xs rest e = absurd (got-not-bad e)
some_read (suc k) t xs rest e =
    let g = then-got (read_number t) (read_on (read_some k)) xs rest e in
    let front = decimal-read t g.0 g.1 g.2 in
    after g.0 g.1 front.text front.writable g.3 (λ q ys h. some_read k q ys rest h)
  where
    after : (x : ℕ) (q : List ℕ) → t ≡ decimal x ++ q → x ≤ greatest_number → read_on (read_some k) x q ≡ got xs rest
        → ((q ys : List ℕ) → read_some k q ≡ got ys rest → NumbersFront q ys rest × (0 < length ys))
        → NumbersFront t xs rest × (0 < length xs)
    after x [] f w e next =
        let a : x ∷ [] ≡ xs = cc in
        let u : [] ≡ rest = cc in
        rw (← a, ← u) (record { text = one-front x t [] f; writable = (w, tt) }, omega arith)
    after x (b ∷ q) f w e next = split (eqb b space) refl e
      where
        split : (s : Bool) → eqb b space ≡ s → pick s (put x (read_some k q)) (got (x ∷ []) (b ∷ q)) ≡ got xs rest
            → NumbersFront t xs rest × (0 < length xs)
        split true s e =
            let g = put-got x (read_some k q) xs rest e in
            let i = next q g.0 g.1 in
            let s' : b ≡ space = eqb-true b space s in
            let text = more-front x t q g.0 rest (f ∙ ap (λ c. decimal x ++ c ∷ q) s') i.0.text i.1 in
            rw (← g.2) (record { text = text; writable = (w, i.0.writable) }, omega arith)
        split false s e =
            let a : x ∷ [] ≡ xs = cc in
            let u : b ∷ q ≡ rest = cc in
            rw (← a, ← u) (record { text = one-front x t (b ∷ q) f; writable = (w, tt) }, omega arith)

pub numbers-read : (t xs rest : List ℕ) → read_numbers t ≡ got xs rest → NumbersFront t xs rest
unfolding read_numbers numbers
numbers-read [] xs rest e =
    let a : [] ≡ xs = cc in
    let u : [] ≡ rest = cc in
    rw (← a, ← u) (record { text = refl; writable = tt })
numbers-read (b ∷ t) xs rest e = split (is_digit b) e
  where
    split : (d : Bool) → pick d (read_some (length (b ∷ t)) (b ∷ t)) (got [] (b ∷ t)) ≡ got xs rest → NumbersFront (b ∷ t) xs rest
    split true e = (some_read (length (b ∷ t)) (b ∷ t) xs rest e).0
    split false e =
        let a : ◌≡◌ {A = List ℕ} [] xs = cc in
        let u : b ∷ t ≡ rest = cc in
        rw (← a, ← u) (record { text = refl; writable = tt })
