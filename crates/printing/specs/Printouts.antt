-- What is printed for a text, in a list of 4,096 bytes.
--   Prints t bytes n   the first n bytes are what is printed for t, and the others are zero
-- Proved: so is what the text call leaves if it is finished, and the refusal text of its number otherwise; the first n bytes
-- (prints-within, prints-front). Assumes nothing.
use Rattle.std.specs.Prelude.{◌≡◌, List, [], ◌∷◌, ◌++◌, ℕ, ◌+◌, ◌-◌, ◌≤◌, length, take, replicate, Ok, Err}
use Rattle.std.proofs.Math.Path.{sym, ap, ap₂}
use Rattle.std.proofs.Common.{◌∙◌, arith, length-append, take_at, drop_at}
use Rattle.std.proofs.Math.Nat.{sub-zero}
use Rattle.std.proofs.Math.ListN.{drop}
use Rattle.std.proofs.lemmas.List.{length-replicate, replicate-append-replicate}
use Rattle.definitions.specs.Answers.{number_of, Valued, valued, after}
use Rattle.definitions.specs.Printing.{shown, printed}
use Rattle.definitions.specs.Refusals.{finished, verdict, work_length}
use Rattle.definitions.specs.Text.{refusal_text}
use Rattle.definitions.specs.TextCall.{text_output_length, text_tests, reply, TextConverted}
use Rattle.acceptance.specs.Verdicts.{with_values}
use Rattle.writer.specs.Refusal.{RefusalWritten}
use Rattle.acceptance.specs.Given.{revalued}
use Rattle.printing.specs.Limits.{lent_tests, printed-fits}
use Rattle.definitions.specs.declared.Refusal.{Refusal}

pub record Prints (t bytes : List ℕ) (n : ℕ) : Type 0 where
  pub count : n ≡ length (printed t)
  pub stands : bytes ≡ printed t ++ replicate (text_output_length - n) 0

module _ (t bytes : List ℕ) (n : ℕ) (p : Prints t bytes n) where
  pub prints-within : n ≤ length bytes
  prints-within = omega (arith, p.count, ap length p.stands ∙ length-append (printed t) (replicate (text_output_length - n) 0))

  -- as the part from 0 to n is written in the code
  pub prints-front : take (n - 0) bytes ≡ printed t
  prints-front = rw (sub-zero n, p.stands) (take_at (printed t) (replicate (text_output_length - n) 0) n (sym p.count))

drop-zeros : (k n : ℕ) → n ≤ k → ◌≡◌ {A = List ℕ} (drop n (replicate k 0)) (replicate (k - n) 0)
drop-zeros k n h =
    let sum : n + (k - n) ≡ k = omega arith in
    ap (λ j. drop n (replicate j 0)) (sym sum) ∙ ap (drop n) (sym (replicate-append-replicate n (k - n) 0))
    ∙ drop_at (replicate n 0) (replicate (k - n) 0) n (length-replicate n 0)

-- text stands at the front of what were zeros
front-prints : (t text bytes : List ℕ) (n : ℕ) → printed t ≡ text → n ≡ length text → bytes ≡ text ++ drop n (replicate text_output_length 0)
    → Prints t bytes n
front-prints t text bytes n is count stands =
    let long : n ≡ length (printed t) = count ∙ ap length (sym is) in
    record {
      count = long;
      stands = stands ∙ ap₂ (λ front rest. front ++ rest) (sym is) (drop-zeros text_output_length n (omega (arith, printed-fits t)));
    }

-- the text call has answered r, and left output'
module _ (t : List ℕ) (r : Valued) (output output' work work' : List ℕ) (call : TextConverted t r output output' work work')
    (blank : output ≡ replicate text_output_length 0) (room : work ≡ replicate work_length 0) where
  abbrev long : ℕ
  long = length (reply t)

  given : valued r ≡ verdict (lent_tests t) (long ∷ [])
  given = call.answer ∙ ap₂ (λ i j. verdict (text_tests t i j) (long ∷ []))
      (ap length blank ∙ length-replicate {A = ℕ} text_output_length 0) (ap length room ∙ length-replicate {A = ℕ} work_length 0)

  printed-shown : printed t ≡ shown (with_values (reply t) (valued r))
  unfolding printed
  printed-shown = ap shown (revalued (lent_tests t) (long ∷ []) (reply t) ∙ ap (with_values (reply t)) (sym given))

  pub answer-printed : (n : ℕ) → r ≡ Ok n → Prints t output' n
  unfolding shown
  answer-printed n is =
      let told : finished (n ∷ []) ≡ finished (long ∷ []) =
      sym (ap valued is) ∙ given ∙ revalued (lent_tests t) (long ∷ []) (long ∷ []) ∙ ap (with_values (long ∷ [])) (sym given ∙ ap valued is) in
      let count : n ≡ long = cc in
      front-prints t (reply t) output' n (printed-shown ∙ ap (λ v. shown (with_values (reply t) (valued v))) is) count
      (call.written ∙ ap (λ v. after (valued v) (reply t ++ drop long output) output) is ∙ ap₂ (λ i zeros. reply t ++ drop i zeros) (sym count) blank)

  pub refusal-printed : (k : Refusal) → r ≡ Err k → (n : ℕ) (output'' : List ℕ) → RefusalWritten (number_of k) n output' output'' → Prints t output'' n
  unfolding shown
  refusal-printed k is n output'' p =
      let kept = call.written ∙ ap (λ v. after (valued v) (reply t ++ drop long output) output) is ∙ blank in
      front-prints t (refusal_text (number_of k)) output'' n (printed-shown ∙ ap (λ v. shown (with_values (reply t) (valued v))) is) p.answer
      (p.written ∙ ap (λ zeros. refusal_text (number_of k) ++ drop n zeros) kept)
