-- The longest text that is written: there is always room.
--   greatest_job  127 rows and a curve of 2147483646 alone, modulo 2147483647, to be decomposed
-- Proved: it is accepted (greatest-accepted), and its text has 5,635 bytes (longest-reached). No text that is written has more (written-within in
-- Carried), so 8,192 bytes have room for every one (always-room). Assumes nothing.
use Rattle.std.specs.Prelude.{◌≡◌, refl, List, ℕ, ◌<◌, length, get_or, replicate}
use Rattle.std.proofs.Common.{sym, subst, arith}
use Rattle.std.proofs.Math.Logic.{by_cases}
use Rattle.std.proofs.Math.Decide.{dec_lt}
use Rattle.std.proofs.lemmas.List.{get_or-replicate, length-replicate}
use Rattle.std.proofs.Math.ListN.{get_or-eq_default}
use Rattle.definitions.specs.Family.{Accepted, greatest_modulus, most_rows, row_at}
use Rattle.definitions.specs.JobWriting.{job_output_length, written_job, AcceptedJob}
use Rattle.definitions.specs.Number.{HasInverse}
use Rattle.definitions.specs.Text.{WrittenJob, meant, decimal_within, decimal, spaced, numbers, line, name, job_text}
use Rattle.definitions.specs.TextCall.{curve_count}
use Rattle.definitions.specs.declared.Operation.{Operation}
use Rattle.texts.specs.JobTexts.{longest_job}
use Rattle.numbers.specs.Inverse.{one-has-inverse}
use Rattle.text_laws.specs.Carried.{written-within}

-- the greatest residue, its own inverse
abbrev greatest : ℕ
greatest = 2147483646

abbrev column : List ℕ
column = replicate most_rows greatest

abbrev pub greatest_job : WrittenJob
greatest_job = written_job greatest_modulus column column column Operation.Decompose (replicate 128 greatest)

greatest-inverse : HasInverse greatest_modulus greatest
unfolding HasInverse
greatest-inverse = (greatest, refl)

-- every entry of a column, and that of the closing row after it
each_row : (P : ℕ → Type 0) → P greatest → P 1 → (i : ℕ) → P (get_or column i 1)
each_row P here closing i = by_cases (dec_lt i most_rows)
    (λ h. subst P (sym (get_or-replicate most_rows i greatest 1 h)) here)
    (λ n. subst P (sym (get_or-eq_default column 1 {n = i} (omega arith))) closing)

rows-accepted : Accepted (meant greatest_job).family
unfolding row_at
rows-accepted =
    let below = each_row (λ x. x < greatest_modulus) (omega arith) (omega arith) in
    let inverse = each_row (HasInverse greatest_modulus) greatest-inverse (one-has-inverse greatest_modulus (omega arith)) in
    record {
      modulus = record { least = omega arith; greatest = omega arith };
      b_length = refl;
      c_length = refl;
      row_count = omega (arith, length-replicate {A = ℕ} most_rows greatest);
      below = λ i h. record { a_below = below i; b_below = below i; c_below = below i };
      a_inverse = λ i h. inverse i;
      c_inverse = λ i l h. inverse i;
    }

pub greatest-accepted : AcceptedJob (meant greatest_job)
unfolding curve_count
greatest-accepted = record {
  accepted = rows-accepted;
  curve_length = refl;
  curve_below = λ i h.
      let inside : i < 128 = omega (arith, length-replicate {A = ℕ} 128 greatest) in
      subst (λ x. x < greatest_modulus) (sym (get_or-replicate 128 i greatest 0 inside)) (omega arith);
}

pub longest-reached : length (job_text greatest_job) ≡ longest_job
unfolding decimal_within decimal spaced numbers line name job_text
longest-reached = refl

pub always-room : (w : WrittenJob) → AcceptedJob (meant w) → length (job_text w) < job_output_length
always-room w job = omega (arith, written-within w job)
