-- What the promises of the calls say of the paper's R and of its job, by computation: the one outcome that each allows.
-- plain-outcome, tree-outcome, norms-outcome, moments-outcome, text-outcome and job-outcome: the answer, the list or the text with what the
-- output held after it, and of a working list 16,384 zeros and then what it held. plain-refusal, tree-refusal, text-refusal and job-refusal:
-- the number, and every list as it was. inverse-outcome, inverse-without and inverse-refusal: of Inverse, what two lent numbers hold after it
-- finishes, after 13 and after 12. Each is allowed, and the claims that end in -only say that there is no other.
-- Assumes nothing.
use Rattle.std.specs.Prelude.{◌≡◌, refl, List, [], ◌∷◌, ◌++◌, ℕ, Ok, Err, length, drop, replicate}
use Rattle.std.proofs.Common.{◌∙◌, ap}
use Rattle.definitions.specs.Number.{inverse, divides, factor_up_to, greatest_factor}
use Rattle.definitions.specs.Conversion.{expand}
use Rattle.definitions.specs.Orthogonality.{moments, norms}
use Rattle.definitions.specs.Refusals.{Verdict, finished, refused, tree_tests}
use Rattle.definitions.specs.Answers.{Answer, Valued, InverseAnswer, answered, valued, inverse_answered, inverse_handed, factor_handed, after, after_factor, cleared}
use Rattle.definitions.specs.Answers.{InverseCall, PlainCall, TreeCall, NormsCall, MomentsCall}
use Rattle.definitions.specs.Figures.{handed, R}
use Rattle.definitions.specs.Text.{bytes, job_text}
use Rattle.definitions.specs.TextCall.{reply, TextConverted}
use Rattle.definitions.specs.JobWriting.{writing_tests, JobWritten}
use Rattle.definitions.specs.TextExamples.{verdict_on, paper_job, paper_job_with, paper_text}
use Rattle.definitions.specs.declared.Operation.{Operation}
use Rattle.definitions.specs.declared.NotInverted.{NotInverted}
use Rattle.definitions.specs.declared.Refusal.{Refusal}

-- P1's curve, and one with an entry that is not below 7
abbrev pub curve : List ℕ
curve = 3 ∷ 0 ∷ 1 ∷ []

abbrev pub past : List ℕ
past = 3 ∷ 0 ∷ 7 ∷ []

-- an output, and a working list that is two numbers longer than it must be, before the call and after one that finished
abbrev pub output : List ℕ
output = 4 ∷ 5 ∷ 6 ∷ []

abbrev pub work : List ℕ
work = replicate 16384 3 ++ (8 ∷ 9 ∷ [])

abbrev pub wiped : List ℕ
wiped = replicate 16384 0 ++ (8 ∷ 9 ∷ [])

pub plain-outcome : PlainCall expand R curve (answered (Ok tt)) output (1 ∷ 3 ∷ 2 ∷ [])
unfolding handed
plain-outcome = record { answer = refl; written = refl }

pub plain-refusal : PlainCall expand R past (answered (Err Refusal.CurveEntryNotBelow)) output output
unfolding handed
plain-refusal = record { answer = refl; written = refl }

pub plain-outcome-only : (r : Answer) (output' : List ℕ) → PlainCall expand R curve (answered r) output output'
    → (answered r ≡ finished []) × (output' ≡ 1 ∷ 3 ∷ 2 ∷ [])
unfolding handed
plain-outcome-only r output' p = (p.answer, p.written ∙ ap (λ v. after v (expand R curve) output) p.answer)

pub plain-refusal-only : (r : Answer) (output' : List ℕ) → PlainCall expand R past (answered r) output output'
    → (answered r ≡ refused 12) × (output' ≡ output)
unfolding handed
plain-refusal-only r output' p = (p.answer, p.written ∙ ap (λ v. after v (expand R past) output) p.answer)

pub tree-outcome : TreeCall expand R curve (answered (Ok tt)) output (1 ∷ 3 ∷ 2 ∷ []) work wiped
unfolding handed tree_tests cleared
tree-outcome = record { answer = refl; written = refl; wiped = refl }

pub tree-refusal : TreeCall expand R past (answered (Err Refusal.CurveEntryNotBelow)) output output work work
unfolding handed tree_tests
tree-refusal = record { answer = refl; written = refl; wiped = refl }

pub tree-outcome-only : (r : Answer) (output' work' : List ℕ) → TreeCall expand R curve (answered r) output output' work work'
    → (answered r ≡ finished []) × (output' ≡ 1 ∷ 3 ∷ 2 ∷ []) × (work' ≡ wiped)
unfolding handed tree_tests cleared
tree-outcome-only r output' work' p = (
  p.answer,
  p.written ∙ ap (λ v. after v (expand R curve) output) p.answer,
  p.wiped ∙ ap (λ v. after v (cleared work) work) p.answer,
)

pub tree-refusal-only : (r : Answer) (output' work' : List ℕ) → TreeCall expand R past (answered r) output output' work work'
    → (answered r ≡ refused 12) × (output' ≡ output) × (work' ≡ work)
unfolding handed tree_tests
tree-refusal-only r output' work' p = (
  p.answer,
  p.written ∙ ap (λ v. after v (expand R past) output) p.answer,
  p.wiped ∙ ap (λ v. after v (cleared work) work) p.answer,
)

pub norms-outcome : NormsCall R (answered (Ok tt)) output (1 ∷ 1 ∷ 5 ∷ [])
unfolding handed
norms-outcome = record { answer = refl; written = refl }

pub norms-outcome-only : (r : Answer) (output' : List ℕ) → NormsCall R (answered r) output output'
    → (answered r ≡ finished []) × (output' ≡ 1 ∷ 1 ∷ 5 ∷ [])
unfolding handed
norms-outcome-only r output' p = (p.answer, p.written ∙ ap (λ v. after v (norms R) output) p.answer)

-- ---- Inverse: P8, P9 and a number that is not below m; 21 and 22 are what the lent numbers held
pub inverse-outcome : InverseCall 15 4 (finished []) (21 ∷ []) (4 ∷ []) (22 ∷ []) (1 ∷ [])
unfolding handed divides factor_up_to greatest_factor
inverse-outcome = record { answer = refl; written = refl; factor = refl }

pub inverse-without : InverseCall 15 6 (refused 13) (21 ∷ []) (21 ∷ []) (22 ∷ []) (3 ∷ [])
unfolding handed divides factor_up_to greatest_factor
inverse-without = record { answer = refl; written = refl; factor = refl }

pub inverse-refusal : InverseCall 15 15 (refused 12) (21 ∷ []) (21 ∷ []) (22 ∷ []) (22 ∷ [])
unfolding handed divides factor_up_to greatest_factor
inverse-refusal = record { answer = refl; written = refl; factor = refl }

-- of the answer itself, which is lent nothing
abbrev pub Answers : ℕ → ℕ → InverseAnswer → Type 0
Answers m x r = InverseCall m x (inverse_answered r) [] (inverse_handed r) [] (factor_handed r)

pub inverse-answers : Answers 15 4 (Ok 4) × Answers 15 6 (Err (NotInverted.Shares 3)) × Answers 15 0 (Err (NotInverted.Shares 15))
    × Answers 15 15 (Err (NotInverted.Refused Refusal.CurveEntryNotBelow)) × Answers 1 0 (Err (NotInverted.Refused Refusal.ModulusOutOfRange))
unfolding handed divides factor_up_to greatest_factor
inverse-answers = (
  record { answer = refl; written = refl; factor = refl },
  record { answer = refl; written = refl; factor = refl },
  record { answer = refl; written = refl; factor = refl },
  record { answer = refl; written = refl; factor = refl },
  record { answer = refl; written = refl; factor = refl },
)

pub inverse-without-only : (v : Verdict) (inverses' factors' : List ℕ) → InverseCall 15 6 v (21 ∷ []) inverses' (22 ∷ []) factors'
    → (v ≡ refused 13) × (inverses' ≡ 21 ∷ []) × (factors' ≡ 3 ∷ [])
unfolding handed divides factor_up_to greatest_factor
inverse-without-only v inverses' factors' p = (
  p.answer,
  p.written ∙ ap (λ w. after w (inverse 15 6 ∷ []) (21 ∷ [])) p.answer,
  p.factor ∙ ap (λ w. after_factor w (greatest_factor 15 6 ∷ []) (22 ∷ [])) p.answer,
)

-- an output for the moments
abbrev pub five : List ℕ
five = 4 ∷ 5 ∷ 6 ∷ 7 ∷ 8 ∷ []

pub moments-outcome : MomentsCall R (answered (Ok tt)) five (1 ∷ 0 ∷ 1 ∷ 2 ∷ 1 ∷ []) work wiped
unfolding handed cleared
moments-outcome = record { answer = refl; written = refl; wiped = refl }

pub moments-outcome-only : (r : Answer) (output' work' : List ℕ) → MomentsCall R (answered r) five output' work work'
    → (answered r ≡ finished []) × (output' ≡ 1 ∷ 0 ∷ 1 ∷ 2 ∷ 1 ∷ []) × (work' ≡ wiped)
unfolding handed cleared
moments-outcome-only r output' work' p = (
  p.answer,
  p.written ∙ ap (λ v. after v (moments R) five) p.answer,
  p.wiped ∙ ap (λ v. after v (cleared work) work) p.answer,
)

-- an output that is one byte longer than it must be
abbrev pub page : List ℕ
page = replicate 4097 120

pub text-outcome : TextConverted (bytes paper_text) (Ok 20) page (bytes "op=expand\nout=1 3 2\n" ++ replicate 4077 120) work wiped
unfolding verdict_on cleared
text-outcome = record { answer = refl; written = refl; wiped = refl }

pub text-refusal : TextConverted [] (Err Refusal.Malformed) page page work work
unfolding verdict_on
text-refusal = record { answer = refl; written = refl; wiped = refl }

pub text-refusal-only : (r : Valued) (output' work' : List ℕ) → TextConverted [] r page output' work work'
    → (valued r ≡ refused 2) × (output' ≡ page) × (work' ≡ work)
unfolding verdict_on
text-refusal-only r output' work' p = (
  p.answer,
  p.written ∙ ap (λ v. after v (reply [] ++ drop (length (reply [])) page) page) p.answer,
  p.wiped ∙ ap (λ v. after v (cleared work) work) p.answer,
)

pub text-outcome-only : (r : Valued) (output' work' : List ℕ) → TextConverted (bytes paper_text) r page output' work work'
    → (valued r ≡ finished (20 ∷ [])) × (output' ≡ bytes "op=expand\nout=1 3 2\n" ++ replicate 4077 120) × (work' ≡ wiped)
unfolding verdict_on cleared
text-outcome-only r output' work' p = (
  p.answer,
  p.written ∙ ap (λ v. after v (reply (bytes paper_text) ++ drop (length (reply (bytes paper_text))) page) page) p.answer,
  p.wiped ∙ ap (λ v. after v (cleared work) work) p.answer,
)

-- an output for a job text that is one byte longer than it must be, and the paper's job written into it
abbrev pub sheet : List ℕ
sheet = replicate 8193 120

abbrev pub filled : List ℕ
filled = bytes paper_text ++ replicate 8151 120

pub job-outcome : JobWritten paper_job (Ok 42) sheet filled
unfolding verdict_on job_text writing_tests
job-outcome = record { answer = refl; written = refl }

pub job-outcome-only : (r : Valued) (output' : List ℕ) → JobWritten paper_job r sheet output'
    → (valued r ≡ finished (42 ∷ [])) × (output' ≡ filled)
unfolding verdict_on job_text writing_tests
job-outcome-only r output' p =
    (p.answer, p.written ∙ ap (λ v. after v (job_text paper_job ++ drop (length (job_text paper_job)) sheet) sheet) p.answer)

-- the same with an entry that is not below 7
pub job-refusal : JobWritten (paper_job_with Operation.Expand past) (Err Refusal.CurveEntryNotBelow) sheet sheet
unfolding verdict_on job_text writing_tests
job-refusal = record { answer = refl; written = refl }

pub job-refusal-only : (r : Valued) (output' : List ℕ) → JobWritten (paper_job_with Operation.Expand past) r sheet output'
    → (valued r ≡ refused 12) × (output' ≡ sheet)
unfolding verdict_on job_text writing_tests
job-refusal-only r output' p =
    let text = job_text (paper_job_with Operation.Expand past) in
    (p.answer, p.written ∙ ap (λ v. after v (text ++ drop (length text) sheet) sheet) p.answer)
