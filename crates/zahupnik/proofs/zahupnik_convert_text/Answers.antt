-- `zahupnik_convert_text` writes the length and returns 0, or returns the refusal's number; what the text call leaves stays. Assumes nothing.
use mathlib.Core.Path.{sym, ◌∙◌, ap}
use Rattle.definitions.specs.Answers.{valued}
use Rattle.zahupnik.specs.Returned.{number}
use Rattle.zahupnik.specs.Positive.{text-positive}
use Rattle.zahupnik.proofs.Returning.{value-returned, refusal-returned, text-returned}
use Rattle.zahupnik.proofs.zahupnik_convert_text.Goals as goal

pub returns-in-Ok : goal.returns-in-Ok
returns-in-Ok c =
    record {
      text = text-returned _ _ _ _ _ _ c.convert_text.ensures 0 (sym (ap (λ r. number (valued r)) c.in-Ok.is));
      counted = value-returned _ (text-positive _ _ _) _ _ _ (sym (ap valued c.in-Ok.is) ∙ c.convert_text.ensures.answer);
    }

pub returns-in-Err : goal.returns-in-Err
returns-in-Err c =
    rw c.from.ensures (record {
      text = text-returned _ _ _ _ _ _ c.convert_text.ensures _ (sym (ap (λ r. number (valued r)) c.in-Err.is));
      counted = refusal-returned _ (text-positive _ _ _) _ _ _ (sym (ap valued c.in-Err.is) ∙ c.convert_text.ensures.answer);
    })
