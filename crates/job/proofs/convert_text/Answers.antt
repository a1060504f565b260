-- `convert_text` meets its promise: at each test its verdict, and past them that of the job. Assumes nothing.
use mathlib.Core.Path.{subst}
use Rattle.form.specs.JobForm.{Formed}
use Rattle.acceptance.proofs.HandedOn.{handed-on}
use Rattle.job.specs.Texts.{too_long, short-text, no-form, sizes-refused, ready, text-answered}
use Rattle.job.proofs.convert_text.Goals as goal

pub returns-in_err-text_length : goal.returns-in_err-text_length
returns-in_err-text_length c =
    too_long _ _ _ _ c.text_length.ensures _ c.in_err-text_length.was _ (handed-on _ _ c.from_residual.ensures.1)

pub returns-in_default : goal.returns-in_default
returns-in_default c =
    no-form _ _ _ (short-text _ _ _ _ c.text_length.ensures c.in_ok-text_length.was)
    (subst (Formed _ _ _ _ _ _ _ _ _) c.in_default.is c.job_form.ensures)

pub returns-in_err-sizes : goal.returns-in_err-sizes
returns-in_err-sizes c =
    sizes-refused _ _ _ _ _ _ _ _ _ _ _ _ _ _ _ _ _ (short-text _ _ _ _ c.text_length.ensures c.in_ok-text_length.was)
    (subst (Formed _ _ _ _ _ _ _ _ _) c.in-Some.is c.job_form.ensures)
    c.zeros-xs.ensures c.zeros-ys.ensures c.zeros-zs.ensures c.zeros-us.ensures
    _ c.sizes.ensures _ c.in_err-sizes.was _ (handed-on _ _ c.from_residual-in_err-sizes.ensures.1)

pub answer-requires : goal.answer-requires
answer-requires c =
    ready _ _ _ _ _ _ _ _ _ _ _ _ _ _ _ _ _ (short-text _ _ _ _ c.text_length.ensures c.in_ok-text_length.was)
    (subst (Formed _ _ _ _ _ _ _ _ _) c.in-Some.is c.job_form.ensures)
    c.zeros-xs.ensures c.zeros-ys.ensures c.zeros-zs.ensures c.zeros-us.ensures
    _ c.sizes.ensures c.in_ok-sizes.was

pub returns : goal.returns
returns c =
    text-answered _ _ _ _ _ _ _ _ _ _ _ _ _ _ _ _ _ (short-text _ _ _ _ c.text_length.ensures c.in_ok-text_length.was)
    (subst (Formed _ _ _ _ _ _ _ _ _) c.in-Some.is c.job_form.ensures)
    c.zeros-xs.ensures c.zeros-ys.ensures c.zeros-zs.ensures c.zeros-us.ensures
    _ c.sizes.ensures c.in_ok-sizes.was _ _ _ c.answer.ensures
