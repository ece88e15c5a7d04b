use Rattle.std.proofs.Common.{sym, ◌∙◌}
use Rattle.formula_text.proofs.Readings.{was_put, was_refused}
use Rattle.formula_text.proofs.reader.put_node.Goals as goal

pub returns-in_err-value : goal.returns-in_err-value
returns-in_err-value c = rw c.from_residual.ensures (was_refused _ _ _ _ c.put.ensures.after _ c.put.ensures.answer (sym c.in_err-value.was ∙ c.ok.ensures.value))

pub returns : goal.returns
returns c = was_put _ _ _ _ c.put.ensures.after _ c.put.ensures.answer _ (sym c.in_ok-value.was ∙ c.ok.ensures.value)
