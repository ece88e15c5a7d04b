use Rattle.formula_text.proofs.Once.{written_once}
use Rattle.formula_text.proofs.reader.text_writes_one_formula.Goals as goal

pub returns : goal.returns
returns c = written_once
