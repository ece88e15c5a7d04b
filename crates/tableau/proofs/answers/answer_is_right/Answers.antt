use Rattle.tableau.proofs.Searched.{answer_right}
use Rattle.tableau.proofs.answers.answer_is_right.Goals as goal

pub returns : goal.returns
returns c = answer_right
