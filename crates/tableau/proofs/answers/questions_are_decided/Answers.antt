use Rattle.tableau.proofs.Searched.{questions_decided}
use Rattle.tableau.proofs.answers.questions_are_decided.Goals as goal

pub returns : goal.returns
returns c = questions_decided
