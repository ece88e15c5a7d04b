use Rattle.tableau.proofs.Examples.{examples_answered}
use Rattle.tableau.proofs.tried.examples_answered.Goals as goal

pub returns : goal.returns
returns c = examples_answered
