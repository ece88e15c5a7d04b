use Rattle.tableau.proofs.Examples.{boundaries_answered}
use Rattle.tableau.proofs.tried.boundaries_answered.Goals as goal

pub returns : goal.returns
returns c = boundaries_answered
