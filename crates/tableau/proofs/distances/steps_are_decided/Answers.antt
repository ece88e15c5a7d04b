use Rattle.tableau.proofs.Computed.{steps_decided}
use Rattle.tableau.proofs.distances.steps_are_decided.Goals as goal

pub returns : goal.returns
returns c = steps_decided
