use Rattle.tableau.proofs.Layers.{reached_by_step}
use Rattle.tableau.proofs.distances.reached_by_step.Goals as goal

pub returns : goal.returns
returns c = reached_by_step
