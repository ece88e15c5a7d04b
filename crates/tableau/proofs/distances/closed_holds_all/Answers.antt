use Rattle.tableau.proofs.Layers.{closed_holds}
use Rattle.tableau.proofs.distances.closed_holds_all.Goals as goal

pub returns : goal.returns
returns c = closed_holds
