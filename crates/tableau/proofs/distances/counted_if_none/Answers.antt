use Rattle.tableau.proofs.Layers.{counted_if_none}
use Rattle.tableau.proofs.distances.counted_if_none.Goals as goal

pub returns : goal.returns
returns c = counted_if_none
