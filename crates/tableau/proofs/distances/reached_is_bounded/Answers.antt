use Rattle.tableau.proofs.Histories.{reached_bounded}
use Rattle.tableau.proofs.distances.reached_is_bounded.Goals as goal

pub returns : goal.returns
returns c = reached_bounded
