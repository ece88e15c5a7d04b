use Rattle.tableau.proofs.Histories.{shortest_is_least}
use Rattle.tableau.proofs.paths.shortest_is_least.Goals as goal

pub returns : goal.returns
returns c = shortest_is_least
