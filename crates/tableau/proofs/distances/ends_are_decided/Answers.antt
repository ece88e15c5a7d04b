use Rattle.tableau.proofs.Computed.{ends_decided}
use Rattle.tableau.proofs.distances.ends_are_decided.Goals as goal

pub returns : goal.returns
returns c = ends_decided
