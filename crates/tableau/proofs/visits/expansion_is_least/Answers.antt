use Rattle.tableau.proofs.Steps.{expansion_least}
use Rattle.tableau.proofs.visits.expansion_is_least.Goals as goal

pub returns : goal.returns
returns c = expansion_least
