use Rattle.tableau.proofs.Steps.{step_complete}
use Rattle.tableau.proofs.visits.step_is_complete.Goals as goal

pub returns : goal.returns
returns c = step_complete
