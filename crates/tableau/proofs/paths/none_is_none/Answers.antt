use Rattle.tableau.proofs.Histories.{none_is_none}
use Rattle.tableau.proofs.paths.none_is_none.Goals as goal

pub returns : goal.returns
returns c = none_is_none
