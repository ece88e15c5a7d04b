use Rattle.tableau.proofs.Histories.{paths_are_histories}
use Rattle.tableau.proofs.paths.paths_are_histories.Goals as goal

pub returns : goal.returns
returns c = paths_are_histories
