use Rattle.tableau.proofs.Histories.{chains_are_histories}
use Rattle.tableau.proofs.paths.chains_are_histories.Goals as goal

pub returns : goal.returns
returns c = chains_are_histories
