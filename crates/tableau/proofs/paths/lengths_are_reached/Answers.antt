use Rattle.tableau.proofs.Histories.{lengths_are_reached}
use Rattle.tableau.proofs.paths.lengths_are_reached.Goals as goal

pub returns : goal.returns
returns c = lengths_are_reached
