use Rattle.tableau.proofs.Branches.{next_labels_computed}
use Rattle.tableau.proofs.numbers.next_labels_are_computed.Goals as goal

pub returns : goal.returns
returns c = next_labels_computed
