use Rattle.tableau.proofs.Masks.{next_computed}
use Rattle.tableau.proofs.numbers.next_is_computed.Goals as goal

pub returns : goal.returns
returns c = next_computed
