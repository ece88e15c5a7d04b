use Rattle.tableau.proofs.Masks.{expansion_computed}
use Rattle.tableau.proofs.numbers.expansion_is_computed.Goals as goal

pub returns : goal.returns
returns c = expansion_computed
