use Rattle.tableau.proofs.Masks.{same_members}
use Rattle.tableau.proofs.numbers.same_members.Goals as goal

pub returns : goal.returns
returns c = same_members
