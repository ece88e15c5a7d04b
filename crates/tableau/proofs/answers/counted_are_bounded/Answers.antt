use Rattle.tableau.proofs.Searched.{counted_bounded}
use Rattle.tableau.proofs.answers.counted_are_bounded.Goals as goal

pub returns : goal.returns
returns c = counted_bounded
