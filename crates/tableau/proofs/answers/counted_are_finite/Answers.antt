use Rattle.tableau.proofs.Searched.{counted_finite}
use Rattle.tableau.proofs.answers.counted_are_finite.Goals as goal

pub returns : goal.returns
returns c = counted_finite
