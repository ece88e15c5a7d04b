use Rattle.tableau.proofs.Steps.{step_sound}
use Rattle.tableau.proofs.visits.step_is_sound.Goals as goal

pub returns : goal.returns
returns c = step_sound
