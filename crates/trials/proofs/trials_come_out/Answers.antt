use Rattle.trials.proofs.Coming.{trials_come_out}
use Rattle.trials.proofs.trials_come_out.Goals as goal

pub returns : goal.returns
returns c = trials_come_out
