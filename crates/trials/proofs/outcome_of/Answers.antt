use Rattle.std.proofs.Common.{◌∙◌, rules}
use Rattle.trials.specs.Trials.{trials}
use Rattle.trials.proofs.Outcomes.{outcomes_at}
use Rattle.trials.proofs.outcome_of.Goals as goal

pub returns : goal.returns
returns c = search rules ∙ outcomes_at trials c.args.sheet
