use Rattle.rule_meaning.proofs.Examples.{one_visit}
use Rattle.rule_meaning.proofs.tried.one_visit_said.Goals as goal

pub returns : goal.returns
returns c = one_visit
