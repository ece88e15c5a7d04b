use Rattle.rule_meaning.proofs.Examples.{last_visit}
use Rattle.rule_meaning.proofs.tried.last_visit_tried.Goals as goal

pub returns : goal.returns
returns c = last_visit
