use Rattle.rule_meaning.proofs.Saying.{read_says}
use Rattle.rule_meaning.proofs.laws.read_says_written.Goals as goal

pub returns : goal.returns
returns c = read_says
