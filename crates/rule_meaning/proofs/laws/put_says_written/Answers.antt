use Rattle.rule_meaning.proofs.Saying.{put_says}
use Rattle.rule_meaning.proofs.laws.put_says_written.Goals as goal

pub returns : goal.returns
returns c = put_says
