use Rattle.judge.proofs.Verdicts.{meets_or_fails}
use Rattle.judge.proofs.judging.histories_meet_or_fail.Goals as goal

pub returns : goal.returns
returns c = meets_or_fails
