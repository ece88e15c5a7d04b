use Rattle.numbers.proofs.Shown.{tell}
use Rattle.numbers.proofs.print.values_tell_codes.Goals as goal

pub returns : goal.returns
returns c = tell
