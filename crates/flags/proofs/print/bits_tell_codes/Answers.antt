use Rattle.flags.proofs.Shown.{tell}
use Rattle.flags.proofs.print.bits_tell_codes.Goals as goal

pub returns : goal.returns
returns c = tell
