use Rattle.flags.proofs.Limits.{within}
use Rattle.flags.proofs.flags.Flags.flag_count.Goals as goal

pub returns-clause-within : goal.returns-clause-within
returns-clause-within c = within c.args.self.now
