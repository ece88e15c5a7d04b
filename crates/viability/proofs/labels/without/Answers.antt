use Rattle.viability.proofs.Bits.{excluding_is}
use Rattle.viability.proofs.labels.without.Goals as goal

pub returns : goal.returns
returns c = excluding_is c.args.label c.args.number _ c.without.ensures
