use Rattle.viability.proofs.Bits.{decides_has}
use Rattle.viability.proofs.labels.contains.Goals as goal

pub returns : goal.returns
returns c = decides_has c.args.label c.args.number _ c.contains.ensures
