use Rattle.viability.proofs.Bits.{decides_inside}
use Rattle.viability.proofs.labels.inside.Goals as goal

pub returns : goal.returns
returns c = decides_inside c.args.label c.args.others _ c.inside.ensures
