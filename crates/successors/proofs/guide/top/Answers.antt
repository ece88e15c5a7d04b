use Rattle.std.proofs.Common.{refl, arith}
use Rattle.successors.proofs.Filling.{top_is}
use Rattle.successors.proofs.guide.top.Goals as goal

pub returns : goal.returns
returns c = top_is c.args.label _ c.requires (omega arith) refl
