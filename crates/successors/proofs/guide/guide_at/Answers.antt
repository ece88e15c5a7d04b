use Rattle.std.proofs.Common.{arith}
use Rattle.std.proofs.lemmas.List.{get_or_default}
use Rattle.successors.proofs.guide.guide_at.Goals as goal

pub returns : goal.returns
returns c = λ d. get_or_default c.args.guides.now c.args.number d _ (omega (arith, c.told-guides, c.requires))
