use Rattle.successors.proofs.Filling.{brings_or}
use Rattle.successors.proofs.guide.brought.Goals as goal

pub returns : goal.returns
returns c = (brings_or _ c.args.offer _ c.gathered-parts.ensures.0, brings_or _ c.args.offer _ c.gathered-parts.ensures.1)
