use Rattle.items.proofs.Letters.{name_law}
use Rattle.items.proofs.names.name_law.Goals as goal

pub returns : goal.returns
returns c = name_law
