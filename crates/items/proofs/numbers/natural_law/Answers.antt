use Rattle.items.proofs.Decimal.{natural_law}
use Rattle.items.proofs.numbers.natural_law.Goals as goal

pub returns : goal.returns
returns c = natural_law
