use Rattle.numbers.proofs.Limited.{limited}
use Rattle.numbers.proofs.read.numbers_are_within.Goals as goal

pub returns : goal.returns
returns c = limited
