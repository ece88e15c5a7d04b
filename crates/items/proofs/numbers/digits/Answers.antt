use Rattle.std.proofs.Common.{arith}
use Rattle.std.proofs.lemmas.Grind.{common_steps}
use Rattle.items.proofs.Figures.{over_limit}
use Rattle.items.proofs.numbers.digits.Goals as goal

pub returns-then-value-from-clause-read : goal.returns-then-value-from-clause-read
returns-then-value-from-clause-read c = grind (arith, common_steps, over_limit)
