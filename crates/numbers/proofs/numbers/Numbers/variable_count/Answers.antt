use Rattle.std.proofs.Common.{arith}
use Rattle.numbers.proofs.Readings.{count_variables}
use Rattle.numbers.proofs.numbers.Numbers.variable_count.Goals as goal

pub returns : goal.returns
returns c = omega (arith, count_variables c.args.self.now)
