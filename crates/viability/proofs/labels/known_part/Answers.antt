use Rattle.std.proofs.Common.{arith}
use Rattle.viability.proofs.Bits.{low_all}
use Rattle.viability.proofs.labels.known_part.Goals as goal

pub returns-then-count-ge64 : goal.returns-then-count-ge64
returns-then-count-ge64 c = low_all _ 64 _ (omega arith) (omega (arith, c.formula_count-count.ensures))
