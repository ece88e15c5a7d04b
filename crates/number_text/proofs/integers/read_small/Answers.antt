use Rattle.std.proofs.Common.{arith, rules}
use Rattle.number_text.proofs.Within.{read_within, fits_small}
use Rattle.number_text.proofs.integers.read_small.Goals as goal

pub overflow_cast-result : goal.overflow_cast-result
overflow_cast-result c =
    let few = read_within c.args.limit (omega arith) c.args.text.now _ _ c.in_ok-number.ensures in
    fits_small c.in_ok-number.number.value (search rules) (omega arith)
