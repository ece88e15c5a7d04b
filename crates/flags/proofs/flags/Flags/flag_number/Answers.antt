use Rattle.std.proofs.Common.{arith}
use Rattle.names.proofs.Rosters.{number_below}
use Rattle.flags.proofs.flags.Flags.flag_number.Goals as goal

pub overflow_cast-result : goal.overflow_cast-result
overflow_cast-result c =
    omega (arith, number_below c.args.self.now.names c.args.text.now c.in_ok-number.number c.in_ok-number.ensures)
