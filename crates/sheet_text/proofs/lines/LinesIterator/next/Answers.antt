use Rattle.std.proofs.Common.{length, ap, arith}
use Rattle.sheet_text.proofs.Turns.{next_line}
use Rattle.sheet_text.proofs.lines.LinesIterator.next.Goals as goal

pub returns-clause-steps : goal.returns-clause-steps
returns-clause-steps c = next_line c.args.self.now.text.now c.split_line.result.value.now c.args.self.now.next (omega arith) c.split_line.ensures.bytes

pub returns-clause-goes : goal.returns-clause-goes
returns-clause-goes c =
    let fewer = ap length (next_line c.args.self.now.text.now c.split_line.result.value.now c.args.self.now.next (omega arith) c.split_line.ensures.bytes) in
    record { on = λ _. (tt, tt, omega (arith, fewer)); keeps = tt; rests = λ _. tt }
