use Rattle.std.proofs.Common.{arith, rules}
use Rattle.numbers.specs.Model.{numbers_of}
use Rattle.number_text.proofs.Codes.{no_bounds, room, no_value, one_more_value, passed}
use Rattle.number_text.proofs.values.read_values.Goals as goal

pub returns-in_err-low : goal.returns-in_err-low
returns-in_err-low c =
    let past = no_bounds (numbers_of c.args.numbers.now).variables c.loop-number.number c.in_err-low.ensures in
    absurd (omega arith)

pub read_value-requires : goal.read_value-requires
read_value-requires c =
    let variables = (numbers_of c.args.numbers.now).variables in
    let code = c.loop-number.code in
    room variables c.loop-number.number code.value code.rest.now _ c.loop-number.invariant.1 c.loop-number.invariant.0 _ _ (passed variables c.loop-number.number c.in_ok-low.low c.in_ok-low.high (search rules) (search rules) c.in_ok-low.ensures)

pub returns-in_err-code : goal.returns-in_err-code
returns-in_err-code c =
    let variables = (numbers_of c.args.numbers.now).variables in
    let code = c.loop-number.code in
    rw c.from_residual-in_err-code.ensures (no_value variables c.loop-number.number code.value code.rest.now _ c.loop-number.invariant.1 c.loop-number.invariant.0 _ _ (passed variables c.loop-number.number c.in_ok-low.low c.in_ok-low.high (search rules) (search rules) c.in_ok-low.ensures) c.in_err-code.ensures.read)

pub loop-number-preserved : goal.loop-number-preserved
loop-number-preserved c =
    let variables = (numbers_of c.args.numbers.now).variables in
    let code = c.loop-number.code in
    one_more_value variables c.loop-number.number code.value code.rest.now _ c.loop-number.invariant.1 c.loop-number.invariant.0 _ _ (passed variables c.loop-number.number c.in_ok-low.low c.in_ok-low.high (search rules) (search rules) c.in_ok-low.ensures) c.in_ok-code.code.value c.in_ok-code.code.rest.now c.in_ok-code.ensures.read c.in_ok-code.ensures.below
