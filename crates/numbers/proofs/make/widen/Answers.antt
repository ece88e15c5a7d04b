use Rattle.std.proofs.Common.{get_or, ap, arith}
use Rattle.std.proofs.lemmas.List.{get_or_default}
use Rattle.std.proofs.lemmas.List.Edits.{map_over_more}
use Rattle.std.proofs.lemmas.Nat.{mul-le}
use Rattle.numbers.specs.declared.variable.Spanned.{Spanned}
use Rattle.numbers.specs.Spans.{product, widened}
use Rattle.numbers.proofs.Grids.{next_is, span_most}
use Rattle.numbers.proofs.make.widen.Goals as goal

pub overflow_mul-variable : goal.overflow_mul-variable
overflow_mul-variable c =
    let vs = c.args.variables.now in
    let i = c.loop-variable.variable-index in
    let d = c.variable-item.result in
    let by = c.args.by in
    let same = ap (λ (v : Spanned). v.span) (next_is (λ v. widened v by) vs c.loop-variable.variables i d c.loop-variable-test.true c.loop-variable.invariant) in
    let most = span_most vs i d c.loop-variable-test.true c.requires.stand in
    let fit = mul-le (get_or c.loop-variable.variables i d).span by (product vs) by (omega arith) (omega arith) in
    omega (arith, fit, c.requires.fit)

pub loop-variable-preserved : goal.loop-variable-preserved
loop-variable-preserved c =
    let ys = c.loop-variable.variables in
    let i = c.loop-variable.variable-index in
    let x = get_or ys i c.variable-item.result in
    map_over_more (λ v. widened v c.args.by) c.args.variables.now ys i x c.loop-variable-test.true c.loop-variable.invariant (get_or_default ys i c.variable-item.result x (omega arith))
