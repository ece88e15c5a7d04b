use Rattle.std.proofs.Common.{length, get_or, ℤ, Some, ap, ◌∙◌, ap₂, arith}
use Rattle.numbers.specs.declared.variable.Spanned.{Spanned}
use Rattle.numbers.proofs.Bounds.{passed}
use Rattle.numbers.proofs.Readings.{bounds_none, bounds_some}
use Rattle.numbers.proofs.numbers.Numbers.variable_bounds.Goals as goal

pub returns-in_err-variable : goal.returns-in_err-variable
returns-in_err-variable c =
    let e = c.in_err-variable.ensures in
    c.from_residual.ensures ∙ bounds_none c.args.self.now c.args.number (omega (arith, e.lookup.3, ap length c.deref.ensures.0))

pub returns : goal.returns
returns c =
    let t = c.args.self.now in
    let v = c.in_ok-variable.field-0.now in
    let e = c.in_ok-variable.ensures in
    ap₂ (λ (a b : ℤ). Some (a, b)) (passed v.variable.low v.variable.lower) (passed v.variable.high v.variable.upper)
    ∙ ap (λ (u : Spanned). Some (u.variable.low, u.variable.high)) (e.lookup.1 ∙ ap (λ xs. get_or xs c.args.number v) c.deref.ensures.0)
    ∙ bounds_some t c.args.number v (omega (arith, e.lookup.3.0, ap length c.deref.ensures.0))
