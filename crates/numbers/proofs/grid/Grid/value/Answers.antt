use Rattle.std.proofs.Common.{◌≡◌, ◌/◌, ◌%◌, get_or, pos, ◌+ℤ◌, sym, ap, ◌∙◌, arith}
use Rattle.numbers.specs.declared.variable.Spanned.{Spanned}
use Rattle.numbers.proofs.Bounds.{value_is}
use Rattle.numbers.proofs.Grids.{span_ahead}
use Rattle.numbers.proofs.Sums.{kept_at}
use Rattle.numbers.proofs.grid.Grid.value.Goals as goal

pub nonzero_div-result : goal.nonzero_div-result
nonzero_div-result c =
    let g = c.args.self.now in
    let v = c.index-deref-variable.result in
    let is : v ≡ get_or g.variables.items c.args.variable v = c.index-deref-variable.is ∙ ap (λ vs. get_or vs c.args.variable v) c.deref.ensures.0 in
    omega (arith, ap (λ (u : Spanned). u.span) is, span_ahead g.variables.items c.args.variable v c.requires g.spanned)

pub returns-clause-is : goal.returns-clause-is
returns-clause-is c =
    let g = c.args.self.now in
    let v = c.index-deref-variable.result in
    let is : v ≡ get_or g.variables.items c.args.variable v = c.index-deref-variable.is ∙ ap (λ vs. get_or vs c.args.variable v) c.deref.ensures.0 in
    value_is v.variable (c.args.code / v.span)
    ∙ ap (λ (u : Spanned). u.variable.low +ℤ pos (c.args.code / u.span % u.variable.width)) is
    ∙ sym (kept_at g.variables.items c.args.variable c.args.code v c.requires)
