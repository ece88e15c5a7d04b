use Rattle.std.proofs.Common.{◌≡◌, ◌+◌, ◌<◌, length, ap, ap₂, sym, ◌∙◌, subst, ℤ, List, [], ◌∷◌, ◌++◌, true, arith, below_more}
use Rattle.std.proofs.lemmas.List.{take_all, length-take}
use Rattle.numbers.specs.Codes.{all_values}
use Rattle.numbers.specs.Limits.{within}
use Rattle.numbers.specs.Model.{numbers_of}
use Rattle.numbers.proofs.Bounds.{passed}
use Rattle.numbers.proofs.Readings.{count_variables}
use Rattle.numbers.proofs.Shown.{values_count, value_at, more_values}
use Rattle.numbers.proofs.numbers.Numbers.values.Goals as goal

pub value-requires : goal.value-requires
value-requires c = omega (arith, count_variables c.args.self.now)

pub push-requires : goal.push-requires
push-requires c =
    let t = c.args.self.now in
    let v = c.loop-variable in
    (omega arith, omega (arith, ap length v.invariant.0, length-take v.variable (all_values (numbers_of t).variables c.args.code), count_variables t, t.grid.few))

pub loop-variable-preserved : goal.loop-variable-preserved
loop-variable-preserved c =
    let t = c.args.self.now in
    let v = c.loop-variable in
    let here : v.variable < length t.grid.variables.items = omega (arith, count_variables t) in
    let is = passed c.value.result c.value.ensures.bounds ∙ c.value.ensures.is in (
      c.push.ensures.items
          ∙ ap₂ (λ (xs : List ℤ) (z : ℤ). xs ++ z ∷ []) v.invariant.0 is
          ∙ sym (more_values t c.args.code v.variable here),
      below_more _ _ v.invariant.1
          (subst (λ (z : ℤ). within 10000 z ≡ true) (c.value.ensures.is ∙ sym (value_at t c.args.code v.variable here)) c.value.ensures.bounds),
    )

pub returns-clause-are : goal.returns-clause-are
returns-clause-are c =
    let t = c.args.self.now in
    c.loop-variable.invariant.0 ∙ take_all c.loop-variable.variable _ (omega (arith, values_count t c.args.code, count_variables t))
