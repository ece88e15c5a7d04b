use Rattle.std.proofs.Common.{[], ◌∷◌, ◌++◌, Some, refl, ap, ◌∙◌, w32, to_z, of_z}
use Rattle.std.proofs.lemmas.Int.{to_z-of_z}
use Rattle.numbers.specs.Kept.{bounds_of}
use Rattle.numbers.proofs.Grids.{single_facts, single_is}
use Rattle.numbers.proofs.grid.Grid.single.Goals as goal

pub invariant_of-result : goal.invariant_of-result
invariant_of-result c =
    let v = c.in_ok-variable.variable in
    let f = single_facts (record { variable = v; span = 1 }) c.push.new.self.items refl (c.push.ensures.items ∙ ap (λ vs. vs ++ record { variable = v; span = 1 } ∷ []) c.new-variables.ensures) in
    record { some = f.some; few = f.few; spanned = f.spanned; counted = f.counted; coded = f.coded; most = v.few }

pub returns : goal.returns
returns c =
    let v = c.in_ok-variable.variable in
    ap (λ vs. Some (bounds_of vs)) (c.push.ensures.items ∙ ap (λ vs. vs ++ record { variable = v; span = 1 } ∷ []) c.new-variables.ensures)
    ∙ single_is c.args.low c.args.high (to_z w32 (of_z w32 c.args.low)) (to_z w32 (of_z w32 c.args.high))
    (to_z-of_z w32 c.args.low c.ranges.low) (to_z-of_z w32 c.args.high c.ranges.high) v c.in_ok-variable.ensures.is
