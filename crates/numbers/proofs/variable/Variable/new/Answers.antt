use Rattle.std.proofs.Common.{sym, w32, to_z, of_z}
use Rattle.numbers.proofs.Grids.{Made, facts_made}
use Rattle.numbers.proofs.variable.Variable.new.Goals as goal

pub invariant_of-result : goal.invariant_of-result
invariant_of-result c =
    let low = to_z w32 (of_z w32 c.args.low) in
    let high = to_z w32 (of_z w32 c.args.high) in
    let m : Made low high c.count_values-width.result = facts_made c.args.codes low high c.count_values-width.result c.requires (sym c.if-not-fit_bounds.ensures) c.count_values-width.ensures.is in
    record { lower = m.lower; upper = m.upper; ordered = m.ordered; counted = m.counted; some = m.some; few = m.few }
