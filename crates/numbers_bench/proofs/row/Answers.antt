use Rattle.std.proofs.Common.{ap, ◌∙◌, arith}
use Rattle.numbers_bench.specs.Counts.{as_one}
use Rattle.numbers_bench.proofs.Steps.{from_more}
use Rattle.numbers_bench.proofs.row.Goals as goal

pub loop-n-preserved : goal.loop-n-preserved
loop-n-preserved g c = (
  from_more (g.T.Theory.meaning c.args.theory.now) c.args.atom c.args.code c.loop-n.n c.loop-n.count _ c.loop-n.invariant.0
      (c.as_one-count.ensures.count ∙ ap as_one c.holds.ensures),
  omega (arith, c.as_one-count.ensures.few, c.loop-n.invariant.1),
)
