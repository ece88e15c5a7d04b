use Rattle.std.proofs.Common.{◌∙◌, arith}
use Rattle.numbers_bench.proofs.Steps.{in_more}
use Rattle.numbers_bench.proofs.table.Goals as goal

pub loop-code-preserved : goal.loop-code-preserved
loop-code-preserved g c =
    let ranges = g.T.Theory.ranges c.args.theory.now in (
      in_more (g.T.Theory.meaning c.args.theory.now) c.args.atom c.loop-code.code c.loop-code.count _ c.loop-code.invariant.0
          (c.from-count.ensures ∙ c.row.ensures.count),
      omega (arith, c.from-count.ensures, c.row.ensures.few, ranges.few_codes, c.loop-code.invariant.1),
    )
