use Rattle.std.proofs.Common.{◌≡◌, ◌*◌, ◌≤◌}
use Rattle.numbers_bench.specs.Counts.{facts_in}
use Rattle.numbers_bench.proofs.table.Given as goal

abbrev pub invariant-loop-code : goal.invariant-loop-code
invariant-loop-code g l = (l.count ≡ facts_in (g.T.Theory.meaning l.theory) l.atom l.code) × (l.count ≤ l.code * 65535)
