use Rattle.std.proofs.Common.{◌≡◌, ◌≤◌}
use Rattle.numbers_bench.specs.Counts.{facts_from}
use Rattle.numbers_bench.proofs.row.Given as goal

abbrev pub invariant-loop-n : goal.invariant-loop-n
invariant-loop-n g l = (l.count ≡ facts_from (g.T.Theory.meaning l.theory) l.atom l.code l.n) × (l.count ≤ l.n)
