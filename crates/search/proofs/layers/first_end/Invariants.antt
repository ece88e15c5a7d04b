use Rattle.tableau.specs.Positions.{Position, Ends}
use Rattle.search.specs.Layers.{Listed}
use Rattle.search.proofs.layers.first_end.Given as goal

abbrev pub invariant-loop-i : goal.invariant-loop-i
invariant-loop-i g l = (p : Position) → Listed l.rows l.start l.i p → Ends (g.S.Space.question l.space) p → ⊥
