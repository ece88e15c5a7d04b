use Rattle.tableau.specs.Positions.{Position, Step}
use Rattle.search.specs.Rows.{position}
use Rattle.search.specs.Layers.{Grown, Listed, After, Came}
use Rattle.search.proofs.layers.expand_layer.Given as goal

abbrev pub invariant-loop-i : goal.invariant-loop-i
invariant-loop-i g l =
    Grown
    (λ r. Came (Step (g.S.Space.question l.space)) l.initial.rows l.start l.end r
    × After (Step (g.S.Space.question l.space)) l.initial.rows l.start l.end (position r))
    l.initial.rows l.rows l.end l.filled
    × ((p : Position) → After (Step (g.S.Space.question l.space)) l.initial.rows l.start l.i p → Listed l.rows 0 l.filled p)
