use Rattle.std.proofs.Common.{◌-◌, ◌≤◌, length}
use Rattle.tableau.specs.Positions.{Starts, Step, Ends}
use Rattle.search.proofs.Levels.{Level}
use Rattle.search.proofs.layers.by_layers.Given as goal

abbrev pub invariant-layers : goal.invariant-layers
invariant-layers g l =
    (l.initial.filled ≤ l.filled)
    × Level (Starts (g.S.Space.question l.space)) (Step (g.S.Space.question l.space)) (Ends (g.S.Space.question l.space))
    l.initial.rows l.rows l.start l.filled l.depth

abbrev pub decreases-layers : goal.decreases-layers
decreases-layers g l = length l.initial.rows - l.start
