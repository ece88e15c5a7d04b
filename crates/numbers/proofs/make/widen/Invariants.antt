use Rattle.std.proofs.Common.{◌≡◌, ◌++◌, map, take, drop}
use Rattle.numbers.specs.Spans.{widened}
use Rattle.numbers.proofs.make.widen.Given as goal

-- the variables in front of the index are widened
abbrev pub invariant-loop-variable : goal.invariant-loop-variable
invariant-loop-variable l =
    l.variables ≡ map (λ v. widened v l.by) (take l.variable-index l.initial.variables) ++ drop l.variable-index l.initial.variables
