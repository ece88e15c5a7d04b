-- The variables that are kept.
use Rattle.std.specs.Prelude.{List}
use Rattle.names.specs.declared.roster.Roster.{Roster}
use Rattle.names.specs.Rosters.{texts}
use Rattle.numbers.specs.declared.grid.Grid.{Grid}
use Rattle.numbers.specs.Kept.{grid_bounds, named}
use Rattle.numbers.specs.Values.{VariableModel}

-- each variable with its name and its bounds
abbrev pub variables_of : Roster 8 → Grid → List VariableModel
variables_of names grid = named (texts names) (grid_bounds grid)
