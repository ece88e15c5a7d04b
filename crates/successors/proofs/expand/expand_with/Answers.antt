use Rattle.successors.proofs.Growing.{taken_none}
use Rattle.successors.proofs.expand.expand_with.Goals as goal

pub expand-requires-clause-taken : goal.expand-requires-clause-taken
expand-requires-clause-taken g c = taken_none _
