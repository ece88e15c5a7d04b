use Rattle.successors.proofs.expand.+expand.Given as goal

-- the greatest member gives way to lesser ones
abbrev pub decreases-expand : goal.decreases-expand
decreases-expand l = l.members
