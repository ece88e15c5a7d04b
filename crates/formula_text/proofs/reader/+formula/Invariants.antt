use Rattle.formula_text.proofs.reader.+formula.Given as goal

abbrev pub decreases-formula : goal.decreases-formula
decreases-formula l = l.depth
