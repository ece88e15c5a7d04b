use Rattle.sheet_text.proofs.flag_sheets.+values.Given as goal

abbrev pub decreases-values : goal.decreases-values
decreases-values l = l.flags
