use Rattle.std.proofs.Common.{Ok, sym, ap, ◌∙◌, arith}
use Rattle.intern.proofs.Indexes.{gap_within}
use Rattle.intern.proofs.enter.Goals as goal

pub hang-requires : goal.hang-requires
hang-requires g c =
    gap_within g.R.Keyed.alike g.R.Keyed.turns _ _ _ _ _ (omega arith) (ap Ok (sym c.in-Gap.is) ∙ sym c.in_ok-at.was ∙ c.descend.ensures)
