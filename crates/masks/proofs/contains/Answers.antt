use Rattle.std.proofs.Common.{sym, ◌∙◌, arith}
use Rattle.std.proofs.lemmas.Bool.{le-ltb}
use Rattle.masks.proofs.Bits.{has_past}
use Rattle.masks.proofs.contains.Goals as goal

pub returns-else-number-lt64 : goal.returns-else-number-lt64
returns-else-number-lt64 c =
    le-ltb c.args.number 64 (omega arith) ∙ sym (has_past c.args.mask 64 c.args.number (omega arith) (omega arith))
