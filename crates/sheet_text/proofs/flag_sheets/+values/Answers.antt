use Rattle.std.proofs.Common.{arith}
use Rattle.sheet_text.proofs.Values.{doubled}
use Rattle.sheet_text.proofs.flag_sheets.+values.Goals as goal

pub returns-clause-below : goal.returns-clause-below
returns-clause-below t c = doubled c.args.flags _ _ (omega arith) c.in_ok-bit.ensures.within c.in_ok-code.ensures.below
