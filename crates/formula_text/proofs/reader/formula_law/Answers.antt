use Rattle.formula_text.proofs.Accepting.{read_is_written}
use Rattle.formula_text.proofs.Parsing.{reads_written}
use Rattle.formula_text.proofs.Standing.{built_stands}
use Rattle.formula_text.proofs.reader.formula_law.Goals as goal

pub returns : goal.returns
returns c = record { reads = reads_written; written = read_is_written; stands = built_stands }
