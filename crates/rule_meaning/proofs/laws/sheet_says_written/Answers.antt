use Rattle.rule_meaning.proofs.Sheets.{sheet_says, rules_once}
use Rattle.rule_meaning.proofs.laws.sheet_says_written.Goals as goal

pub returns : goal.returns
returns c = record { says = sheet_says; once = rules_once }
