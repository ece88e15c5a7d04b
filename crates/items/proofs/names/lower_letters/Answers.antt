use Rattle.std.proofs.Common.{sym, rules}
use Rattle.items.proofs.Letters.{letters_end}
use Rattle.items.proofs.names.lower_letters.Goals as goal

pub returns-clause-count : goal.returns-clause-count
returns-clause-count c = sym (letters_end c.args.text.now _ (search rules) (search rules) (search rules))
