use Rattle.std.proofs.lemmas.Bool.Decides.{Decides-eqb}
use Rattle.std.proofs.lemmas.Slice.Eq.{strip_prefix_is}
use Rattle.items.proofs.Scans.{stripped}
use Rattle.items.proofs.lines.after.Goals as goal

pub returns : goal.returns
returns c = stripped c.args.word.now c.args.text.now _ (strip_prefix_is Decides-eqb c.args.text.now c.args.word.now _ c.strip_prefix.ensures.cases)
