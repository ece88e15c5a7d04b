use Rattle.ltlf.specs.Contents.{book_contents}
use Rattle.search.proofs.Ruling.{HasFirst}
use Rattle.search.proofs.rules.rules_label.Given as goal

abbrev pub invariant-loop-rule : goal.invariant-loop-rule
invariant-loop-rule l = HasFirst (book_contents l.book).rules l.label l.rule-index
