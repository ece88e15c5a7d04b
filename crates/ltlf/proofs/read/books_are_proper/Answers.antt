use Rattle.ltlf.proofs.Books.{book_proper}
use Rattle.ltlf.proofs.read.books_are_proper.Goals as goal

pub returns : goal.returns
returns c = book_proper
