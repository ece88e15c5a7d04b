use Rattle.ltlf.proofs.Books.{book_few_codes, book_few_atoms}
use Rattle.ltlf.proofs.read.books_are_small.Goals as goal

pub returns : goal.returns
returns c = λ b. (book_few_codes b, book_few_atoms b)
