-- Every book is proper.
use Rattle.std.proofs.Common.{◌≡◌, ◌≤◌, length, arith}
use Rattle.intern.specs.Index.{items}
use Rattle.intern.proofs.Places.{length_items}
use Rattle.ltlf.specs.Contents.{draft_contents, book_contents, Proper}
use Rattle.ltlf.specs.declared.book.Book.{Book}
use Rattle.ltlf.specs.declared.draft.Draft.{Draft}

pub draft_proper : (d : Draft) → Proper (draft_contents d)
draft_proper d =
    let size : length (items d.cells d.len) ≡ d.len = length_items d.cells d.len (omega arith) in
    record {
      few = omega arith;
      before = λ k h. d.before k (omega arith);
      were_put = λ i h. omega (arith, d.stood i h);
      apart = d.apart;
    }

pub book_proper : (b : Book) → Proper (book_contents b)
book_proper b = draft_proper b.sealed

-- no draft takes more codes or atoms
pub book_few_codes : (b : Book) → (book_contents b).codes ≤ 4096
book_few_codes b = b.sealed.coded

pub book_few_atoms : (b : Book) → (book_contents b).atoms ≤ 32
book_few_atoms b = b.sealed.told
