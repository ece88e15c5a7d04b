-- A visit as it is handed over: the moment that it shows, and the contents of its book.
use Rattle.ltlf.specs.Contents.{Contents, book_contents}
use Rattle.viability.specs.declared.visit.Visit.{Visit}
use Rattle.viability.specs.Moments.{Moment, moment}

-- the visit's moment
abbrev pub moment_at : Visit → Moment
moment_at v = moment v.truth v.last

-- the contents of the visit's book
abbrev pub contents_at : Visit → Contents
contents_at v = book_contents v.book.now
