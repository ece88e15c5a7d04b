use Rattle.std.specs.Prelude.{None}
use Rattle.std.proofs.Common.{subst, arith}
use Rattle.ltlf.specs.Contents.{book_contents}
use Rattle.search.specs.Rows.{position}
use Rattle.search.specs.Questions.{asked, Shown}
use Rattle.search.proofs.Stepping.{ends_decided}
use Rattle.search.proofs.asked.AskedSpace.finish.Goals as goal

pub returns : goal.returns
returns g c =
    let me = c.args.self.now in
    let m = g.T.Theory.meaning me.theory.now in
    ends_decided (asked m (book_contents me.book.now) me.kept.now) (position c.args.row) c.truth_at-truth.result _
    (omega (arith, c.last_place.ensures)) c.requires.bounded.label_fits
    (subst (Shown m c.args.row.code None c.truth_at-truth.result) c.atom_count.ensures c.truth_at-truth.ensures)
    c.some_sound.ensures
