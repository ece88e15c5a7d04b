use Rattle.std.proofs.Common.{◌^◌, length, sym, lit≤}
use Rattle.ltlf.specs.Contents.{book_contents}
use Rattle.search.proofs.Checked.{checked_rows, checked_list, made_room, made_few}
use Rattle.search.proofs.question.search.Goals as goal

pub explore-requires : goal.explore-requires
explore-requires g c =
    let m = g.T.Theory.meaning c.args.theory.now in
    let b = book_contents c.args.book.now in
    let passed = sym c.in_ok-check.ensures in
    record {
      room = (
        made_room 65536 c.new-labels.result _ (checked_rows m b c.args.kept.now (length c.args.rows.now) (length c.args.history.now) passed),
        made_few 65536 c.new-labels.result (2 ^ 32) (lit≤ tt),
      );
      list = checked_list m b c.args.kept.now (length c.args.rows.now) (length c.args.history.now) passed;
    }
