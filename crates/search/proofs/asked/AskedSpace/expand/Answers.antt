use Rattle.std.proofs.Common.{◌≡◌, ℕ, ◌+◌, subst, add-one, arith}
use Rattle.ltlf.specs.Contents.{book_contents}
use Rattle.search.specs.Rows.{position}
use Rattle.search.specs.Questions.{asked, Allowed}
use Rattle.search.proofs.Families.{spread_same}
use Rattle.search.proofs.Stepping.{some_steps, steps_some}
use Rattle.search.proofs.asked.AskedSpace.expand.Goals as goal

pub expand_codes-requires : goal.expand_codes-requires
expand_codes-requires g c =
    let allowed = c.visits_at-visits.ensures in
    let codes = c.code_count.ensures in
    record {
      codes = (c.requires.bounded.code_fits, (allowed.0, omega (arith, allowed.1)));
      known = c.requires.bounded.label_fits;
      room = c.requires.room;
      indexed = c.requires.indexed;
    }

pub returns : goal.returns
returns g c =
    let me = c.args.self.now in
    let q = asked (g.T.Theory.meaning me.theory.now) (book_contents me.book.now) me.kept.now in
    let first = subst (λ (n : ℕ). Allowed n me.kept.now (c.args.row.place + 1) c.visits_at-visits.result) c.code_count.ensures c.visits_at-visits.ensures in
    let allowed = subst (λ (p : ℕ). Allowed q.meaning.codes me.kept.now p c.visits_at-visits.result) (add-one c.args.row.place) first in
    spread_same (λ e. e.from ≡ c.args.from) _ _
    (some_steps q (position c.args.row) _ allowed _ c.next_place.ensures)
    (steps_some q (position c.args.row) _ allowed _ c.next_place.ensures)
    c.args.rows.now c.expand_codes.new.rows c.args.filled c.expand_codes.result c.expand_codes.ensures
