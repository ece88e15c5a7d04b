use Rattle.std.proofs.Common.{◌≡◌, ℕ, subst}
use Rattle.ltlf.specs.Contents.{book_contents}
use Rattle.search.specs.Questions.{asked, Allowed}
use Rattle.search.proofs.Families.{spread_same}
use Rattle.search.proofs.Stepping.{some_starts, starts_some}
use Rattle.search.proofs.asked.AskedSpace.begin.Goals as goal

pub returns : goal.returns
returns g c =
    let me = c.args.self.now in
    let q = asked (g.T.Theory.meaning me.theory.now) (book_contents me.book.now) me.kept.now in
    let allowed = subst (λ (n : ℕ). Allowed n me.kept.now 0 c.visits_at-visits.result) c.code_count.ensures c.visits_at-visits.ensures in
    spread_same (λ e. e.from ≡ 0) _ _
    (some_starts q _ _ c.rules_label.ensures allowed)
    (starts_some q _ _ c.rules_label.ensures allowed)
    c.args.rows.now c.enter_starts.new.rows 0 c.enter_starts.result c.enter_starts.ensures
