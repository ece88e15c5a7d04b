use Rattle.std.specs.Prelude.{Some}
use Rattle.std.proofs.Common.{◌≡◌, ℕ, None, sym, subst, ◌∙◌, arith}
use Rattle.std.proofs.lemmas.Bool.{lt-ltb}
use Rattle.ltlf.specs.Contents.{book_contents}
use Rattle.search.specs.Layers.{Spread}
use Rattle.search.specs.Rows.{position}
use Rattle.search.specs.Questions.{Shown, SomeOf, StepsFrom}
use Rattle.search.proofs.Families.{Collected, collected_all}
use Rattle.search.proofs.Stepping.{code_more, code_short, code_full}
use Rattle.search.proofs.Visiting.{range_turn, range_end, range_more}
use Rattle.search.proofs.expand.expand_codes.Goals as goal

pub truth_at-truth-requires : goal.truth_at-truth-requires
truth_at-truth-requires g c =
    let codes = c.requires.codes in
    let ready = c.args.asked.now.ready in
    let counted = c.atom_count.ensures in
    let at = range_turn c.args.visits.start c.args.visits.end (cc) c.loop-code.yielded _ c.loop-code.yielded_by _ c.next.new.self c.in-Some.code c.in-Some.is c.next.ensures.steps in
    (omega (arith, ready.few_atoms), (counted ∙ ready.atoms_same, (codes.0, lt-ltb _ _ (omega (arith, at.1, codes.1.1)))))

pub loop-code-preserved : goal.loop-code-preserved
loop-code-preserved g c =
    let m = g.T.Theory.meaning c.args.asked.now.theory.now in
    let b = book_contents c.args.asked.now.book.now in
    let s = position c.args.row in
    let at = range_turn c.args.visits.start c.args.visits.end (cc) c.loop-code.yielded _ c.loop-code.yielded_by _ c.next.new.self c.in-Some.code c.in-Some.is c.next.ensures.steps in
    let shown = subst (Shown m c.args.row.code (Some c.in-Some.code) c.truth_at-truth.result) c.atom_count.ensures c.truth_at-truth.ensures in
    let so-far = subst (λ (n : ℕ). Collected (λ e. e.from ≡ c.args.visit.from) (StepsFrom m b s c.args.visit.place) c.args.visits.start c.args.rows.now c.loop-code.rows c.args.filled c.loop-code.filled n)
    at.0 c.loop-code.invariant.0 in (
      subst (λ (n : ℕ). Collected (λ e. e.from ≡ c.args.visit.from) (StepsFrom m b s c.args.visit.place) c.args.visits.start c.args.rows.now c.enter_labels.new.rows c.args.filled c.in_ok-filled.filled n)
          (range_more c.args.visits.start c.in-Some.code c.loop-code.yielded c.in-Some.code at.0)
          (code_more c.args.visit.from m b s c.args.visit.place c.args.visits.start c.in-Some.code _
          c.requires.known shown _ _ _ _ _ _ (omega (arith, at.0)) so-far _ _ c.in-Some-labels_for.ensures c.in_ok-filled.ensures),
      c.in-Some-labels_for.ensures.1,
    )

pub returns-in_default : goal.returns-in_default
returns-in_default g c =
    let m = g.T.Theory.meaning c.args.asked.now.theory.now in
    let b = book_contents c.args.asked.now.book.now in
    let s = position c.args.row in
    let at = range_turn c.args.visits.start c.args.visits.end (cc) c.loop-code.yielded _ c.loop-code.yielded_by _ c.next.new.self c.in-Some.code c.in-Some.is c.next.ensures.steps in
    let shown = subst (Shown m c.args.row.code (Some c.in-Some.code) c.truth_at-truth.result) c.atom_count.ensures c.truth_at-truth.ensures in
    let so-far = subst (λ (n : ℕ). Collected (λ e. e.from ≡ c.args.visit.from) (StepsFrom m b s c.args.visit.place) c.args.visits.start c.args.rows.now c.loop-code.rows c.args.filled c.loop-code.filled n)
    at.0 c.loop-code.invariant.0 in
    code_full c.args.visit.from m b s c.args.visit.place c.args.visits.start c.in-Some.code _
    c.requires.known shown _ _ _ _ _ _ (omega (arith, at.0)) so-far c.args.visits.end at.1
    c.in_default.ensures c.fill_up.ensures

pub returns-in_err-filled : goal.returns-in_err-filled
returns-in_err-filled g c =
    let m = g.T.Theory.meaning c.args.asked.now.theory.now in
    let b = book_contents c.args.asked.now.book.now in
    let s = position c.args.row in
    let at = range_turn c.args.visits.start c.args.visits.end (cc) c.loop-code.yielded _ c.loop-code.yielded_by _ c.next.new.self c.in-Some.code c.in-Some.is c.next.ensures.steps in
    let shown = subst (Shown m c.args.row.code (Some c.in-Some.code) c.truth_at-truth.result) c.atom_count.ensures c.truth_at-truth.ensures in
    let so-far = subst (λ (n : ℕ). Collected (λ e. e.from ≡ c.args.visit.from) (StepsFrom m b s c.args.visit.place) c.args.visits.start c.args.rows.now c.loop-code.rows c.args.filled c.loop-code.filled n)
    at.0 c.loop-code.invariant.0 in
    let gone : c.from_residual.result ≡ None = grind arith in
    subst (λ r. Spread (λ e. e.from ≡ c.args.visit.from) (SomeOf (StepsFrom m b s c.args.visit.place) c.args.visits.start c.args.visits.end) c.args.rows.now c.enter_labels.new.rows c.args.filled r) (sym gone)
    (code_short c.args.visit.from m b s c.args.visit.place c.args.visits.start c.in-Some.code _
    c.requires.known shown _ _ _ _ _ _ (omega (arith, at.0)) so-far _ c.args.visits.end at.1
    c.in-Some-labels_for.ensures c.in_err-filled.ensures)

pub returns : goal.returns
returns g c =
    collected_all (λ e. e.from ≡ c.args.visit.from)
    (StepsFrom (g.T.Theory.meaning c.args.asked.now.theory.now) (book_contents c.args.asked.now.book.now) (position c.args.row) c.args.visit.place)
    c.args.visits.start _ _ _ _ _ c.args.visits.end c.requires.codes.1.0
    (range_end c.args.visits.start c.args.visits.end (cc) c.loop-code.yielded _ c.loop-code.yielded_by _ c.next.new.self c.requires.codes.1.0 c.in-None.is c.next.ensures.steps)
    c.loop-code.invariant.0
