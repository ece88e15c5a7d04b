use Rattle.std.proofs.Common.{◌≡◌, ℕ, ◌+◌, List, ◌∷◌, map, length, take, drop, sym, refl, ap, ◌∙◌, subst}
use Rattle.std.proofs.lemmas.List.{drop_more, drop_all}
use Rattle.ltlf.specs.Contents.{book_contents}
use Rattle.record.specs.Calls.{record_model}
use Rattle.household.specs.Questions.{Asked}
use Rattle.household.specs.Plain.{Drawn}
use Rattle.household.specs.Law.{drawn}
use Rattle.household.specs.Runs.{Stepped}
use Rattle.household.proofs.Runs.{Playing, begin, played, over}
use Rattle.household.proofs.replaying.replay.Goals as goal

pub loop-call-init : goal.loop-call-init
loop-call-init g c =
    begin _ _ _ _ _ _ (book_contents c.args.book.now) (record_model c.open-record.result) c.args.visits.now refl refl c.open-record.ensures refl

pub loop-call-preserved : goal.loop-call-preserved
loop-call-preserved g c =
    let a = c.args in
    let v = c.loop-call in
    let said = c.step-record.ensures in
    let x = c.call-item.result in
    let calls = a.calls.now in
    let after = c.step-record.new in
    let b = book_contents a.book.now in
    let r = record_model v.«record» in
    let d = drawn g.T.Theory.meaning (length a.rows.now) (length a.history.now) in
    let rest = map d (drop (v.call-index + 1) calls) in
    let Step : Drawn Asked → Type 0 = λ z. Stepped g.O.Observer.hears r.codes r.atoms (take r.kept v.visits) z (length v.visits) (record_model c.step-record.result) after.visits v.observer after.observer in
    let same : drawn g.T.Theory.meaning (length v.rows) (length v.history) x ≡ d x =
    ap (λ (n : ℕ). drawn g.T.Theory.meaning n (length v.history) x) v.auto.rows ∙ ap (λ (n : ℕ). drawn g.T.Theory.meaning (length a.rows.now) n x) v.auto.history in
    let split : map d (drop v.call-index calls) ≡ d x ∷ rest =
    ap (map d) (drop_more calls v.call-index x c.loop-call-test.true) ∙ ap (λ y. d y ∷ rest) (sym c.call-item.is) in
    let At : List (Drawn Asked) → Type 0 = λ ds. Playing g.O.Observer.hears b.codes b.atoms (length a.visits.now) (map d calls) a.observer.now ds r v.visits v.observer in
    played _ _ _ _ _ _ (d x) rest r (record_model c.step-record.result) v.visits after.visits v.observer after.observer c.step-record.auto.visits
    (subst At split v.invariant) (subst Step same said)

pub returns : goal.returns
returns g c =
    let a = c.args in
    let v = c.loop-call in
    let b = book_contents a.book.now in
    let d = drawn g.T.Theory.meaning (length a.rows.now) (length a.history.now) in
    let At : List (Drawn Asked) → Type 0 = λ ds. Playing g.O.Observer.hears b.codes b.atoms (length a.visits.now) (map d a.calls.now) a.observer.now ds (record_model v.«record») v.visits v.observer in
    over _ b _ _ _ (record_model v.«record») v.visits v.observer
    (subst At (ap (map d) (drop_all v.call-index a.calls.now c.loop-call-test.false)) v.invariant)
