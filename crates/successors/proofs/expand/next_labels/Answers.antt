use Rattle.std.proofs.Common.{refl}
use Rattle.std.proofs.lemmas.Bool.{false≢true}
use Rattle.ltlf.proofs.Books.{book_proper}
use Rattle.viability.specs.Visits.{moment_at, contents_at}
use Rattle.successors.specs.Guides.{Guided}
use Rattle.successors.proofs.Expanding.{filled_begin, filled_empty, lists_next, lists_never}
use Rattle.successors.proofs.Growing.{taken_none}
use Rattle.successors.proofs.expand.next_labels.Goals as goal

pub enter-requires : goal.enter-requires
enter-requires c = taken_none _

pub returns-then-members-eq0 : goal.returns-then-members-eq0
returns-then-members-eq0 c =
    let v = c.args.visit.now in
    let pr = book_proper v.book.now in
    lists_next (contents_at v) pr v.truth v.last c.args.label _ c.known_part-members.ensures _ _ _
    (filled_empty (moment_at v) (contents_at v) pr c.known_part-members.result c.if-members-eq0.true _ _ _ _ c.enter.ensures)

pub returns-then-not-inside : goal.returns-then-not-inside
returns-then-not-inside c =
    let v = c.args.visit.now in
    lists_never (contents_at v) v.truth v.last c.viable-able.result c.args.label _
    c.viable-able.ensures.tells c.known_part-members.ensures (λ h. false≢true (c.if-not-inside.ensures.1 h)) _

pub expand_with-requires-clause-guided : goal.expand_with-requires-clause-guided
expand_with-requires-clause-guided c = record { proper = book_proper c.args.visit.now.book.now; viable = c.viable-able.ensures.fit; guides_are = c.fill-forks.ensures }

pub expand_with-requires-2-clause-guided : goal.expand_with-requires-2-clause-guided
expand_with-requires-2-clause-guided c = record { proper = book_proper c.args.visit.now.book.now; viable = c.viable-able.ensures.fit; guides_are = c.fill-forks.ensures }

pub returns-then-forks-gt6 : goal.returns-then-forks-gt6
returns-then-forks-gt6 c =
    let v = c.args.visit.now in
    let pr = book_proper v.book.now in
    let gd : Guided (moment_at v) (contents_at v) c.viable-able.result c.fill-forks.new.guides = record { proper = pr; viable = c.viable-able.ensures.fit; guides_are = c.fill-forks.ensures } in
    lists_next (contents_at v) pr v.truth v.last c.args.label _ c.known_part-members.ensures _ _ _
    (filled_begin gd c.known_part-members.result _ (c.if-not-inside.ensures.0 refl) c.gathered-given.ensures.1 _ _ _ _ c.expand_with.ensures)

pub returns : goal.returns
returns c =
    let v = c.args.visit.now in
    let pr = book_proper v.book.now in
    let gd : Guided (moment_at v) (contents_at v) c.viable-able.result c.fill-forks.new.guides = record { proper = pr; viable = c.viable-able.ensures.fit; guides_are = c.fill-forks.ensures } in
    lists_next (contents_at v) pr v.truth v.last c.args.label _ c.known_part-members.ensures _ _ _
    (filled_begin gd c.known_part-members.result _ (c.if-not-inside.ensures.0 refl) c.gathered-given.ensures.1 _ _ _ _ c.expand_with-2.ensures)
