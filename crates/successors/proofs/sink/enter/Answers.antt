use Rattle.std.proofs.Common.{Some, sym, ap, ◌∙◌}
use Rattle.intern.proofs.Slots.{is_slot, is_refused}
use Rattle.successors.proofs.Growing.{enter_found, enter_added, enter_full}
use Rattle.successors.proofs.sink.enter.Goals as goal

pub returns-in_err-ok : goal.returns-in_err-ok
returns-in_err-ok c =
    let no = is_refused _ c.in_err-ok.ensures.value in
    rw c.from_residual.ensures (enter_full _ _ _ _ c.requires no.0 (rw no.1 at (c.find_or_add.ensures.settled c.requires.indexed)))

pub returns-in-Found : goal.returns-in-Found
returns-in-Found c =
    let is = is_slot _ _ (ap Some (sym c.in-Found.is) ∙ c.in_ok-ok.ensures.value) in
    enter_found _ _ _ _ c.requires _ (rw is at (c.find_or_add.ensures.settled c.requires.indexed))

pub returns-in-Added : goal.returns-in-Added
returns-in-Added c =
    let is = is_slot _ _ (ap Some (sym c.in-Added.is) ∙ c.in_ok-ok.ensures.value) in
    enter_added _ _ _ _ c.requires _ (rw is at (c.find_or_add.ensures.settled c.requires.indexed))
