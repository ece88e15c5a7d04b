use Rattle.std.proofs.Common.{Some, ap, sym, ◌∙◌}
use Rattle.intern.proofs.Slots.{is_slot, is_refused}
use Rattle.names.proofs.Rosters.{taken, crowded, entered}
use Rattle.names.proofs.roster.Roster.add.Goals as goal

pub returns-in_err-ok : goal.returns-in_err-ok
returns-in_err-ok g c =
    let r = c.args.self.now in
    let no = is_refused _ c.in_err-ok.ensures.value in
    let p = crowded r c.args.name _ no.0 (rw no.1 at (c.find_or_add.ensures.settled r.indexed)) in
    rw c.from_residual.ensures (record { answer = p.0; after = p.1 })

pub returns-in-Found : goal.returns-in-Found
returns-in-Found g c =
    let r = c.args.self.now in
    let is = is_slot _ _ (ap Some (sym c.in-Found.is) ∙ c.in_ok-ok.ensures.value) in
    let p = taken r c.args.name _ _ (rw is at (c.find_or_add.ensures.settled r.indexed)) in
    record { answer = p.0; after = p.1 }

pub returns-in-Added : goal.returns-in-Added
returns-in-Added g c =
    let r = c.args.self.now in
    let is = is_slot _ _ (ap Some (sym c.in-Added.is) ∙ c.in_ok-ok.ensures.value) in
    let p = entered r c.args.name _ _ (rw is at (c.find_or_add.ensures.settled r.indexed)) in
    record { answer = p.0; after = p.1 }
