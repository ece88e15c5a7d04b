use Rattle.std.proofs.Common.{◌≡◌, ℕ, ◌≤◌, Bool, length, take, sym, refl, ap, ◌∙◌, subst, arith}
use Rattle.record.specs.Calls.{RecordModel, SyncModel, record_model, sync_model}
use Rattle.household.specs.Questions.{Asked}
use Rattle.household.specs.Plain.{kept_then, sync}
use Rattle.household.proofs.Notes.{Going, Ended, start, next, ended, still}
use Rattle.household.proofs.replaying.play_sync.Goals as goal

pub loop-code-init : goal.loop-code-init
loop-code-init g c =
    let now = c.args.observer.now in
    let r = record_model c.args.«record» in
    let At : SyncModel → Type 0 = λ s. (s.taken ≡ s.taken)
    × Going g.O.Observer.hears s.taken.codes s.taken.atoms (take s.taken.kept c.args.visits.now) c.args.notes.now
    (length c.args.visits.now) now 0 s.held c.args.visits.now now in
    subst At (sym c.sync-sync.ensures) (refl, start g.O.Observer.hears r.codes r.atoms r.kept c.args.visits.now c.args.notes.now now c.requires)

pub loop-code-preserved : goal.loop-code-preserved
loop-code-preserved g c =
    let v = c.loop-code in
    let said = c.note-result.ensures in
    let on = next _ _ _ _ _ _ _ v.code-index (sync_model v.sync) v.visits v.observer c.loop-code-test.true v.invariant.1
    (sync_model c.note-result.new.self) c.note-result.new.visits c.noted.new.self c.note-result.result
    (ap (λ (x : RecordModel). x.codes) v.invariant.0) said.answer said.after said.visits c.noted.ensures in
    (on.0 ∙ v.invariant.0, on.1)

pub returns-then-confirmed : goal.returns-then-confirmed
returns-then-confirmed g c =
    let r = record_model c.args.«record» in
    let v = c.loop-code in
    let notes = c.args.notes.now in
    let first = c.args.visits.now in
    let before = c.args.observer.now in
    let now = v.observer in
    let At : SyncModel → Type 0 = λ s. Ended g.O.Observer.hears s.taken.codes s.taken.atoms (take s.taken.kept first) notes (length first) before v.sync.held v.visits now in
    let end : Ended g.O.Observer.hears r.codes r.atoms (take r.kept first) notes (length first) before v.sync.held v.visits now =
    subst At c.sync-sync.ensures (ended _ _ _ _ _ _ _ v.code-index v.sync.held v.visits now c.loop-code-test.false v.invariant.1) in
    let is : (sync_model v.sync).taken ≡ r = v.invariant.0 ∙ ap (λ (s : SyncModel). s.taken) c.sync-sync.ensures in
    let out = c.confirm.ensures in
    let kept-is : c.confirm.result.kept ≡ v.sync.held = ap (λ (x : RecordModel). x.kept) out in
    record {
      within = subst (λ (n : ℕ). n ≤ length v.visits) (sym kept-is) end.within;
      of_codes = ap (λ (x : RecordModel). x.codes) out ∙ ap (λ (x : RecordModel). x.codes) is;
      of_atoms = ap (λ (x : RecordModel). x.atoms) out ∙ ap (λ (x : RecordModel). x.atoms) is;
      keeps = ap (λ (n : ℕ). take n v.visits) kept-is ∙ end.lists
          ∙ ap (λ (b : Bool). kept_then {Q = Asked} r.codes (length first) (take r.kept first) (sync notes b)) (sym c.if-confirmed.true);
      told = end.told;
    }

pub returns-else-confirmed : goal.returns-else-confirmed
returns-else-confirmed g c =
    let r = record_model c.args.«record» in
    let v = c.loop-code in
    let notes = c.args.notes.now in
    let first = c.args.visits.now in
    let before = c.args.observer.now in
    let now = v.observer in
    let At : SyncModel → Type 0 = λ s. Ended g.O.Observer.hears s.taken.codes s.taken.atoms (take s.taken.kept first) notes (length first) before v.sync.held v.visits now in
    let end : Ended g.O.Observer.hears r.codes r.atoms (take r.kept first) notes (length first) before v.sync.held v.visits now =
    subst At c.sync-sync.ensures (ended _ _ _ _ _ _ _ v.code-index v.sync.held v.visits now c.loop-code-test.false v.invariant.1) in
    let is : record_model c.fail.result ≡ r = c.fail.ensures ∙ v.invariant.0 ∙ ap (λ (s : SyncModel). s.taken) c.sync-sync.ensures in
    let kept-is : c.fail.result.kept ≡ r.kept = ap (λ (x : RecordModel). x.kept) is in
    let long : length v.visits ≡ length first = c.loop-code.auto.visits in
    record {
      within = omega (arith, kept-is, long, c.requires);
      of_codes = ap (λ (x : RecordModel). x.codes) is;
      of_atoms = ap (λ (x : RecordModel). x.atoms) is;
      keeps = ap (λ (n : ℕ). take n v.visits) kept-is
          ∙ still g.O.Observer.hears r.codes r.atoms r.kept first v.visits notes (length first) before now v.sync.held c.requires end
          ∙ ap (λ (b : Bool). kept_then {Q = Asked} r.codes (length first) (take r.kept first) (sync notes b)) (sym c.if-confirmed.false);
      told = end.told;
    }
