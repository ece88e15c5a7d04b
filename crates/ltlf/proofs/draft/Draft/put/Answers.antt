use Rattle.std.proofs.Common.{◌∙◌, arith}
use Rattle.ltlf.proofs.Putting.{put_unknown, found_below, put_found, added_below, put_added, before_more, put_full}
use Rattle.ltlf.proofs.draft.Draft.put.Goals as goal

pub returns-then-not-knows : goal.returns-then-not-knows
returns-then-not-knows c =
    let d = c.args.self.now in
    let p = put_unknown d.codes d.atoms _ d.cells d.len c.args.node d.whole d.room c.if-not-knows.ensures in
    record { answer = p.0; after = p.1 }

pub overflow_cast-result : goal.overflow_cast-result
overflow_cast-result c =
    let d = c.args.self.now in
    omega (arith, found_below d.codes d.atoms d.rules.items d.cells d.len c.args.node d.whole d.room c.if-not-knows.ensures _ _ (rw c.in-Ok-Found.field-0-is at (c.in-Ok-Found.ensures.settled d.indexed)))

pub invariant_of-self-in-Ok-Added : goal.invariant_of-self-in-Ok-Added
invariant_of-self-in-Ok-Added c =
    let d = c.args.self.now in
    let s = rw c.in-Ok-Added.field-0-is at (c.in-Ok-Added.ensures.settled d.indexed) in
    let below = added_below d.codes d.atoms d.rules.items d.cells d.len c.args.node d.whole d.room c.if-not-knows.ensures _ _ s in
    record {
      room = omega (arith, below.1);
      whole = s.same_length ∙ d.whole;
      indexed = s.indexed;
      before = before_more d.codes d.atoms d.rules.items d.cells d.len c.args.node d.whole d.room c.if-not-knows.ensures _ _ s d.before;
      stood = λ i h. omega (arith, d.stood i h);
      apart = d.apart;
      coded = d.coded;
      told = d.told;
    }

pub returns-in-Ok-Found : goal.returns-in-Ok-Found
returns-in-Ok-Found c =
    let d = c.args.self.now in
    let p = put_found d.codes d.atoms _ d.cells d.len c.args.node d.whole d.room c.if-not-knows.ensures _ _ (rw c.in-Ok-Found.field-0-is at (c.in-Ok-Found.ensures.settled d.indexed)) in
    record { answer = p.0; after = p.1 }

pub returns-in-Ok-Added : goal.returns-in-Ok-Added
returns-in-Ok-Added c =
    let d = c.args.self.now in
    let p = put_added d.codes d.atoms _ d.cells d.len c.args.node d.whole d.room c.if-not-knows.ensures _ _ (rw c.in-Ok-Added.field-0-is at (c.in-Ok-Added.ensures.settled d.indexed)) in
    record { answer = p.0; after = p.1 }

pub returns-in-Err : goal.returns-in-Err
returns-in-Err c =
    let d = c.args.self.now in
    let p = put_full d.codes d.atoms _ d.cells d.len c.args.node d.whole d.room c.if-not-knows.ensures _ _ (c.in-Err.ensures.settled d.indexed) in
    record { answer = p.0; after = p.1 }
