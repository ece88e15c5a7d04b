use Rattle.std.proofs.Common.{◌≡◌, ℕ, ◌<◌, cond, ltb, List, length, get_or, Ok, Err, sym, ap, ◌∙◌, subst, arith}
use Rattle.refusal.specs.declared.Refusal.TheVariants.{Unknown}
use Rattle.intern.specs.Index.{items}
use Rattle.ltlf.proofs.Rules.{room, stood_more, apart_more, rules_more, rules_unput, rules_again}
use Rattle.ltlf.proofs.Fronts.{was_put, not_put}
use Rattle.ltlf.proofs.draft.Draft.name_rule.Goals as goal

pub push-requires : goal.push-requires
push-requires c =
    let d = c.args.self.now in
    omega (arith, room d.rules.items c.args.formula d.len d.stood d.apart (omega arith) c.if-is_rule.ensures)

pub invariant_of-self : goal.invariant_of-self
invariant_of-self c =
    let d = c.args.self.now in
    let f = c.args.formula in
    let grown = c.push.ensures.items in
    record {
      room = d.room;
      whole = d.whole;
      indexed = d.indexed;
      before = d.before;
      stood = subst (λ (rs : List ℕ). (i : ℕ) → i < length rs → get_or rs i 0 < d.len) (sym grown)
          (stood_more d.rules.items f d.len d.stood d.apart (omega arith) c.if-is_rule.ensures);
      apart = subst (λ (rs : List ℕ). (i j : ℕ) → i < j → j < length rs → get_or rs i 0 ≡ get_or rs j 0 → ⊥) (sym grown)
          (apart_more d.rules.items f d.len d.stood d.apart (omega arith) c.if-is_rule.ensures);
      coded = d.coded;
      told = d.told;
    }

pub returns-then-formula-self : goal.returns-then-formula-self
returns-then-formula-self c =
    let d = c.args.self.now in
    let f = c.args.formula in
    let put = not_put d.cells d.len f (omega arith) (omega arith) in
    record {
      answer = sym (ap (λ b. cond b (Ok tt) (Err Unknown)) put);
      after = ap (λ (rs : List ℕ). record { codes = d.codes; atoms = d.atoms; nodes = items d.cells d.len; rules = rs })
          (rules_unput (ltb f (length (items d.cells d.len))) d.rules.items f put);
    }

pub returns-then-is_rule : goal.returns-then-is_rule
returns-then-is_rule c =
    let d = c.args.self.now in
    let f = c.args.formula in
    let put = was_put d.cells d.len f (omega arith) (omega arith) in
    record {
      answer = sym (ap (λ b. cond b (Ok tt) (Err Unknown)) put);
      after = ap (λ (rs : List ℕ). record { codes = d.codes; atoms = d.atoms; nodes = items d.cells d.len; rules = rs })
          (rules_again (ltb f (length (items d.cells d.len))) d.rules.items f c.if-is_rule.ensures);
    }

pub returns : goal.returns
returns c =
    let d = c.args.self.now in
    let f = c.args.formula in
    let put = was_put d.cells d.len f (omega arith) (omega arith) in
    record {
      answer = sym (ap (λ b. cond b (Ok tt) (Err Unknown)) put);
      after = ap (λ (rs : List ℕ). record { codes = d.codes; atoms = d.atoms; nodes = items d.cells d.len; rules = rs })
          (c.push.ensures.items ∙ rules_more d.rules.items f d.len d.stood d.apart (omega arith) c.if-is_rule.ensures _ put);
    }
