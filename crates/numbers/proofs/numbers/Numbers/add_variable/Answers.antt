use Rattle.std.proofs.Common.{◌≡◌, ℕ, List, Some, None, Err, sym, ap, ◌∙◌, ap₂, length, rules, w32}
use Rattle.std.proofs.lemmas.Int.{to_z-of_z}
use Rattle.names.proofs.Rosters.{named_some}
use Rattle.names.specs.Rosters.{texts, number_added, texts_added}
use Rattle.names.specs.Texts.{seen, text_of}
use Rattle.refusal.specs.declared.FillRefusal.TheVariants.{Variable}
use Rattle.numbers.specs.Kept.{grid_bounds, named, variable_seen, variable_fits}
use Rattle.numbers.specs.Values.{combinations}
use Rattle.numbers.proofs.Filled.{refused_bounds, refused_name, same_names, still_paired, still_counted, still_known, added}
use Rattle.numbers.proofs.numbers.Numbers.add_variable.Goals as goal

pub returns-in_err-variable : goal.returns-in_err-variable
returns-in_err-variable c =
    let t = c.args.self.now in
    let none : None ≡ variable_fits t.grid c.args.low c.args.high =
    ap variable_seen (sym c.in_err-variable.ensures.ok_part) ∙ c.fit.ensures.is ∙ ap₂ (variable_fits t.grid) (to_z-of_z w32 c.args.low c.ranges.low) (to_z-of_z w32 c.args.high c.ranges.high) in
    let p = refused_bounds t c.args.text.now c.args.low c.args.high none in
    let is : c.from_residual-in_err-variable.result ≡ Err Variable = search rules in
    record { answer = is ∙ p.0; after = p.1 }

pub returns-in_err-ok_or : goal.returns-in_err-ok_or
returns-in_err-ok_or c =
    let t = c.args.self.now in
    let text = c.args.text.now in
    let name-is = named_some text (text_of c.in_ok-name.name) (ap seen (sym c.in_ok-name.ensures.ok_part) ∙ c.new.ensures) in
    let none : None ≡ number_added 8 (texts t.names) text = sym c.in_err-ok_or.ensures.ok_part ∙ c.add.ensures.answer ∙ ap (number_added 8 (texts t.names)) name-is.1 in
    let after : texts c.add.new.self ≡ texts_added 8 (texts t.names) text = c.add.ensures.after ∙ ap (texts_added 8 (texts t.names)) name-is.1 in
    let p = refused_name t text c.args.low c.args.high c.add.new.self none after in
    let is : c.from_residual-in_err-ok_or.result ≡ Err Variable = search rules in
    record { answer = is ∙ p.0; after = p.1 }

pub invariant_of-self : goal.invariant_of-self
invariant_of-self c =
    let t = c.args.self.now in
    let text = c.args.text.now in
    let name-is = named_some text (text_of c.in_ok-name.name) (ap seen (sym c.in_ok-name.ensures.ok_part) ∙ c.new.ensures) in
    let none : None ≡ number_added 8 (texts t.names) text = sym c.in_err-ok_or.ensures.ok_part ∙ c.add.ensures.answer ∙ ap (number_added 8 (texts t.names)) name-is.1 in
    let after : texts c.add.new.self ≡ texts_added 8 (texts t.names) text = c.add.ensures.after ∙ ap (texts_added 8 (texts t.names)) name-is.1 in
    let same = same_names t text c.args.low c.args.high c.add.new.self none after in
    record {
      paired = ap length same ∙ t.paired;
      counted = t.counted ∙ ap (λ (ns : List (List ℕ)). combinations (named ns (grid_bounds t.grid))) (sym same);
      few = t.few;
      known = t.known;
    }

pub invariant_of-self-2 : goal.invariant_of-self-2
invariant_of-self-2 c =
    let t = c.args.self.now in
    let text = c.args.text.now in
    let name-is = named_some text (text_of c.in_ok-name.name) (ap seen (sym c.in_ok-name.ensures.ok_part) ∙ c.new.ensures) in
    let v = c.in_ok-variable.variable in
    let some : Some c.in_ok-ok_or.field-0 ≡ number_added 8 (texts t.names) text = sym c.in_ok-ok_or.ensures.ok_part ∙ c.add.ensures.answer ∙ ap (number_added 8 (texts t.names)) name-is.1 in
    let after : texts c.add.new.self ≡ texts_added 8 (texts t.names) text = c.add.ensures.after ∙ ap (texts_added 8 (texts t.names)) name-is.1 in
    let fit : Some (v.low, v.high) ≡ variable_fits t.grid c.args.low c.args.high =
    ap variable_seen (sym c.in_ok-variable.ensures.ok_part) ∙ c.fit.ensures.is ∙ ap₂ (variable_fits t.grid) (to_z-of_z w32 c.args.low c.ranges.low) (to_z-of_z w32 c.args.high c.ranges.high) in
    record {
      paired = still_paired t text c.args.low c.args.high c.add.new.self c.push.new.self c.in_ok-ok_or.field-0 (v.low, v.high) name-is.0 some after fit c.push.ensures;
      counted = still_counted t text c.args.low c.args.high c.add.new.self c.push.new.self c.in_ok-ok_or.field-0 (v.low, v.high) name-is.0 some after fit c.push.ensures;
      few = t.few;
      known = still_known t text c.args.low c.args.high c.add.new.self c.push.new.self c.in_ok-ok_or.field-0 (v.low, v.high) name-is.0 some after fit c.push.ensures;
    }

pub returns : goal.returns
returns c =
    let t = c.args.self.now in
    let text = c.args.text.now in
    let name-is = named_some text (text_of c.in_ok-name.name) (ap seen (sym c.in_ok-name.ensures.ok_part) ∙ c.new.ensures) in
    let v = c.in_ok-variable.variable in
    let some : Some c.in_ok-ok_or.field-0 ≡ number_added 8 (texts t.names) text = sym c.in_ok-ok_or.ensures.ok_part ∙ c.add.ensures.answer ∙ ap (number_added 8 (texts t.names)) name-is.1 in
    let after : texts c.add.new.self ≡ texts_added 8 (texts t.names) text = c.add.ensures.after ∙ ap (texts_added 8 (texts t.names)) name-is.1 in
    let fit : Some (v.low, v.high) ≡ variable_fits t.grid c.args.low c.args.high =
    ap variable_seen (sym c.in_ok-variable.ensures.ok_part) ∙ c.fit.ensures.is ∙ ap₂ (variable_fits t.grid) (to_z-of_z w32 c.args.low c.ranges.low) (to_z-of_z w32 c.args.high c.ranges.high) in
    let p = added t text c.args.low c.args.high c.add.new.self c.push.new.self c.in_ok-ok_or.field-0 (v.low, v.high) name-is.0 some after fit c.push.ensures in
    record { answer = p.0; after = p.1 }
