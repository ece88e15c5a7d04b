use Rattle.std.proofs.Common.{◌≡◌, [], ◌∷◌, ◌++◌, map, length, refl, ap, ◌∙◌}
use Rattle.std.proofs.lemmas.List.{length-map}
use Rattle.arrayvec.proofs.ArrayVecLemmas.{items-with_items}
use Rattle.numbers.specs.declared.variable.Spanned.{Spanned}
use Rattle.numbers.specs.Spans.{widened}
use Rattle.numbers.proofs.Grids.{grown, bounds_push}
use Rattle.numbers.proofs.grid.Grid.push.Goals as goal

pub invariant_of-self : goal.invariant_of-self
invariant_of-self c =
    let g = c.args.self.now in
    let w : Spanned = record { variable = c.args.variable; span = 1 } in
    let wide : c.widen.new.variables ≡ map (λ v. widened v w.variable.width) g.variables.items = c.widen.ensures ∙ ap (map (λ (v : Spanned). widened v w.variable.width)) c.deref_mut.ensures.value in
    let is : c.push.new.self.items ≡ map (λ v. widened v w.variable.width) g.variables.items ++ w ∷ [] = c.push.ensures.items ∙ ap (λ vs. vs ++ w ∷ []) (items-with_items g.variables c.widen.new.variables (ap length wide ∙ length-map g.variables.items (λ v. widened v w.variable.width)) ∙ wide) in
    let f = grown g w c.push.new.self.items c.requires.room refl is in
    record { some = f.some; few = f.few; spanned = f.spanned; counted = f.counted; coded = f.coded; most = c.requires.few }

pub returns : goal.returns
returns c =
    let g = c.args.self.now in
    let w : Spanned = record { variable = c.args.variable; span = 1 } in
    let wide : c.widen.new.variables ≡ map (λ v. widened v w.variable.width) g.variables.items = c.widen.ensures ∙ ap (map (λ (v : Spanned). widened v w.variable.width)) c.deref_mut.ensures.value in
    let is : c.push.new.self.items ≡ map (λ v. widened v w.variable.width) g.variables.items ++ w ∷ [] = c.push.ensures.items ∙ ap (λ vs. vs ++ w ∷ []) (items-with_items g.variables c.widen.new.variables (ap length wide ∙ length-map g.variables.items (λ v. widened v w.variable.width)) ∙ wide) in
    bounds_push g w c.push.new.self.items c.requires.room refl is
