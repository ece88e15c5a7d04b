use Rattle.std.proofs.Common.{◌≡◌, true, cond, ltb, length, Some, Ok, Err, sym, ap, ◌∙◌, rules, w32, to_z, of_z}
use Rattle.std.proofs.lemmas.Int.{to_z-of_z}
use Rattle.refusal.specs.declared.FillRefusal.TheVariants.{Atom}
use Rattle.numbers.specs.Kept.{atom_of, atom_seen, atom_made}
use Rattle.numbers.specs.Limits.{sum_fits}
use Rattle.numbers.proofs.Filled.{pushed, made_fits, atom_answered}
use Rattle.numbers.proofs.Readings.{count_variables}
use Rattle.numbers.proofs.numbers.Numbers.add_atom.Goals as goal

pub invariant_of-self : goal.invariant_of-self
invariant_of-self c =
    let t = c.args.self.now in
    let n = length t.grid.variables.items in
    let a = c.in_ok-atom.atom in
    let terms = c.args.terms.now in
    let given = to_z w32 (of_z w32 c.args.constant) in
    let made : Some (atom_of a) ≡ atom_made n terms c.args.comparison given =
    ap atom_seen (sym c.in_ok-atom.ensures.ok_part) ∙ c.new.ensures ∙ ap (λ k. atom_made k terms c.args.comparison given) (c.variable_count.ensures ∙ count_variables t) in
    let fits = made_fits a n terms c.args.comparison c.args.constant given (to_z-of_z w32 c.args.constant c.ranges.constant) made in
    let stands : sum_fits n a.terms.items a.constant ≡ true = ap (λ b. sum_fits n b.terms b.constant) fits.1 ∙ fits.0 in
    let p = pushed c.try_push.result n a t.atoms c.try_push.new.self stands t.few t.known c.try_push.ensures.variant.0 c.try_push.ensures.ok c.try_push.ensures.err in
    record { paired = t.paired; counted = t.counted; few = p.0; known = p.1 }

pub returns-clause-answer : goal.returns-clause-answer
returns-clause-answer c =
    let t = c.args.self.now in
    let n = length t.grid.variables.items in
    let a = c.in_ok-atom.atom in
    let terms = c.args.terms.now in
    let given = to_z w32 (of_z w32 c.args.constant) in
    let made : Some (atom_of a) ≡ atom_made n terms c.args.comparison given =
    ap atom_seen (sym c.in_ok-atom.ensures.ok_part) ∙ c.new.ensures ∙ ap (λ k. atom_made k terms c.args.comparison given) (c.variable_count.ensures ∙ count_variables t) in
    let fits = made_fits a n terms c.args.comparison c.args.constant given (to_z-of_z w32 c.args.constant c.ranges.constant) made in
    let is : c.map_err.result ≡ cond (ltb (length t.atoms.items) 32) (Ok tt) (Err Atom) = search rules in
    is ∙ sym (atom_answered t terms c.args.constant fits.0)
