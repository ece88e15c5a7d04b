use Rattle.std.proofs.Common.{◌≡◌, ◌<◌, true, length, get_or, sym, ap, ◌∙◌, arith}
use Rattle.theory.proofs.Answered.{answers}
use Rattle.numbers.specs.declared.atom.Atom.{Atom}
use Rattle.numbers.specs.Kept.{kept_holds}
use Rattle.numbers.specs.Limits.{sum_fits}
use Rattle.numbers.specs.Model.{numbers_of, numbers_meaning, count_atoms}
use Rattle.numbers.proofs.Readings.{atom_exists, sum_parts, sum_at, fact_is}
use Rattle.numbers.proofs.holds.NumbersTheory.holds.Goals as goal

pub holds-requires : goal.holds-requires
holds-requires c =
    let t = c.args.self.now in
    let a = c.index-deref-atom.result in
    let n = length t.grid.variables.items in
    let exists = atom_exists t.grid.codes c.atom_count.result c.args.atom c.args.code c.args.next (sym c.check_within.ensures ∙ c.in_ok-check_within.was) in
    let below : c.args.atom < length t.atoms.items = omega (arith, exists, c.atom_count.ensures, count_atoms t) in
    let is : a ≡ get_or t.atoms.items c.args.atom a = c.index-deref-atom.is ∙ ap (λ xs. get_or xs c.args.atom a) c.deref.ensures.0 in
    let fit : sum_fits n a.terms.items a.constant ≡ true = ap (λ (b : Atom). sum_fits n b.terms.items b.constant) is ∙ sum_at t c.args.atom a below in
    let p = sum_parts n a.terms.items a.constant fit in
    record { few = p.1; fit = p.2 }

pub returns : goal.returns
returns c =
    let t = c.args.self.now in
    let a = c.index-deref-atom.result in
    let n = length t.grid.variables.items in
    let exists = atom_exists t.grid.codes c.atom_count.result c.args.atom c.args.code c.args.next (sym c.check_within.ensures ∙ c.in_ok-check_within.was) in
    let below : c.args.atom < length t.atoms.items = omega (arith, exists, c.atom_count.ensures, count_atoms t) in
    let is : a ≡ get_or t.atoms.items c.args.atom a = c.index-deref-atom.is ∙ ap (λ xs. get_or xs c.args.atom a) c.deref.ensures.0 in
    answers (numbers_meaning (numbers_of t)) c.args.atom c.args.code c.args.next
    c.check_within.ensures c.in_ok-check_within.was t.counted c.atom_count.ensures
    (c.holds.ensures ∙ ap (kept_holds t.grid c.args.code c.args.next) is ∙ fact_is t c.args.atom c.args.code c.args.next a below)
