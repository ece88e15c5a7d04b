use Rattle.std.proofs.Common.{length, sym, ◌∙◌}
use Rattle.std.specs.Str.{bytes_eq}
use Rattle.intern.proofs.Slots.{place_below}
use Rattle.names.specs.Rosters.{texts}
use Rattle.flags.proofs.Atoms.{pushed}
use Rattle.flags.proofs.flags.Flags.add_atom.Goals as goal

pub invariant_of-self : goal.invariant_of-self
invariant_of-self c =
    let t = c.args.self.now in
    let below = place_below bytes_eq c.args.text.now (texts t.names) c.in_ok-flag.flag (sym c.flag_number.ensures ∙ c.in_ok-flag.ensures.ok_part) in
    let p = pushed c.try_push.result (length (texts t.names)) c.in_ok-flag.flag t.atoms c.try_push.new.self below t.few t.named c.try_push.ensures.variant.0 c.try_push.ensures.ok c.try_push.ensures.err in
    record { some = t.some; few = p.0; named = p.1 }
