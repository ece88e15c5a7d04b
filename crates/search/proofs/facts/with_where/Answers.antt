use Rattle.std.proofs.Common.{◌≡◌, ℕ, ◌*◌, ◌%◌, ◌^◌, ◌<◌, Bool, true, false, cond, sym, ap, ◌∙◌, arith}
use Rattle.std.specs.Int.{from_bool}
use lib.Bits.{bit_or}
use Rattle.std.proofs.lemmas.Nat.{pow_below}
use Rattle.std.specs.Int.Bits.{or_zero_r}
use Rattle.masks.specs.Masks.{including}
use Rattle.masks.proofs.Bits.{including_is}
use Rattle.search.proofs.facts.with_where.Goals as goal

-- the bit of a truth value, moved to its place
placed : (held : Bool) (mask n : ℕ) → n < 64 → bit_or mask (from_bool held * 2 ^ n % 18446744073709551616) ≡ cond held (including mask n) mask
placed true mask n lt =
    let small : 2 ^ n < 2 ^ 64 = pow_below n 64 lt in
    let e : 1 * 2 ^ n % 18446744073709551616 ≡ 2 ^ n = omega arith in
    ap (bit_or mask) e ∙ sym (including_is mask n lt)
placed false mask n lt =
    let e : 0 * 2 ^ n % 18446744073709551616 ≡ 0 = omega arith in
    ap (bit_or mask) e ∙ or_zero_r mask

pub returns : goal.returns
returns c =
    ap (λ (x : ℕ). bit_or c.args.mask (x * 2 ^ c.args.atom % 18446744073709551616)) c.from.ensures
    ∙ placed c.args.held c.args.mask c.args.atom c.requires
