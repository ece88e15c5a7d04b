use Rattle.std.proofs.Common.{◌≡◌, ℕ, ◌≤◌, List, length, take, ℤ, arith, ap₂, ◌∙◌}
use Rattle.theory.proofs.Texts.{short_answer, short_leaves}
use Rattle.theory.specs.Print.{spaced, values_answer, values_leave}
use Rattle.names.proofs.Rosters.{texts_few}
use Rattle.flags.specs.Bits.{bits_below}
use Rattle.flags.specs.Model.{flags_of}
use Rattle.flags.specs.declared.flags.Flags.{Flags}
use Rattle.flags.proofs.Shown.{bits_short, first_bits}
use Rattle.flags.proofs.print.FlagsPrintable.print.Goals as goal

-- the bits that are handed on
bits_are : (t : Flags) (code k : ℕ) (bits : List ℤ) → k ≡ length (flags_of t).names → bits ≡ bits_below 12 code → take k bits ≡ bits_below (length (flags_of t).names) code
bits_are t code k bits is-k is =
    ap₂ (λ (n : ℕ) (zs : List ℤ). take n zs) is-k is ∙ first_bits (length (flags_of t).names) code (texts_few t.names)

few_bits : (t : Flags) (code : ℕ) → length (spaced (bits_below (length (flags_of t).names) code)) ≤ 64
few_bits t code = omega (arith, bits_short (length (flags_of t).names) code, texts_few t.names)

pub returns : goal.returns
returns c =
    let t = c.args.self.now in
    let is = bits_are t c.args.code c.from.result c.bits_of-bits.result (c.from.ensures ∙ c.flag_count.ensures.answer) c.bits_of-bits.ensures in
    let few = few_bits t c.args.code in
    record {
      answer = c.print_values.ensures.answer
          ∙ ap₂ (λ (codes : ℕ) (zs : List ℤ). values_answer codes c.args.code (length c.args.out.now) (spaced zs)) c.code_count.ensures is
          ∙ short_answer _ c.args.code c.args.out.now _ few;
      after = c.print_values.ensures.after
          ∙ ap₂ (λ (codes : ℕ) (zs : List ℤ). values_leave codes c.args.code c.args.out.now (spaced zs)) c.code_count.ensures is
          ∙ short_leaves _ c.args.code c.args.out.now _ few;
    }
