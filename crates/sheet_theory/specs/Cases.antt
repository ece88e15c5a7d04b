-- The theory of a sheet means what the theory that its heading names means.
use Rattle.std.specs.Prelude.{List, ℕ, ℤ, length}
use Rattle.theory.specs.Meaning.{Meaning, InRange}
use Rattle.flags.specs.declared.flags.Flags.{Flags}
use Rattle.flags.specs.Bits.{bits_below}
use Rattle.flags.specs.Meaning.{flags_meaning}
use Rattle.flags.specs.Model.{flags_of}
use Rattle.flags.specs.Ranges.{flags_ranges}
use Rattle.numbers.specs.declared.numbers.Numbers.{Numbers}
use Rattle.numbers.specs.Codes.{all_values}
use Rattle.numbers.specs.Model.{numbers_of, numbers_meaning, numbers_ranges}
use Rattle.sheet_text.specs.declared.heading.Heading.{Heading}
use Rattle.sheet_text.specs.declared.heading.Heading.TheVariants as heading
use Rattle.sheet_theory.specs.declared.case.SheetTheory.{SheetTheory}
use Rattle.sheet_theory.specs.declared.case.SheetTheory.TheVariants as case

-- the theory that a heading names
abbrev pub theory_of : Heading → Flags → Numbers → SheetTheory
theory_of heading.Flags f n = case.Flags f
theory_of heading.Numbers f n = case.Numbers n

abbrev pub case_meaning : SheetTheory → Meaning
case_meaning (case.Flags f) = flags_meaning (flags_of f)
case_meaning (case.Numbers n) = numbers_meaning (numbers_of n)

pub case_ranges : (t : SheetTheory) → InRange (case_meaning t)
case_ranges (case.Flags f) = flags_ranges f
case_ranges (case.Numbers n) = numbers_ranges n

-- the values of a code, in the order of the flags or variables
abbrev pub case_values : SheetTheory → ℕ → List ℤ
case_values (case.Flags f) code = bits_below (length (flags_of f).names) code
case_values (case.Numbers n) code = all_values (numbers_of n).variables code
