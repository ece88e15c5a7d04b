-- What the lines of a sheet fill: a theory of flags or of numbers.
use Rattle.std.specs.Prelude.{ℕ, List, length, Some, None, Ok, Err, Option, Result, option_and_then}
use Rattle.refusal.specs.declared.FillRefusal.{FillRefusal}
use Rattle.theory.specs.Meaning.{Meaning}
use Rattle.flags.specs.Meaning.{flags_meaning}
use Rattle.flags.specs.Model.{FlagsModel}
use Rattle.flags.specs.Filling as flag
use Rattle.numbers.specs.Model.{NumbersModel, numbers_meaning}
use Rattle.numbers.specs.Values.{VariableModel, AtomModel}
use Rattle.numbers.specs.Filling as number
use Rattle.ltlf.specs.Contents.{Contents, empty, counts_leave}
use Rattle.number_text.specs.Sums.{sum_read}
use Rattle.number_text.specs.Variables.{variable_read}
use Rattle.items.specs.Names.{Naming, name_read}
use Rattle.items.specs.Reads.{whole}
use Rattle.sheet_text.specs.Notes.{note_read, number_note_read}
use Rattle.sheet_text.specs.declared.heading.Heading.{Heading}
use Rattle.sheet_text.specs.declared.heading.Heading.TheVariants.{Flags, Numbers}

-- what a theory holds
pub data Held : Type 0 where
  flags : FlagsModel → Held
  numbers : NumbersModel → Held

-- the heading of the sheets that fill it
abbrev pub heading_in : Held → Heading
heading_in (flags m) = Flags
heading_in (numbers k) = Numbers

-- a fresh theory of a heading
abbrev pub fresh : Heading → Held
fresh Flags = flags flag.fresh_flags
fresh Numbers = numbers number.fresh_numbers

-- the flags, which are fresh beside numbers
abbrev pub flags_in : Held → FlagsModel
flags_in (flags m) = m
flags_in (numbers k) = flag.fresh_flags

-- the numbers, which are fresh beside flags
abbrev pub numbers_in : Held → NumbersModel
numbers_in (flags m) = number.fresh_numbers
numbers_in (numbers k) = k

-- what it means
abbrev pub meaning_in : Held → Meaning
meaning_in (flags m) = flags_meaning m
meaning_in (numbers k) = numbers_meaning k

-- an empty draft with the counts of the theory
abbrev pub counted : Held → Contents
counted t = counts_leave (empty 0 0) (meaning_in t).codes (meaning_in t).atoms

-- what a call leaves, unless it was refused
abbrev pub unless_refused : {U : Type 0} → Result U FillRefusal → Held → Option Held
unless_refused (Ok u) t = Some t
unless_refused (Err e) t = None

-- flags that are made, unless that is refused
abbrev pub flags_made : Result FlagsModel FillRefusal → Option Held
flags_made (Ok m) = Some (flags m)
flags_made (Err e) = None

-- numbers that are made, unless that is refused
abbrev pub numbers_made : Result NumbersModel FillRefusal → Option Held
numbers_made (Ok k) = Some (numbers k)
numbers_made (Err e) = None

-- a name and nothing after it
abbrev pub only : Naming → Option (List ℕ)
only None = None
only (Some n) = whole n.0 n.1

-- a theory is made anew with the variable of a text: NAME, or NAME LOW HIGH
abbrev pub begun : Held → (text : List ℕ) → Option Held
begun (flags m) text = option_and_then (λ name. flags_made (flag.started name)) (only (name_read text))
begun (numbers k) text = option_and_then (λ (v : VariableModel). numbers_made (number.started v.name v.low v.high)) (variable_read text)

-- the variable of a text is added
abbrev pub variable_added : Held → (text : List ℕ) → Option Held
variable_added (flags m) text = option_and_then (λ name. unless_refused (flag.flag_answer m name) (flags (flag.flag_leaves m name))) (only (name_read text))
variable_added (numbers k) text =
    option_and_then (λ (v : VariableModel). unless_refused (number.variable_answer k v.name v.low v.high) (numbers (number.variable_leaves k v.name v.low v.high)))
    (variable_read text)

-- the atom of a text is added: NAME, or SUM
abbrev pub atom_added : Held → (text : List ℕ) → Option Held
atom_added (flags m) text = option_and_then (λ name. unless_refused (flag.atom_answer m name) (flags (flag.atom_leaves m name))) (only (name_read text))
atom_added (numbers k) text =
    option_and_then (λ (a : AtomModel). unless_refused (number.atom_answer k a.terms a.constant) (numbers (number.atom_leaves k a.terms a.comparison a.constant)))
    (sum_read k.variables text)

-- the code of a line that is a note
abbrev pub note_by : Held → (line : List ℕ) → Option ℕ
note_by (flags m) line = note_read (length m.names) line
note_by (numbers k) line = number_note_read k.variables line
