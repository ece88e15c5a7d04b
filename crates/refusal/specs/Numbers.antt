-- The number of each refusal, and the place of a sheet's.
use Rattle.std.specs.Prelude.{ℕ}
use Rattle.refusal.specs.declared.Refusal.{Refusal}
use Rattle.refusal.specs.declared.Refusal.TheVariants as call
use Rattle.refusal.specs.declared.FillRefusal.{FillRefusal}
use Rattle.refusal.specs.declared.FillRefusal.TheVariants as fill
use Rattle.refusal.specs.declared.SheetRefusal.{SheetRefusal}
use Rattle.refusal.specs.declared.SheetRefusal.TheVariants as sheet

-- the number of a refused call
abbrev pub number_of : Refusal → ℕ
number_of call.CountsOutOfRange = 1
number_of call.Unknown = 2
number_of call.TooManyFormulas = 3
number_of call.NoSuchCode = 4
number_of call.ListFull = 5
number_of call.NothingKept = 6
number_of call.CountsDiffer = 7
number_of call.BadVisitList = 8
number_of call.BadBuffer = 9

-- the number of the sheet that asks a theory for a variable or an atom that it does not take
abbrev pub fill_number : FillRefusal → ℕ
fill_number fill.Variable = 12
fill_number fill.Atom = 12

-- the number of a refused sheet, with its place, a byte offset from 0
abbrev pub numbered : SheetRefusal → ℕ × ℕ
numbered sheet.Bytes = (10, 0)
numbered (sheet.Trailer place) = (11, place)
numbered (sheet.Opening place) = (12, place)
numbered (sheet.Rule place) = (13, place)
numbered (sheet.Note place) = (14, place)

abbrev pub sheet_number : SheetRefusal → ℕ
sheet_number r = (numbered r).0

abbrev pub sheet_place : SheetRefusal → ℕ
sheet_place r = (numbered r).1
