-- The texts of the sheets that were tried by hand.
use Rattle.std.specs.Prelude.{ℕ, List, [], ◌∷◌, ◌++◌, codes}
use Prim.Native.String.{String}

-- a text of lines, each with its end
abbrev pub text : List String → List ℕ
text [] = []
text (l ∷ ls) = codes l ++ (10 ∷ text ls)

-- the number sheet of a household that is tried three times, with lines of notes: tries begin at 0 and go up by one until they are 2
abbrev pub climbing : (notes : List String) → List ℕ
climbing notes =
    text ("numbers" ∷ "v tries 0 2" ∷ "a 1*tries=0" ∷ "a 1*tries'+-1*tries=1" ∷ "a 1*tries=2" ∷ "r & 0 U 1 2" ∷ (notes ++ "end 66 78" ∷ []))

-- a sheet of one flag, which is atom 0, with lines of rules and a trailer
abbrev pub one_flag : (rules : List String) → (trailer : String) → List ℕ
one_flag rules trailer = text ("flags" ∷ "v f" ∷ "a f" ∷ (rules ++ trailer ∷ []))

-- a sheet of tries from 0 to 2 with one atom, one rule and a trailer
abbrev pub one_sum : (atom rule trailer : String) → List ℕ
one_sum atom rule trailer = text ("numbers" ∷ "v tries 0 2" ∷ atom ∷ rule ∷ trailer ∷ [])
