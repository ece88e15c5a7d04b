-- Lines that are notes are counted, and their codes stand in front of the visit list.
use Rattle.std.proofs.Common.{◌≡◌, ℕ, suc, ◌+◌, ◌<◌, ◌≤◌, min, Bool, cond, List, [], ◌∷◌, length, take, Some, None, Ok, Option, Result, refl, ap, ◌∙◌, arith, lt-ltb}
use Rattle.sheet_text.specs.Lines.{go_on, lines_read}
use Rattle.sheet_text.specs.Notes.{Noted, one_more, note_counted, code_or_zero, codes_of, over, if_right}

-- each line is the note of a kept visit
abbrev pub Notes : (note : List ℕ → Option ℕ) → List (List ℕ) → (kept : List ℕ) → Type 0
Notes note [] [] = Unit {0}
Notes note [] (c ∷ cs) = ⊥
Notes note (l ∷ ls) [] = ⊥
Notes note (l ∷ ls) (c ∷ cs) = (note l ≡ Some c) × Notes note ls cs

one_counted : (room n c : ℕ) (r : Option ℕ) → r ≡ Some c → n < room → one_more room n r ≡ Some (n + 1)
one_counted room n c r e h =
    ap (one_more room n) e ∙ ap {B = Option ℕ} (λ (t : Bool). cond t (Some (n + 1)) None) (lt-ltb n room h)

counted : (note : List ℕ → Option ℕ) (ls : List (List ℕ)) (kept : List ℕ) (room place n m : ℕ) → Notes note ls kept → m ≡ n + length kept → m ≤ room →
    lines_read (note_counted note room) place ls n ≡ Ok m
counted note [] [] room place n m h e f = ap {B = Result ℕ ℕ} Ok (omega arith)
counted note [] (c ∷ cs) room place n m h e f = absurd h
counted note (l ∷ ls) [] room place n m h e f = absurd h
counted note (l ∷ ls) (c ∷ cs) room place n m h e f =
    ap (λ (r : Option ℕ). go_on place r (λ s. lines_read (note_counted note room) (place + length l + 1) ls s))
    (one_counted room n c (note l) h.0 (omega arith))
    ∙ counted note ls cs room (place + length l + 1) (n + 1) m h.1 (omega arith) f

pub codes_noted : (note : List ℕ → Option ℕ) (ls : List (List ℕ)) (kept : List ℕ) → Notes note ls kept → codes_of note ls ≡ kept
codes_noted note [] [] h = refl
codes_noted note [] (c ∷ cs) h = absurd h
codes_noted note (l ∷ ls) [] h = absurd h
codes_noted note (l ∷ ls) (c ∷ cs) h =
    ap {B = List ℕ} (λ (r : Option ℕ). code_or_zero r ∷ codes_of note ls) h.0 ∙ ap {B = List ℕ} (λ (r : List ℕ). c ∷ r) (codes_noted note ls cs h.1)

pub in_front : (kept visits : List ℕ) → length kept ≤ length visits → take (length kept) (over kept visits) ≡ kept
in_front [] visits h = refl
in_front (c ∷ cs) [] h = absurd (omega arith)
in_front (c ∷ cs) (v ∷ vs) h = ap {B = List ℕ} (λ (r : List ℕ). c ∷ r) (in_front cs vs (omega arith))

-- notes for which there is room are counted, and their codes are written
pub all_noted : (note : List ℕ → Option ℕ) (ls : List (List ℕ)) (kept visits : List ℕ) (place : ℕ) → Notes note ls kept → length kept ≤ length visits →
    length kept ≤ 1024 →
    if_right note (lines_read (note_counted note (min (length visits) 1024)) place ls 0) ls visits ≡ (Ok (length kept), over kept visits)
all_noted note ls kept visits place h room few =
    ap {B = Noted} (λ (r : Result ℕ ℕ). if_right note r ls visits)
    (counted note ls kept (min (length visits) 1024) place 0 (length kept) h (omega arith) (omega arith))
    ∙ ap {B = Noted} (λ (cs : List ℕ). (Ok (length kept), over cs visits)) (codes_noted note ls kept h)

pub over_length : (kept visits : List ℕ) → length (over kept visits) ≡ length visits
over_length [] visits = refl
over_length (c ∷ cs) [] = refl
over_length (c ∷ cs) (v ∷ vs) = ap suc (over_length cs vs)
