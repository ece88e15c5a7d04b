-- Lines that stand in a text, taken one after the other.
use Rattle.std.proofs.Common.{◌≡◌, ℕ, suc, ◌+◌, ◌-◌, ◌<◌, ◌≤◌, eqb, leb, List, [], ◌∷◌, length, map, take, drop, sym, refl, ap, ◌∙◌, ⊎_elim, arith}
use Rattle.std.proofs.lemmas.Bool.{cond_both, cases_Bool, leb-true, leb-false}
use Rattle.std.proofs.lemmas.List.{length-drop, length-take, length-take-le, drop-drop, drop-take, drop_all, take_rest}
use Rattle.items.specs.Lines.{line_length, lines_of}
use Rattle.items.proofs.Cuts.{lines_cut}
use Rattle.sheet_text.specs.Lines.{placed}

-- the first line is no longer than its text
line_fits : (text : List ℕ) → line_length text ≤ length text
line_fits [] = omega arith
line_fits (b ∷ bs) =
    let more = line_fits bs in
    cond_both (eqb b 10) 0 (suc (line_length bs)) (λ n. n ≤ suc (length bs)) (λ _. omega arith) (λ _. omega arith)

-- the line at a place of a text, and those after it
pub next_line : (text line : List ℕ) (place : ℕ) → place < length text
    → line ≡ take (line_length (take (length text - place) (drop place text))) (take (length text - place) (drop place text))
    → placed place (lines_of (drop place text)) ≡ (place, line) ∷ placed (place + length line + 1) (lines_of (drop (place + length line + 1) text))
next_line text line place within is =
    let left : List ℕ = drop place text in
    let cut : line ≡ take (line_length left) left = is ∙ ap (λ t. take (line_length t) t) (take_rest text place) in
    let some : 0 < length left = omega (arith, length-drop place text) in
    let size : length line ≡ line_length left = ap length cut ∙ length-take-le (line_length left) left (line_fits left) in
    let on : place + (line_length left + 1) ≡ place + length line + 1 = omega arith in
    ap (placed place) (lines_cut left some) ∙
    (λ i. (place, sym cut i) ∷ placed (place + length (sym cut i) + 1) (lines_of ((drop-drop (line_length left + 1) place text ∙ ap (λ k. drop k text) on) i)))

-- lines without their places
pub unplaced : (place : ℕ) (lines : List (List ℕ)) → map (λ p. p.1) (placed place lines) ≡ lines
unplaced place [] = refl
unplaced place (l ∷ ls) = ap (λ r. l ∷ r) (unplaced (place + length l + 1) ls)

-- a text from one place up to another
between : (text : List ℕ) (from to : ℕ) → drop from (take to text) ≡ take (to - from) (drop from text)
between text from to =
    ⊎_elim
    (λ is. let order = leb-true from to is in
    let whole : to ≡ from + (to - from) = omega arith in ap (λ k. drop from (take k text)) whole ∙ drop-take from (to - from) text)
    (λ isnt. let order = leb-false from to isnt in
    let none : 0 ≡ to - from = omega arith in
    drop_all from (take to text) (omega (arith, length-take to text)) ∙ ap (λ k. take k (drop from text)) none)
    (cases_Bool (leb from to))

-- what is read of a section does not depend on how the section is lent
pub as_section : {X : Type 0} (f : ℕ → List ℕ → X) (bytes text : List ℕ) (from to next : ℕ) → text ≡ take to bytes → next ≡ from
    → f next (drop next text) ≡ f from (take (to - from) (drop from bytes))
as_section f bytes text from to next lent start = (λ i. f (start i) (drop (start i) (lent i))) ∙ ap (f from) (between bytes from to)
