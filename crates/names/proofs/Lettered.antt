-- Texts that are names, byte by byte.
use Rattle.std.proofs.Common.{◌≡◌, ℕ, ◌+◌, ◌-◌, ◌≤◌, true, ◌&&◌, ltb, leb, List, ◌++◌, length, take, drop, replicate, Some, sym, ap, ◌∙◌, arith}
use Rattle.std.proofs.lemmas.List.{take_at, length-append, length-drop, drop-replicate}
use Rattle.std.proofs.lemmas.Slice.{drop-append-drop}
use Rattle.std.proofs.lemmas.Bool.{and_parts, ltb-true, leb-true, cond-true}
use Rattle.names.specs.Letters.{all_letters, is_name}
use Rattle.names.specs.Texts.{named}

-- what it is to be a name
pub name_parts : (text : List ℕ) → is_name text ≡ true → (1 ≤ length text) × (length text ≤ 8) × (all_letters text ≡ true)
name_parts text e =
    let p = and_parts (ltb 0 (length text)) (leb (length text) 8 && all_letters text) e in
    let q = and_parts (leb (length text) 8) (all_letters text) p.1 in
    (ltb-true 0 (length text) p.0, leb-true (length text) 8 q.0, q.1)

-- a text at the front of an array
pub front_is : (text copied rest : List ℕ) → copied ≡ text → take (length text) (copied ++ rest) ≡ text
front_is text copied rest e = take_at copied rest (length text) (ap length e) ∙ e

-- past a text at the front of an array of zeros are zeros
pub blank_past : (text copied : List ℕ) → copied ≡ text → drop (length text) (copied ++ drop (length text) (replicate 8 0)) ≡ replicate (8 - length text) 0
blank_past text copied e =
    drop-append-drop (length text) (replicate 8 0) copied (length text) (omega arith) (ap length e) ∙ drop-replicate (length text) 8 0

pub named_is : (text seen-text : List ℕ) → is_name text ≡ true → seen-text ≡ text → Some seen-text ≡ named text
named_is text seen-text e same = ap (λ (t : List ℕ). Some t) same ∙ sym (cond-true _ _ _ e)

-- the letters after a text was copied to their front
pub still_whole : (text copied letters : List ℕ) → copied ≡ text → length text ≤ length letters → length (copied ++ drop (length text) letters) ≡ length letters
still_whole text copied letters e fits =
    length-append copied (drop (length text) letters) ∙ (
    let cut : length (drop (length text) letters) ≡ length letters - length text = length-drop (length text) letters in
    let same : length copied ≡ length text = ap length e in
    let sum : length copied + length (drop (length text) letters) ≡ length letters = omega arith in
    sum
    )
