-- Reading a history back, from its last entry to its first.
use Rattle.std.proofs.Common.{◌≡◌, ℕ, zero, suc, ◌-◌, ◌<◌, ◌≤◌, List, [], ◌∷◌, ◌++◌, length, get_or, drop, set, sym, refl, ap, ◌∙◌, subst, append_assoc, arith}
use Rattle.std.proofs.lemmas.List.{get_or_default, length-set}
use Rattle.intern.specs.declared.cell.Cell.{Cell}
use Rattle.intern.specs.Links.{leaf}
use Rattle.search.specs.declared.row.Row.{Row}
use Rattle.search.specs.Trails.{came_from, trail, Backed}

-- from a place on, a list with that entry set has the entry first
pub drop_set_here : (h : List ℕ) (n v : ℕ) → n < length h → drop n (set h n v) ≡ v ∷ drop (suc n) h
drop_set_here [] n v lt = absurd (omega arith)
drop_set_here (x ∷ h) zero v lt = refl
drop_set_here (x ∷ h) (suc n) v lt = drop_set_here h n v (omega arith)

-- what is written so far, with what is still to be written before it
pub record Back (xs : List (Cell Row)) (entry : List ℕ) (row : Row) (depth : ℕ) (h : List ℕ) (at : Row) (left : ℕ) : Type 0 where
  pub short : left < length h
  pub backed : Backed xs left at
  pub joined : trail xs left at ++ drop (suc left) h ≡ trail xs depth row ++ drop (suc depth) entry

pub back_starts : (xs : List (Cell Row)) (entry : List ℕ) (row : Row) (depth : ℕ) → depth < length entry → Backed xs depth row
    → Back xs entry row depth entry row depth
back_starts xs entry row depth lt b = record { short = lt; backed = b; joined = refl }

module _ (xs : List (Cell Row)) (entry : List ℕ) (row : Row) (depth : ℕ) (h : List ℕ) (at : Row) where
  -- the row before is there
  pub back_there : (left : ℕ) → 0 < left → Back xs entry row depth h at left → at.from < length xs
  back_there zero pos v = absurd (omega arith)
  back_there (suc n) pos v = v.backed.0

  pub back_more : (left : ℕ) (e : Cell Row) → 0 < left → Back xs entry row depth h at left
      → Back xs entry row depth (set h left at.code) (get_or xs at.from e).item (left - 1)
  back_more zero e pos v = absurd (omega arith)
  back_more (suc n) e pos v =
      let less : at.from < length xs = v.backed.0 in
      let size = length-set h (suc n) at.code in
      let same : came_from xs at ≡ (get_or xs at.from e).item =
      ap (λ (c : Cell Row). c.item) (get_or_default xs at.from (leaf at) e less) in
      let one : n ≡ suc n - 1 = omega arith in
      subst (λ (m : ℕ). Back xs entry row depth (set h (suc n) at.code) (get_or xs at.from e).item m) one
      (subst (λ (r : Row). Back xs entry row depth (set h (suc n) at.code) r n) same
      (record {
        short = omega (arith, v.short);
        backed = v.backed.1;
        joined =
            ap (λ (t : List ℕ). trail xs n (came_from xs at) ++ t) (drop_set_here h (suc n) at.code v.short)
            ∙ sym (append_assoc (trail xs n (came_from xs at)) (at.code ∷ []) (drop (suc (suc n)) h))
            ∙ v.joined;
      }))

  pub back_ends : (left : ℕ) → left ≤ 0 → Back xs entry row depth h at left
      → set h 0 at.code ≡ trail xs depth row ++ drop (suc depth) entry
  back_ends zero none v = drop_set_here h 0 at.code v.short ∙ v.joined
  back_ends (suc n) none v = absurd (omega arith)
