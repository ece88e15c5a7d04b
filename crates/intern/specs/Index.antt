-- When the links of cells are an index of their items.
use Rattle.std.specs.Prelude.{◌≡◌, ℕ, suc, Bool, true, false, cond, ◌&&◌, List, [], ◌∷◌, map, length, take, Some, None, Option, ◌==◌, nat_le, nat_lt}
use Rattle.intern.specs.declared.cell.Cell.{Cell}
use Rattle.intern.specs.Walk.{lookup}

-- the items of the first n cells
abbrev pub items : {R : Type 0} → List (Cell R) → ℕ → List R
items cells n = map (λ c. c.item) (take n cells)

-- one place further on
abbrev pub further : Option ℕ → Option ℕ
further (Some k) = Some (suc k)
further None = None

-- the place of the first of the records that equals r
abbrev pub place : {R : Type 0} → (R → R → Bool) → R → List R → Option ℕ
place alike r [] = None
place alike r (x ∷ xs) = cond (alike x r) (Some 0) (further (place alike r xs))

-- a link from cell k is missing, or leads to a later cell among the first n
abbrev pub leads_on : (n k : ℕ) → Option ℕ → Bool
leads_on n k (Some to) = nat_lt k to && nat_lt to n
leads_on n k None = true

-- what was found is cell k
abbrev pub is_cell : (k : ℕ) → Option ℕ → Bool
is_cell k (Some j) = j == k
is_cell k None = false

-- the links of cell k lead on, and the walk for its own item comes to it
abbrev pub cell_indexed : {R : Type 0} → (R → R → Bool) → (R → ℕ → Bool) → List (Cell R) → (n k : ℕ) → Cell R → Bool
cell_indexed alike turns cells n k c =
    leads_on n k c.left && (leads_on n k c.right && is_cell k (lookup alike turns cells n c.item))

-- the same of each cell of a list, from cell k on
unfoldable pub indexed_from : {R : Type 0} → (R → R → Bool) → (R → ℕ → Bool) → List (Cell R) → (n k : ℕ) → List (Cell R) → Bool
indexed_from alike turns cells n k [] = true
indexed_from alike turns cells n k (c ∷ cs) = cell_indexed alike turns cells n k c && indexed_from alike turns cells n (suc k) cs

-- The links of the first n cells are an index of their items: each link leads to a later cell among them,
-- and the walk for a cell's own item comes to that cell.
abbrev pub Indexed : {R : Type 0} → (R → R → Bool) → (R → ℕ → Bool) → List (Cell R) → (n : ℕ) → Type 0
Indexed alike turns cells n = (nat_le n (length cells) && indexed_from alike turns cells n 0 (take n cells)) ≡ true
