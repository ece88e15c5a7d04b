-- Labels entered in cells, each once.
use Rattle.std.specs.Prelude.{◌≡◌, ℕ, ◌-◌, ◌*◌, ◌/◌, ◌%◌, ◌^◌, ◌≤◌, min, Bool, ◌⊎◌, List, map, length, drop, Some, None, Option, ◌==◌}
use Rattle.intern.specs.declared.cell.Cell.{Cell}
use Rattle.intern.specs.Index.{items, Indexed}
use Rattle.tableau.specs.Labels.{Label}
use Rattle.tableau.specs.Positions.{In, Distinct}
use Rattle.successors.specs.declared.label.NextLabel.{NextLabel}

-- two next labels are equal when they have the same formulas
abbrev pub same_label : NextLabel → NextLabel → Bool
same_label x y = x.formulas == y.formulas

-- the formulas as a number below 2 ^ 64 whose greatest bits depend on them all
abbrev pub mixed : Label → ℕ
mixed L = L * 11400714819323198485 % 2 ^ 64

-- the bits of the mixed number, the greatest first
abbrev pub label_turn : NextLabel → (depth : ℕ) → Bool
label_turn x depth = mixed x.formulas / 2 ^ (63 - depth % 64) % 2 == 1

-- the labels in the first n cells
abbrev pub labels : List (Cell NextLabel) → (n : ℕ) → List Label
labels cells n = map (λ x. x.formulas) (items cells n)

-- how many labels the cells can take: as many as there are cells whose number fits a link
abbrev pub capacity : List (Cell NextLabel) → ℕ
capacity cells = min (length cells) (2 ^ 32)

-- the first n cells hold labels that their links index
pub record Taken (cells : List (Cell NextLabel)) (n : ℕ) : Type 0 where
  pub room : n ≤ capacity cells
  pub indexed : Indexed same_label label_turn cells n

-- Labels of P were added: the first n cells held some, the first m now hold them and labels of P, each once, and the cells past them are as before.
pub record Grown (P : Label → Type 0) (cells after : List (Cell NextLabel)) (n m : ℕ) : Type 0 where
  pub rises : n ≤ m
  pub kept : (q : Label) → In q (labels cells n) → In q (labels after m)
  pub new : (q : Label) → In q (labels after m) → In q (labels cells n) ⊎ P q
  pub taken : Taken after m
  pub same_length : length after ≡ length cells
  pub rest_kept : drop m after ≡ drop m cells

-- all labels of P are in, or the cells are full and some label of P is not
abbrev pub Filled : (Label → Type 0) → (cells after : List (Cell NextLabel)) → (n : ℕ) → Option ℕ → Type 0
Filled P cells after n (Some m) = Grown P cells after n m × ((q : Label) → P q → In q (labels after m))
Filled P cells after n None =
    Grown P cells after n (capacity cells) × ((q : Label) × P q × (In q (labels after (capacity cells)) → ⊥))

-- The first m cells hold labels of P alone, each once, and their links index them; the cells past them are as before.
pub record Entered (P : Label → Type 0) (cells after : List (Cell NextLabel)) (m : ℕ) : Type 0 where
  pub only : (q : Label) → In q (labels after m) → P q
  pub apart : Distinct (labels after m)
  pub indexed : Indexed same_label label_turn after m
  pub same_length : length after ≡ length cells
  pub rest_kept : drop m after ≡ drop m cells

-- With a count, that many cells hold exactly the labels of P, each once.
-- With none, all the cells that can be linked hold labels of P, each once, and there is another.
abbrev pub Lists : (Label → Type 0) → (cells after : List (Cell NextLabel)) → Option ℕ → Type 0
Lists P cells after (Some m) = Entered P cells after m × ((q : Label) → P q → In q (labels after m))
Lists P cells after None = Entered P cells after (capacity cells) × ((q : Label) × P q × (In q (labels after (capacity cells)) → ⊥))
