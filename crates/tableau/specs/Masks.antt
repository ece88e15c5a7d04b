-- The expansion and the next label computed on numbers, in one pass over the book from its last formula to its first.
use Rattle.std.specs.Prelude.{ℕ, zero, suc, cond, length}
use Rattle.ltlf.specs.Contents.{Contents}
use Rattle.judge.specs.Formulas.{node_at}
use Rattle.tableau.specs.Labels.{Label, has, adding}
use Rattle.tableau.specs.Expansion.{Choice, parts, handed_on}

-- the label with the parts of its members below k, the greatest member first
abbrev pub expanded_below : Contents → Choice → (k : ℕ) → Label → Label
expanded_below b κ zero S = S
expanded_below b κ (suc k) S = expanded_below b κ k (cond (has S k) (adding (parts (node_at b k) (κ k)) S) S)

-- the expansion of a label
abbrev pub expanded : Contents → Choice → Label → Label
expanded b κ L = expanded_below b κ (length b.nodes) L

-- what the members below k hand on
abbrev pub handed_below : Contents → Choice → (k : ℕ) → Label → Label
handed_below b κ zero S = 0
handed_below b κ (suc k) S =
    cond (has S k) (adding (handed_on k (node_at b k) (κ k)) (handed_below b κ k S)) (handed_below b κ k S)

-- the next label
abbrev pub next_of : Contents → Choice → Label → Label
next_of b κ L = handed_below b κ (length b.nodes) (expanded b κ L)
