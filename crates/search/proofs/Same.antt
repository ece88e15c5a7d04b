-- Rows that hold one position.
use Rattle.std.proofs.Common.{◌≡◌, ℕ, Bool, true, sym, ap, ◌∙◌}
use Rattle.std.proofs.lemmas.Bool.{and_parts, and_from, eqb-true, eq-eqb}
use Rattle.tableau.specs.Positions.{Position}
use Rattle.search.specs.declared.row.Row.{Row}
use Rattle.search.specs.Rows.{position, same_position, row_turn}

pub same_is : (x y : Row) → same_position x y ≡ true → position x ≡ position y
same_is x y e =
    let a = and_parts _ _ e in
    let b = and_parts _ _ a.1 in
    let p : x.place ≡ y.place = eqb-true _ _ a.0 in
    let l : x.label ≡ y.label = eqb-true _ _ b.0 in
    let c : x.code ≡ y.code = eqb-true _ _ b.1 in
    cc

pub is_same : (x y : Row) → position x ≡ position y → same_position x y ≡ true
is_same x y e =
    and_from _ _ (eq-eqb _ _ (ap (λ (p : Position). p.place) e))
    (and_from _ _ (eq-eqb _ _ (ap (λ (p : Position). p.label) e)) (eq-eqb _ _ (ap (λ (p : Position). p.code) e)))

pub same_back : (x y : Row) → same_position x y ≡ true → same_position y x ≡ true
same_back x y e = is_same y x (sym (same_is x y e))

pub same_through : (x y z : Row) → same_position x y ≡ true → same_position y z ≡ true → same_position x z ≡ true
same_through x y z e f = is_same x z (same_is x y e ∙ same_is y z f)

-- the key of a position
abbrev turn_of : Position → ℕ → Bool
turn_of p d = row_turn (record { place = p.place; code = p.code; label = p.label; from = 0 }) d

pub same_turns : (x y : Row) → same_position x y ≡ true → (d : ℕ) → row_turn x d ≡ row_turn y d
same_turns x y e d = ap (λ (p : Position). turn_of p d) (same_is x y e)
