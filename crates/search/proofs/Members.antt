-- Lists by their entries.
use Rattle.std.proofs.Common.{◌≡◌, ℕ, zero, suc, ◌<◌, ◌≤◌, List, [], ◌∷◌, length, get_or, drop, sym, refl, inl, inr, arith}
use Rattle.tableau.specs.Positions.{In, Distinct}

pub in_at : {X : Type 0} (l : List X) (k : ℕ) (d : X) → k < length l → In (get_or l k d) l
in_at [] k d lt = absurd (omega arith)
in_at (x ∷ l) zero d lt = inl refl
in_at (x ∷ l) (suc k) d lt = inr (in_at l k d (omega arith))

pub at_in : {X : Type 0} (e : X) (l : List X) → In e l → (k : ℕ) × (k < length l) × ((d : X) → get_or l k d ≡ e)
at_in e [] i = absurd i
at_in e (x ∷ l) (inl z) = (0, omega arith, λ d. sym z)
at_in e (x ∷ l) (inr i) = let r = at_in e l i in (suc r.0, omega (arith, r.1), r.2)

pub distinct_from : {X : Type 0} (l : List X) → ((i j : ℕ) (d : X) → i < j → j < length l → get_or l i d ≡ get_or l j d → ⊥) → Distinct l
distinct_from [] apart = tt
distinct_from (x ∷ l) apart = (
  (λ i. let r = at_in x l i in apart 0 (suc r.0) x (omega arith) (omega (arith, r.1)) (sym (r.2 x))),
  distinct_from l (λ i j d lij ljn same. apart (suc i) (suc j) d (omega arith) (omega arith) same),
)

-- lists of one length that agree from n on
pub same_rest : {X : Type 0} (xs ys : List X) (n : ℕ) → length ys ≡ length xs → ((k : ℕ) (d : X) → n ≤ k → get_or ys k d ≡ get_or xs k d) → drop n ys ≡ drop n xs
same_rest [] [] zero e same = refl
same_rest [] [] (suc n) e same = refl
same_rest [] (y ∷ ys) n e same = absurd (omega arith)
same_rest (x ∷ xs) [] n e same = absurd (omega arith)
same_rest (x ∷ xs) (y ∷ ys) zero e same =
    let first : y ≡ x = same 0 x (omega arith) in
    let others : ys ≡ xs = same_rest xs ys 0 (omega arith) (λ k d h. same (suc k) d (omega arith)) in
    cc
same_rest (x ∷ xs) (y ∷ ys) (suc n) e same = same_rest xs ys n (omega arith) (λ k d h. same (suc k) d (omega arith))
