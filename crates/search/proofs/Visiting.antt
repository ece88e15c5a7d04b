-- What may stand at a place.
use Rattle.std.proofs.Common.{◌≡◌, ℕ, zero, suc, ◌+◌, ◌-◌, ◌<◌, ◌≤◌, ◌↔◌, List, [], ◌∷◌, ◌++◌, length, get_or, Some, None, Option, sym, refl, ◌∙◌, subst, length-append, arith}
use Rattle.std.proofs.lemmas.List.{get_or_default}
use Rattle.std.proofs.lemmas.Iterator.{YieldsList-from_range}
use Rattle.std.proofs.lemmas.Iterator.Consumers.{YieldsList-turn, YieldsList-end}
use Rattle.std.proofs.lemmas.List.FromFn.{length-range_with_len, get_or-range_with_len}
use Rattle.std.specs.declared.ops.Range.{Range}
use Rattle.std.specs.Iterator.{Yields}
use Rattle.std.proofs.iter.Yields.{nat_range_steps}
use Rattle.tableau.specs.Positions.{Visited}
use Rattle.search.specs.Questions.{Allowed}

visited_past : (codes : ℕ) (kept : List ℕ) (p c : ℕ) → length kept ≤ p → Visited codes kept p c ↔ (c < codes)
visited_past codes [] p c h = ((λ v. v), (λ v. v))
visited_past codes (k ∷ ks) zero c h = absurd (omega arith)
visited_past codes (k ∷ ks) (suc p) c h = visited_past codes ks p c (omega arith)

visited_kept : (codes : ℕ) (kept : List ℕ) (p c : ℕ) → p < length kept → Visited codes kept p c ↔ (c ≡ get_or kept p 0)
visited_kept codes [] p c h = absurd (omega arith)
visited_kept codes (k ∷ ks) zero c h = ((λ v. v), (λ v. v))
visited_kept codes (k ∷ ks) (suc p) c h = visited_kept codes ks p c (omega arith)

pub allowed_past : (codes : ℕ) (kept : List ℕ) (p : ℕ) → length kept ≤ p → Allowed codes kept p (record { start = 0; end = codes })
allowed_past codes kept p h = (
  omega arith,
  omega arith,
  λ c.
      ((λ v. (omega arith, (visited_past codes kept p c h).0 v)), (λ v. (visited_past codes kept p c h).1 v.1)),
)

allowed_kept : (codes : ℕ) (kept : List ℕ) (p : ℕ) → p < length kept → get_or kept p 0 < codes
    → Allowed codes kept p (record { start = get_or kept p 0; end = get_or kept p 0 + 1 })
allowed_kept codes kept p h k = (
  omega arith,
  omega arith,
  λ c. (
    (λ v. let e : c ≡ get_or kept p 0 = (visited_kept codes kept p c h).0 v in (omega arith, omega arith)),
    (λ v. (visited_kept codes kept p c h).1 (omega (arith, v.0, v.1))),
  ),
)

-- by what is read at a place of the kept visits
pub allowed_read : (codes : ℕ) (kept : List ℕ) (p c : ℕ) → p < length kept → c ≡ get_or kept p c → ((i : ℕ) → i < length kept → get_or kept i 0 < codes)
    → Allowed codes kept p (record { start = c; end = c + 1 })
allowed_read codes kept p c within read below =
    let is : c ≡ get_or kept p 0 = read ∙ get_or_default kept p c 0 within in
    subst (λ (x : ℕ). Allowed codes kept p (record { start = x; end = x + 1 })) (sym is) (allowed_kept codes kept p within (below p within))

-- A LOOP OVER A RANGE

-- after n numbers it yields a + n
pub range_turn : (a b : ℕ) {s : Range ℕ} → s ≡ record { start = a; end = b } → (xs : List ℕ) (t : Range ℕ) → Yields nat_range_steps s xs t
    → (r : Option ℕ) (u : Range ℕ) (x : ℕ) → r ≡ Some x → nat_range_steps t r u → (a + length xs ≡ x) × (x < b)
range_turn a b is xs t y r u x some step =
    let turn = YieldsList-turn (YieldsList-from_range a b (b - a) is refl) xs t y r u x some step in
    let many = length-range_with_len a (b - a) in
    let less : length xs < b - a = omega (arith, turn.0, many) in
    let at : x ≡ a + length xs = turn.1 ∙ get_or-range_with_len a (b - a) (length xs) x less in
    (sym at, omega arith)

-- at its end it has yielded all
pub range_end : (a b : ℕ) {s : Range ℕ} → s ≡ record { start = a; end = b } → (xs : List ℕ) (t : Range ℕ) → Yields nat_range_steps s xs t
    → (r : Option ℕ) (u : Range ℕ) → a ≤ b → r ≡ None → nat_range_steps t r u → a + length xs ≡ b
range_end a b is xs t y r u le none step =
    let end = YieldsList-end (YieldsList-from_range a b (b - a) is refl) xs t y r u none step in
    let many = length-range_with_len a (b - a) in
    omega (arith, end.1, many)

pub range_more : (a n : ℕ) (xs : List ℕ) (x : ℕ) → a + length xs ≡ n → n + 1 ≡ a + length (xs ++ x ∷ [])
range_more a n xs x at = let many = length-append xs (x ∷ []) in omega arith
