-- What a trailer that was read says of its places.
use Rattle.std.proofs.Common.{◌≡◌, ℕ, ◌-◌, ◌≤◌, true, ◌&&◌, leb, List, length, take, drop, Some, None, Option, sym, ap, ◌∙◌, ⊎_elim, arith}
use Rattle.std.proofs.lemmas.Bool.{cond-true, cond-false, cases_Bool, and_parts, leb-true}
use Rattle.items.specs.Lines.{last_start}
use Rattle.items.specs.Trailers.{starts_line, points_back, checked, trailer_read, trailer_in}

-- the places of the rules and of the notes lie in order, past the first byte and not past the trailer
pub record Ordered (own r n : ℕ) : Type 0 where
  pub some : 1 ≤ r
  pub sorted : r ≤ n
  pub back : n ≤ own

pub in_order : (text : List ℕ) (own r n : ℕ) → points_back text own r n ≡ true → Ordered own r n
in_order text own r n e =
    let p = and_parts (leb 1 r) (leb r n && (leb n own && (starts_line text r && starts_line text n))) e in
    let q = and_parts (leb r n) (leb n own && (starts_line text r && starts_line text n)) p.1 in
    let s = and_parts (leb n own) (starts_line text r && starts_line text n) q.1 in
    record { some = leb-true _ _ p.0; sorted = leb-true _ _ q.0; back = leb-true _ _ s.0 }

checked_bounds : (text : List ℕ) (own : ℕ) (o : Option (ℕ × ℕ)) (r n : ℕ) → checked text own o ≡ Some (r, n) → Ordered own r n
checked_bounds text own None r n e = let z : ◌≡◌ {A = ℕ} 0 1 = cc in absurd (omega arith)
checked_bounds text own (Some t) r n e =
    ⊎_elim
    (λ is.
    let same : ◌≡◌ {A = Option (ℕ × ℕ)} (Some t) (Some (r, n)) = sym (cond-true _ _ _ is) ∙ e in
    let pair : ◌≡◌ {A = ℕ × ℕ} t (r, n) = cc in
    in_order text own r n (sym (ap (λ (p : ℕ × ℕ). points_back text own p.0 p.1) pair) ∙ is))
    (λ is. let never : ◌≡◌ {A = Option (ℕ × ℕ)} None (Some (r, n)) = sym (cond-false _ _ _ is) ∙ e in let z : ◌≡◌ {A = ℕ} 0 1 = cc in absurd (omega arith))
    (cases_Bool (points_back text own t.0 t.1))

pub trailer_bounds : (text : List ℕ) (r n : ℕ) → Some (r, n) ≡ trailer_in text → Ordered (last_start text) r n
trailer_bounds text r n e = checked_bounds text (last_start text) (trailer_read (take (length text - 1 - last_start text) (drop (last_start text) text))) r n (sym e)
