-- How letters are counted, and what a name is.
use Rattle.std.proofs.Common.{◌≡◌, ℕ, zero, suc, ◌<◌, ◌≤◌, true, false, cond, ◌&&◌, leb, List, [], ◌∷◌, ◌++◌, length, get_or, take, drop, Some, None, sym, refl, ap, ◌∙◌, ⊎_elim, arith}
use Rattle.std.specs.Char.{is_ascii_lowercase}
use Rattle.std.proofs.lemmas.List.{take_at, drop_at, take-append-drop, length-take-le}
use Rattle.std.proofs.lemmas.Bool.{cond-true, cond-false, cases_Bool, and_parts, and_from, le-leb, leb-true}
use Rattle.items.specs.Names.{letters_in, named, name_read, Naming, begins_with_letter, all_letters, Names, NameLaw}

pub letters_within : (text : List ℕ) → letters_in text ≤ length text
letters_within [] = omega arith
letters_within (b ∷ bs) =
    let more = letters_within bs in
    elim (is_ascii_lowercase b) as (λ t. cond t (suc (letters_in bs)) 0 ≤ suc (length bs)) [ true ↦ omega arith | false ↦ omega arith ]

-- where the letters end, by its place
pub letters_end : (text : List ℕ) (i : ℕ) → i ≤ length text → ((k : ℕ) → k < i → is_ascii_lowercase (get_or text k 0) ≡ true) → (i < length text → is_ascii_lowercase (get_or text i 0) ≡ false) → letters_in text ≡ i
letters_end [] i within before stops = omega arith
letters_end (b ∷ bs) zero within before stops = cond-false _ _ _ (stops (omega arith))
letters_end (b ∷ bs) (suc i) within before stops =
    cond-true _ _ _ (before 0 (omega arith)) ∙ ap suc (letters_end bs i (omega arith) (λ k below. before (suc k) (omega arith)) (λ inside. stops (omega arith)))

-- the letters in front are letters, and no letter follows them
front_letters : (bs : List ℕ) → all_letters (take (letters_in bs) bs) ≡ true
front_letters [] = refl
front_letters (b ∷ bs) =
    let more = front_letters bs in
    ⊎_elim
    (λ is. ap (λ n. all_letters (take n (b ∷ bs))) (cond-true _ _ _ is) ∙ and_from (is_ascii_lowercase b) _ is more)
    (λ is. ap (λ n. all_letters (take n (b ∷ bs))) (cond-false _ _ _ is))
    (cases_Bool (is_ascii_lowercase b))

front_ends : (bs : List ℕ) → begins_with_letter (drop (letters_in bs) bs) ≡ false
front_ends [] = refl
front_ends (b ∷ bs) =
    let more = front_ends bs in
    ⊎_elim
    (λ is. ap (λ n. begins_with_letter (drop n (b ∷ bs))) (cond-true _ _ _ is) ∙ more)
    (λ is. ap (λ n. begins_with_letter (drop n (b ∷ bs))) (cond-false _ _ _ is) ∙ is)
    (cases_Bool (is_ascii_lowercase b))

counted : (name rest : List ℕ) → all_letters name ≡ true → begins_with_letter rest ≡ false → letters_in (name ++ rest) ≡ length name
counted [] [] all ends = refl
counted [] (b ∷ bs) all ends = cond-false _ _ _ ends
counted (b ∷ bs) rest all ends =
    let p = and_parts (is_ascii_lowercase b) (all_letters bs) all in
    cond-true _ _ _ p.0 ∙ ap suc (counted bs rest p.1 ends)

names_read : (bs name rest : List ℕ) → Names bs name rest → name_read bs ≡ Some (name, rest)
names_read bs name rest n =
    let size : letters_in bs ≡ length name = ap letters_in n.text ∙ counted name rest n.letters n.ends in
    (λ i. named (size i) (n.text i)) ∙
    cond-true _ _ _ (and_from _ _ (le-leb 1 (length name) n.some) (le-leb (length name) 8 n.few)) ∙
    (λ i. Some (take_at name rest (length name) refl i, drop_at name rest (length name) refl i))

read_names : (bs name rest : List ℕ) → name_read bs ≡ Some (name, rest) → Names bs name rest
read_names bs name rest e =
    ⊎_elim
    (λ is.
    let whole : ◌≡◌ {A = Naming} (Some (take (letters_in bs) bs, drop (letters_in bs) bs)) (Some (name, rest)) = sym (cond-true _ _ _ is) ∙ e in
    let pair : ◌≡◌ {A = List ℕ × List ℕ} (take (letters_in bs) bs, drop (letters_in bs) bs) (name, rest) = cc in
    let front = ap (λ (p : List ℕ × List ℕ). p.0) pair in
    let back = ap (λ (p : List ℕ × List ℕ). p.1) pair in
    let bounds = and_parts (leb 1 (letters_in bs)) (leb (letters_in bs) 8) is in
    let size = sym (ap length front) ∙ length-take-le (letters_in bs) bs (letters_within bs) in
    record {
      text = sym (take-append-drop (letters_in bs) bs) ∙ (λ i. front i ++ back i);
      letters = sym (ap all_letters front) ∙ front_letters bs;
      some = omega (arith, size, leb-true _ _ bounds.0);
      few = omega (arith, size, leb-true _ _ bounds.1);
      ends = sym (ap begins_with_letter back) ∙ front_ends bs;
    })
    (λ is. let never : ◌≡◌ {A = Naming} None (Some (name, rest)) = sym (cond-false (leb 1 (letters_in bs) && leb (letters_in bs) 8) _ None is) ∙ e in let z : ◌≡◌ {A = ℕ} 0 1 = cc in absurd (omega arith))
    (cases_Bool (leb 1 (letters_in bs) && leb (letters_in bs) 8))

pub name_law : NameLaw
name_law bs name rest = (read_names bs name rest, names_read bs name rest)
