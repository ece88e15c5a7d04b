-- Names that are found and added.
use Rattle.std.proofs.Common.{◌≡◌, ℕ, zero, suc, ◌+◌, ◌^◌, ◌<◌, ◌≤◌, Bool, true, false, cond, not, ltb, List, [], ◌∷◌, map, length, get_or, replicate, min, is_some, Some, None, Ok, Err, Option, sym, refl, ap, ◌∙◌, subst, arith}
use Rattle.std.proofs.lemmas.List.{length-map, map_push, get_or-map}
use Rattle.std.proofs.lemmas.Bool.{cond-true, cond-false, and_from, and_left, and_right}
use Rattle.std.proofs.lemmas.Bool.Decides.{nat_tests}
use Rattle.std.specs.Str.{bytes_eq}
use Rattle.intern.proofs.Growth.{indexed_one}
use Rattle.intern.proofs.Index.{to_index, indexed_none}
use Rattle.intern.proofs.Indexes.{false_from, items_apart}
use Rattle.intern.proofs.Places.{length_items, place_map}
use Rattle.intern.proofs.Slots.{slot_found, slot_added, slot_refused, place_below}
use Rattle.intern.specs.declared.cell.Cell.{Cell}
use Rattle.intern.specs.declared.Slot.TheVariants.{Found, Added}
use Rattle.intern.specs.declared.EntryError.{EntryError}
use Rattle.intern.specs.Entry.{room}
use Rattle.intern.specs.Index.{Indexed, items, place, further}
use Rattle.intern.specs.Links.{leaf}
use Rattle.intern.specs.Settled.{Settled}
use Rattle.names.specs.Same.{never_named, same_itself, same_back, same_through, same_turns, same_from_text, text_is_name}
use Rattle.names.specs.declared.name.Name.{Name}
use Rattle.names.specs.declared.roster.Roster.{Roster}
use Rattle.names.specs.Letters.{is_name}
use Rattle.names.specs.Rosters.{texts, may_add, number_added, texts_added}
use Rattle.names.specs.Texts.{text_of, named, same_text, name_turn}

named_by : (text name : List ℕ) (b : Bool) → is_name text ≡ b → Some name ≡ cond b (Some text) None → (is_name text ≡ true) × (name ≡ text)
named_by text name true e is = (e, cc)
named_by text name false e is = let z : ◌≡◌ {A = ℕ} 0 1 = cc in absurd (omega arith)

-- the text of a name that was made
pub named_some : (text name : List ℕ) → Some name ≡ named text → (is_name text ≡ true) × (name ≡ text)
named_some text name is = named_by text name (is_name text) refl is

unnamed_by : (text : List ℕ) (b : Bool) → is_name text ≡ b → ◌≡◌ {A = Option (List ℕ)} None (cond b (Some text) None) → is_name text ≡ false
unnamed_by text true e is = let z : ◌≡◌ {A = ℕ} 0 1 = cc in absurd (omega arith)
unnamed_by text false e is = e

-- where no name was made, the text is none
pub named_none : (text : List ℕ) → None ≡ named text → is_name text ≡ false
named_none text is = unnamed_by text (is_name text) refl is

-- a text that is no name does not stand among names
pub none_named : (text : List ℕ) → is_name text ≡ false → (xs : List Name) → place bytes_eq text (map text_of xs) ≡ None
none_named text isnt [] = refl
none_named text isnt (x ∷ xs) =
    cond-false _ _ _ (false_from (bytes_eq (text_of x) text) (never_named x text isnt)) ∙ ap further (none_named text isnt xs)

-- a name in every cell: the first is indexed, where there is one
pub first_indexed : (n : ℕ) (first : Cell Name) (name : Name) → first ≡ leaf name → Indexed same_text name_turn (replicate n first) (min n 1)
first_indexed zero first name is = indexed_none same_text name_turn []
first_indexed (suc n) first name is =
    let one : 1 ≡ min (suc n) 1 = omega arith in
    subst (λ (k : ℕ). Indexed same_text name_turn (first ∷ replicate n first) k) one
    (subst (λ (c : Cell Name). Indexed same_text name_turn (c ∷ replicate n first) 1) (sym is) (indexed_one same_text name_turn same_itself name (replicate n first)))

-- where numbers fit a link, room is left below n
pub room_is : (k n : ℕ) → n ≤ 2 ^ 32 → room k n ≡ ltb k n
room_is k n le = grind (arith, nat_tests)

all_names : (xs : List Name) (k : ℕ) → k < length (map text_of xs) → is_name (get_or (map text_of xs) k []) ≡ true
all_names [] k lt = absurd (omega arith)
all_names (x ∷ xs) zero lt = text_is_name x
all_names (x ∷ xs) (suc k) lt = all_names xs k (omega arith)

first_name : (xs : List Name) (k : ℕ) → k < length xs → Name
first_name [] k lt = absurd (omega arith)
first_name (x ∷ xs) k lt = x

module _ {N : ℕ} (r : Roster N) where
  abbrev roster_names : List Name
  roster_names = items r.cells r.count

  filled : length roster_names ≡ r.count
  filled = length_items r.cells r.count (omega (arith, r.whole, r.few))

  pub texts_length : length (texts r) ≡ r.count
  texts_length = length-map roster_names text_of ∙ filled

  -- at most N names stand
  pub texts_few : length (texts r) ≤ N
  texts_few = omega (arith, texts_length, r.few)

  pub texts_fit : (k : ℕ) → k < length (texts r) → is_name (get_or (texts r) k []) ≡ true
  texts_fit = all_names roster_names

  apart_at : (e : Name) (j k : ℕ) → j < length roster_names → k < length roster_names → get_or (texts r) j [] ≡ get_or (texts r) k [] → j ≡ k
  apart_at e j k lt-j lt-k same =
      items_apart same_text name_turn same_back same_through same_turns r.cells r.count e
      (to_index same_text name_turn r.cells r.count r.indexed) j k (omega (arith, filled, lt-j)) (omega (arith, filled, lt-k))
      (same_from_text (get_or roster_names j e) (get_or roster_names k e)
      (sym (get_or-map text_of roster_names j e [] lt-j) ∙ same ∙ get_or-map text_of roster_names k e [] lt-k))

  -- different places have different names
  pub texts_differ : (j k : ℕ) → j < length (texts r) → k < length (texts r) → get_or (texts r) j [] ≡ get_or (texts r) k [] → j ≡ k
  texts_differ j k lt-j lt-k same =
      let long = length-map roster_names text_of in
      apart_at (first_name roster_names j (omega (arith, long, lt-j))) j k (omega (arith, long, lt-j)) (omega (arith, long, lt-k)) same

  place_is : (name : Name) → place same_text name roster_names ≡ place bytes_eq (text_of name) (texts r)
  place_is name = place_map same_text bytes_eq text_of (λ x y. refl) name roster_names

  -- the place of a name is the place of its text
  pub numbered : (name : Name) (text : List ℕ) (found : Option ℕ) → Some (text_of name) ≡ named text
      → found ≡ place same_text name roster_names → found ≡ place bytes_eq text (texts r)
  numbered name text found made is =
      is ∙ place_is name ∙ ap (λ (x : List ℕ). place bytes_eq x (texts r)) (named_some text (text_of name) made).1

  -- a name that is found has a number below N
  pub number_below : (text : List ℕ) (k : ℕ) → Some k ≡ place bytes_eq text (texts r) → k < N
  number_below text k is = omega (arith, texts_few, place_below bytes_eq text (texts r) k (sym is))

  module _ (name : Name) (after : List (Cell Name)) where
    abbrev Refused : Type 0
    Refused = (◌≡◌ {A = Option ℕ} None (number_added N (texts r) (text_of name))) × (map text_of (items after r.count) ≡ texts_added N (texts r) (text_of name))

    refuses : may_add N (texts r) (text_of name) ≡ false → items after r.count ≡ roster_names → Refused
    refuses e same = (sym (cond-false _ _ _ e), ap (map text_of) same ∙ sym (cond-false _ _ _ e))

    -- where the name stood already
    pub taken : (k : ℕ) → Settled same_text name_turn r.cells r.count name (Ok (Found k)) after → Refused
    taken k s =
        let there : place bytes_eq (text_of name) (texts r) ≡ Some k = sym (place_is name) ∙ slot_found _ k r.count _ s.slot_is in
        refuses (and_left (not (is_some (place bytes_eq (text_of name) (texts r)))) _ (ap (λ (o : Option ℕ). not (is_some o)) there)) s.items_are

    -- where no room was left
    pub crowded : (why : EntryError) → Settled same_text name_turn r.cells r.count name (Err why) after → Refused
    crowded why s =
        let no_room : room (length (texts r)) N ≡ false = ap (λ k. room k N) texts_length ∙ ap (room r.count) (sym r.whole) ∙ (slot_refused _ why r.count _ s.slot_is).1 in
        refuses (and_right (not (is_some (place bytes_eq (text_of name) (texts r)))) _ no_room) s.items_are

    -- where it was added
    pub entered : (k : ℕ) → Settled same_text name_turn r.cells r.count name (Ok (Added k)) after
        → (Some k ≡ number_added N (texts r) (text_of name)) × (map text_of (items after (r.count + 1)) ≡ texts_added N (texts r) (text_of name))
    entered k s =
        let p = slot_added _ k r.count _ s.slot_is in
        let none : place bytes_eq (text_of name) (texts r) ≡ None = sym (place_is name) ∙ p.0 in
        let room_left : room (length (texts r)) N ≡ true = ap (λ k. room k N) texts_length ∙ ap (room r.count) (sym r.whole) ∙ p.2 in
        let may : may_add N (texts r) (text_of name) ≡ true = and_from _ _ (ap (λ (o : Option ℕ). not (is_some o)) none) room_left in (
          ap (λ (j : ℕ). Some j) (p.1 ∙ sym texts_length) ∙ sym (cond-true _ _ _ may),
          ap (map text_of) s.items_are ∙ map_push text_of roster_names name ∙ sym (cond-true _ _ _ may),
        )
