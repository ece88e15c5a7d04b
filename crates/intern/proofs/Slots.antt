-- What a slot says of the record's place.
use Rattle.std.proofs.Common.{◌≡◌, ℕ, suc, ◌<◌, Bool, true, false, cond, List, [], ◌∷◌, length, Some, None, Ok, Err, Option, Result, sym, refl, ◌∙◌, inl, inr, arith}
use Rattle.std.specs.Result.{result_ok}
use Rattle.std.proofs.lemmas.Bool.{cond-true, cond-false, cases_Bool}
use Rattle.intern.specs.declared.Slot.{Slot}
use Rattle.intern.specs.declared.Slot.TheVariants.{Found, Added}
use Rattle.intern.specs.declared.EntryError.{EntryError}
use Rattle.intern.specs.declared.EntryError.TheVariants.{Full, Broken}
use Rattle.intern.specs.Entry.{room}
use Rattle.intern.specs.Index.{further, place}
use Rattle.intern.specs.Settled.{slot_of}

-- a new record's slot is no found one
never : (s : Result Slot EntryError) (k n : ℕ) (b : Bool) → s ≡ cond b (Ok (Added n)) (Err Full) → s ≡ Ok (Found k) → ⊥
never s k n true e f = let z : ◌≡◌ {A = ℕ} 0 1 = cc in omega arith
never s k n false e f = let z : ◌≡◌ {A = ℕ} 0 1 = cc in omega arith

new_added : (s : Result Slot EntryError) (k n : ℕ) (b : Bool) → s ≡ cond b (Ok (Added n)) (Err Full) → s ≡ Ok (Added k) → (k ≡ n) × (b ≡ true)
new_added s k n true e f = (cc, refl)
new_added s k n false e f = let z : ◌≡◌ {A = ℕ} 0 1 = cc in absurd (omega arith)

new_refused : (s : Result Slot EntryError) (n : ℕ) (why : EntryError) (b : Bool) → s ≡ cond b (Ok (Added n)) (Err Full) → s ≡ Err why → b ≡ false
new_refused s n why true e f = let z : ◌≡◌ {A = ℕ} 0 1 = cc in absurd (omega arith)
new_refused s n why false e f = refl

-- nor is it a broken one
new_broken : (s : Result Slot EntryError) (n : ℕ) (b : Bool) → s ≡ cond b (Ok (Added n)) (Err Full) → s ≡ Err Broken → ⊥
new_broken s n true e f = let z : ◌≡◌ {A = ℕ} 0 1 = cc in omega arith
new_broken s n false e f = let z : ◌≡◌ {A = ℕ} 0 1 = cc in omega arith

pub slot_found : (o : Option ℕ) (k n len : ℕ) → Ok (Found k) ≡ slot_of o n len → o ≡ Some k
slot_found (Some j) k n len e = cc
slot_found None k n len e = absurd (never (Ok (Found k)) k n (room n len) e refl)

pub slot_added : (o : Option ℕ) (k n len : ℕ) → Ok (Added k) ≡ slot_of o n len → (o ≡ None) × (k ≡ n) × (room n len ≡ true)
slot_added (Some j) k n len e = let z : ◌≡◌ {A = ℕ} 0 1 = cc in absurd (omega arith)
slot_added None k n len e = let p = new_added (Ok (Added k)) k n (room n len) e refl in (refl, p.0, p.1)

-- among indexed cells a record is refused only where there is no room
pub slot_refused : (o : Option ℕ) (why : EntryError) (n len : ℕ) → Err why ≡ slot_of o n len → (o ≡ None) × (room n len ≡ false)
slot_refused (Some j) why n len e = let z : ◌≡◌ {A = ℕ} 0 1 = cc in absurd (omega arith)
slot_refused None why n len e = (refl, new_refused (Err why) n why (room n len) e refl)

pub slot_full : (o : Option ℕ) (n len : ℕ) → Err Full ≡ slot_of o n len → (o ≡ None) × (room n len ≡ false)
slot_full o n len e = slot_refused o Full n len e

pub slot_broken : (o : Option ℕ) (n len : ℕ) → Err Broken ≡ slot_of o n len → ⊥
slot_broken (Some j) n len e = let z : ◌≡◌ {A = ℕ} 0 1 = cc in omega arith
slot_broken None n len e = new_broken (Err Broken) n (room n len) e refl

-- an answer by what `ok` makes of it
pub is_slot : (s : Result Slot EntryError) (x : Slot) → Some x ≡ result_ok s → s ≡ Ok x
is_slot (Ok y) x e = cc
is_slot (Err why) x e = let z : ◌≡◌ {A = ℕ} 0 1 = cc in absurd (omega arith)

pub is_refused : (s : Result Slot EntryError) → None ≡ result_ok s → (why : EntryError) × (s ≡ Err why)
is_refused (Ok y) e = let z : ◌≡◌ {A = ℕ} 0 1 = cc in absurd (omega arith)
is_refused (Err why) e = (why, refl)

further_below : (o : Option ℕ) (k n : ℕ) → ((j : ℕ) → o ≡ Some j → j < n) → further o ≡ Some k → k < suc n
further_below (Some j) k n below e = let is : suc j ≡ k = cc in omega (arith, below j refl)
further_below None k n below e = let z : ◌≡◌ {A = ℕ} 0 1 = cc in absurd (omega arith)

-- a place lies among the records
pub place_below : {R : Type 0} (alike : R → R → Bool) (r : R) (xs : List R) (k : ℕ) → place alike r xs ≡ Some k → k < length xs
place_below alike r [] k e = let z : ◌≡◌ {A = ℕ} 0 1 = cc in absurd (omega arith)
place_below alike r (x ∷ xs) k e = elim (cases_Bool (alike x r)) [
  | inl is ↦ (let here : Some 0 ≡ Some k = sym (cond-true _ _ _ is) ∙ e in let z : 0 ≡ k = cc in omega arith)
  | inr isnt ↦ further_below (place alike r xs) k (length xs) (λ j p. place_below alike r xs j p) (sym (cond-false _ _ _ isnt) ∙ e)
]
