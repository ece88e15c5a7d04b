-- The notes of a sync, one by one, beside the plain record.
use Rattle.std.proofs.Common.{◌≡◌, ℕ, ◌+◌, ◌<◌, ◌≤◌, Bool, true, false, cond, ◌||◌, leb, List, [], ◌∷◌, ◌++◌, length, get_or, take, drop, set, Ok, Err, Result, sym, refl, ap, ◌∙◌, subst, append_assoc, arith, leb-false}
use Rattle.std.proofs.lemmas.List.{take_more_set, length-take-le, at_drop_more, drop_more, length_push, length-set, append-nil, drop_all, take-take, take_at}
use Rattle.refusal.specs.declared.Refusal.{Refusal}
use Rattle.refusal.specs.declared.Refusal.TheVariants.{NoSuchCode, ListFull}
use Rattle.record.specs.Calls.{SyncModel}
use Rattle.refusal.specs.Numbers.{number_of}
use Rattle.record.specs.Calls.{note_check, note_answer, note_leaves, note_writes, if_accepted}
use Rattle.household.specs.Law.{Event, Heard, reply_of, Agree, Told}
use Rattle.household.proofs.Hears.{heard_push}
use Rattle.household.specs.Law as law
use Rattle.household.specs.Plain as plain
use Rattle.household.specs.Plain.{Reply, accepted, refused, put, second_after, replies, noted_each}

reply_cond : (b : Bool) (e : Refusal) (x : Result (Unit {0}) Refusal) → reply_of (cond b (Err e) x) ≡ cond b (refused (number_of e)) (reply_of x)
reply_cond true e x = refl
reply_cond false e x = refl

-- a note comes out as the plain record's
pub note_reply : (codes entries : ℕ) (kept second : List ℕ) (held code : ℕ) → held ≡ length kept + length second
    → reply_of (note_check codes entries held code) ≡ plain.note codes entries kept second code
note_reply codes entries kept second held code e =
    let full : ℕ → Bool = λ h. leb entries h || leb 1024 h in
    reply_cond (leb codes code) NoSuchCode (cond (full held) (Err ListFull) (Ok tt))
    ∙ ap (cond (leb codes code) (refused 4)) (reply_cond (full held) ListFull (Ok tt) ∙ ap (λ h. cond (full h) (refused 5) accepted) e)

room : (a b c : Bool) (u : Unit {0}) → ◌≡◌ {A = Result (Unit {0}) Refusal} (cond a (Err NoSuchCode) (cond (b || c) (Err ListFull) (Ok tt))) (Ok u) → b ≡ false
room true b c u e = let z : ◌≡◌ {A = ℕ} 0 1 = cc in absurd (omega arith)
room false true c u e = let z : ◌≡◌ {A = ℕ} 0 1 = cc in absurd (omega arith)
room false false c u e = refl

-- an accepted note has an entry to go to
pub note_fits : (codes entries held code : ℕ) (u : Unit {0}) → note_check codes entries held code ≡ Ok u → held < entries
note_fits codes entries held code u e = leb-false entries held (room (leb codes code) (leb entries held) (leb 1024 held) u e)

-- after i notes: the second list so far, and what was told; what is left leads from there to what the whole sync leads to
pub record Going {S : Type 0} (hears : S → Event → S → Type 0) (codes atoms : ℕ) (kept notes : List ℕ) (entries : ℕ) (before : S) (i held : ℕ) (visits : List ℕ) (now : S) : Type 0 where
  pub second : List ℕ
  pub told : List Event
  pub count : held ≡ length kept + length second
  pub fits : held ≤ length visits
  pub long : length visits ≡ entries
  pub lists : take held visits ≡ kept ++ second
  pub left : second_after codes entries kept second (drop i notes) ≡ second_after codes entries kept [] notes
  pub events : Heard hears before told now
  pub agree : (fs : List Event) → Agree codes atoms (noted_each (replies codes entries kept second (drop i notes))) fs
      → Agree codes atoms (noted_each (replies codes entries kept [] notes)) (told ++ fs)

abbrev one_more : Result (Unit {0}) Refusal → ℕ → ℕ
one_more r held = if_accepted r (held + 1) held

module _ {S : Type 0} (hears : S → Event → S → Type 0) (codes atoms : ℕ) (kept notes : List ℕ) (entries : ℕ) (before : S) (i held : ℕ) (visits : List ℕ) (now : S)
    (l : i < length notes) (g : Going hears codes atoms kept notes entries before i held visits now) where
  abbrev code : ℕ
  code = get_or notes i 0

  abbrev rest : List ℕ
  rest = drop (i + 1) notes

  came : (r : Result (Unit {0}) Refusal) → note_check codes (length visits) held code ≡ r → plain.note codes entries kept g.second code ≡ reply_of r
  came r q =
      sym (note_reply codes entries kept g.second held code g.count) ∙ ap (λ n. reply_of (note_check codes n held code)) (sym g.long) ∙ ap reply_of q

  left_more : (o : Reply) → plain.note codes entries kept g.second code ≡ o
      → second_after codes entries kept (put o g.second code) rest ≡ second_after codes entries kept [] notes
  left_more o e =
      ap (λ p. second_after codes entries kept (put p g.second code) rest) (sym e)
      ∙ sym (at_drop_more (second_after codes entries kept g.second) notes i 0 l) ∙ g.left

  agree_more : (r : Result (Unit {0}) Refusal) → plain.note codes entries kept g.second code ≡ reply_of r
      → (fs : List Event) → Agree codes atoms (noted_each (replies codes entries kept (put (reply_of r) g.second code) rest)) fs
      → Agree codes atoms (noted_each (replies codes entries kept [] notes)) ((g.told ++ law.noted r ∷ []) ++ fs)
  agree_more r e fs h =
      let Rest : Reply → Type 0 = λ p. Agree codes atoms (noted_each (replies codes entries kept (put p g.second code) rest)) fs in
      let Whole : List ℕ → Type 0 = λ ns. Agree codes atoms (noted_each (replies codes entries kept g.second ns)) (law.noted r ∷ fs) in
      let All : List Event → Type 0 = λ es. Agree codes atoms (noted_each (replies codes entries kept [] notes)) es in
      let first : Whole (code ∷ rest) = (sym e, subst Rest (sym e) h) in
      subst All (sym (append_assoc g.told (law.noted r ∷ []) fs)) (g.agree (law.noted r ∷ fs) (subst Whole (sym (drop_more notes i 0 l)) first))

  pub more : (now' : S) (r : Result (Unit {0}) Refusal) → note_check codes (length visits) held code ≡ r → hears now (law.noted r) now'
      → Going hears codes atoms kept notes entries before (i + 1) (one_more r held) (if_accepted r (set visits held code) visits) now'
  more now' (Ok u) q k =
      let room : held < length visits = note_fits codes (length visits) held code u q in
      record {
        second = g.second ++ code ∷ [];
        told = g.told ++ law.noted (Ok u) ∷ [];
        count = simp length_push (omega (arith, g.count));
        fits = simp length-set (omega arith);
        long = length-set visits held code ∙ g.long;
        lists = take_more_set visits held code room ∙ ap (λ ys. ys ++ code ∷ []) g.lists ∙ append_assoc kept g.second (code ∷ []);
        left = left_more accepted (came (Ok u) q);
        events = heard_push hears before now now' g.told (law.noted (Ok u)) g.events k;
        agree = agree_more (Ok u) (came (Ok u) q);
      }
  more now' (Err e) q k = record {
    second = g.second;
    told = g.told ++ law.noted (Err e) ∷ [];
    count = g.count;
    fits = g.fits;
    long = g.long;
    lists = g.lists;
    left = left_more (refused (number_of e)) (came (Err e) q);
    events = heard_push hears before now now' g.told (law.noted (Err e)) g.events k;
    agree = agree_more (Err e) (came (Err e) q);
  }

pub start : {S : Type 0} (hears : S → Event → S → Type 0) (codes atoms k : ℕ) (visits notes : List ℕ) (before : S) → k ≤ length visits
    → Going hears codes atoms (take k visits) notes (length visits) before 0 k visits before
start hears codes atoms k visits notes before h = record {
  second = [];
  told = [];
  count = simp (length-take-le k visits h) (omega arith);
  fits = h;
  long = refl;
  lists = sym (append-nil (take k visits));
  left = refl;
  events = refl;
  agree = λ fs a. a;
}

-- one note of a sync, as its contract has it
module _ {S : Type 0} (hears : S → Event → S → Type 0) (codes atoms : ℕ) (kept notes : List ℕ) (entries : ℕ) (before : S) (i : ℕ) (s : SyncModel) (visits : List ℕ) (now : S)
    (l : i < length notes) (g : Going hears codes atoms kept notes entries before i s.held visits now) where
  abbrev Next : SyncModel → List ℕ → S → Type 0
  Next s' visits' now' = (s'.taken ≡ s.taken) × Going hears codes atoms kept notes entries before (i + 1) s'.held visits' now'

  abbrev on : SyncModel
  on = record { taken = s.taken; held = s.held + 1 }

  next_by : (now' : S) (r : Result (Unit {0}) Refusal) → note_check codes (length visits) s.held (get_or notes i 0) ≡ r → hears now (law.noted r) now'
      → Next (if_accepted r on s) (if_accepted r (set visits s.held (get_or notes i 0)) visits) now'
  next_by now' (Ok u) q k = (refl, more hears codes atoms kept notes entries before i s.held visits now l g now' (Ok u) q k)
  next_by now' (Err e) q k = (refl, more hears codes atoms kept notes entries before i s.held visits now l g now' (Err e) q k)

  pub next : (s' : SyncModel) (visits' : List ℕ) (now' : S) (r : Result (Unit {0}) Refusal) → s.taken.codes ≡ codes → r ≡ note_answer s visits (get_or notes i 0)
      → s' ≡ note_leaves s visits (get_or notes i 0) → visits' ≡ note_writes s visits (get_or notes i 0) → hears now (law.noted r) now' → Next s' visits' now'
  next s' visits' now' r k a b c d =
      let answer : Result (Unit {0}) Refusal = note_answer s visits (get_or notes i 0) in
      let q : note_check codes (length visits) s.held (get_or notes i 0) ≡ answer = ap (λ n. note_check n (length visits) s.held (get_or notes i 0)) (sym k) in
      subst (λ (z : SyncModel). Next z visits' now') (sym b)
      (subst (λ (z : List ℕ). Next (note_leaves s visits (get_or notes i 0)) z now') (sym c)
      (next_by now' answer q (subst (λ (x : Result (Unit {0}) Refusal). hears now (law.noted x) now') a d)))

-- what a sync came to, once every note is in
pub record Ended {S : Type 0} (hears : S → Event → S → Type 0) (codes atoms : ℕ) (kept notes : List ℕ) (entries : ℕ) (before : S) (held : ℕ) (visits : List ℕ) (now : S) : Type 0 where
  pub within : held ≤ length visits
  pub below : length kept ≤ held
  pub lists : take held visits ≡ kept ++ second_after codes entries kept [] notes
  pub told : Told hears codes atoms (noted_each (replies codes entries kept [] notes)) before now

pub ended : {S : Type 0} (hears : S → Event → S → Type 0) (codes atoms : ℕ) (kept notes : List ℕ) (entries : ℕ) (before : S) (i held : ℕ) (visits : List ℕ) (now : S)
    → length notes ≤ i → Going hears codes atoms kept notes entries before i held visits now → Ended hears codes atoms kept notes entries before held visits now
ended hears codes atoms kept notes entries before i held visits now l g =
    let none : drop i notes ≡ [] = drop_all i notes l in
    let Left : List ℕ → Type 0 = λ ns. Agree codes atoms (noted_each (replies codes entries kept g.second ns)) [] in
    let All : List Event → Type 0 = λ es. Agree codes atoms (noted_each (replies codes entries kept [] notes)) es in
    record {
      within = g.fits;
      below = omega (arith, g.count);
      lists = g.lists ∙ ap (λ ys. kept ++ ys) (sym (ap (second_after codes entries kept g.second) none) ∙ g.left);
      told = (g.told, (g.events, subst All (append-nil g.told) (g.agree [] (subst Left (sym none) tt))));
    }

-- the kept visits still stand first, whatever was noted behind them
pub still : {S : Type 0} (hears : S → Event → S → Type 0) (codes atoms k : ℕ) (v visits notes : List ℕ) (entries : ℕ) (before now : S) (held : ℕ) → k ≤ length v
    → Ended hears codes atoms (take k v) notes entries before held visits now → take k visits ≡ take k v
still hears codes atoms k v visits notes entries before now held h e =
    let n : length (take k v) ≡ k = length-take-le k v h in
    let below : k ≤ held = omega (arith, n, e.below) in
    sym (take-take k held visits below) ∙ ap (take k) e.lists ∙ take_at (take k v) _ k n
