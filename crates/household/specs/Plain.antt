-- The plain record: two lists of codes, fed arguments alone. It cites nothing of the program.
use Rattle.std.specs.Prelude.{ℕ, ◌+◌, ◌-◌, Bool, true, false, cond, ◌||◌, List, [], ◌∷◌, ◌++◌, length, take, ◌==◌, nat_le}

-- how a note or a strike comes out: accepted, or refused by a number
pub data Reply : Type 0 where
  accepted : Reply
  refused : ℕ → Reply

-- A drawn call: a sync is its notes and whether it was confirmed; Q is what a question is asked with.
pub data Drawn (Q : Type 0) : Type 0 where
  sync : (notes : List ℕ) → (confirmed : Bool) → Drawn Q
  strike : Drawn Q
  question : Q → Drawn Q

-- What is seen of a run: each note's and each strike's reply, and each question with the visits kept then.
pub data Seen (Q : Type 0) : Type 0 where
  noted : Reply → Seen Q
  struck : Reply → Seen Q
  asked : Q → (kept : List ℕ) → Seen Q

-- A note: 4 if its code is not below `codes`, else 5 if both lists together hold as many codes as the visit list has entries, or 1,024.
abbrev pub note : (codes entries : ℕ) → (kept second : List ℕ) → (code : ℕ) → Reply
note codes entries kept second code =
    cond (nat_le codes code) (refused 4)
    (cond (nat_le entries (length kept + length second) || nat_le 1024 (length kept + length second)) (refused 5)
    accepted)

-- the second list after a note: an accepted one goes to its end
abbrev pub put : Reply → (second : List ℕ) → (code : ℕ) → List ℕ
put accepted second code = second ++ code ∷ []
put (refused n) second code = second

-- the second list after the notes of a sync
abbrev pub second_after : (codes entries : ℕ) → (kept second notes : List ℕ) → List ℕ
second_after codes entries kept second [] = second
second_after codes entries kept second (c ∷ cs) = second_after codes entries kept (put (note codes entries kept second c) second c) cs

-- the replies to the notes of a sync
abbrev pub replies : (codes entries : ℕ) → (kept second notes : List ℕ) → List Reply
replies codes entries kept second [] = []
replies codes entries kept second (c ∷ cs) =
    note codes entries kept second c ∷ replies codes entries kept (put (note codes entries kept second c) second c) cs

-- a strike: 6 with nothing kept
abbrev pub strike_reply : (kept : List ℕ) → Reply
strike_reply kept = cond (length kept == 0) (refused 6) accepted

-- the kept visits without the last
abbrev pub all_but_last : List ℕ → List ℕ
all_but_last kept = take (length kept - 1) kept

-- The kept visits after a call: confirming moves the second list behind them, failing drops it, a strike takes off the last,
-- and a question changes nothing.
abbrev pub kept_then : {Q : Type 0} → (codes entries : ℕ) → (kept : List ℕ) → Drawn Q → List ℕ
kept_then codes entries kept (sync notes true) = kept ++ second_after codes entries kept [] notes
kept_then codes entries kept (sync notes false) = kept
kept_then codes entries kept strike = all_but_last kept
kept_then codes entries kept (question q) = kept

-- each note with its reply
abbrev pub noted_each : {Q : Type 0} → List Reply → List (Seen Q)
noted_each [] = []
noted_each (r ∷ rs) = noted r ∷ noted_each rs

-- what is seen of a call
abbrev pub seen_of : {Q : Type 0} → (codes entries : ℕ) → (kept : List ℕ) → Drawn Q → List (Seen Q)
seen_of codes entries kept (sync notes confirmed) = noted_each (replies codes entries kept [] notes)
seen_of codes entries kept strike = struck (strike_reply kept) ∷ []
seen_of codes entries kept (question q) = asked q kept ∷ []

-- the kept visits after a whole draw
abbrev pub kept_after : {Q : Type 0} → (codes entries : ℕ) → (kept : List ℕ) → List (Drawn Q) → List ℕ
kept_after codes entries kept [] = kept
kept_after codes entries kept (d ∷ ds) = kept_after codes entries (kept_then codes entries kept d) ds

-- what is seen of a whole draw
abbrev pub run : {Q : Type 0} → (codes entries : ℕ) → (kept : List ℕ) → List (Drawn Q) → List (Seen Q)
run codes entries kept [] = []
run codes entries kept (d ∷ ds) = seen_of codes entries kept d ++ run codes entries (kept_then codes entries kept d) ds
