-- Each sheet comes out as listed: its sections and its answer are computed.
use Rattle.std.proofs.Common.{◌≡◌, ℕ, ◌≤◌, min, true, List, [], ◌∷◌, length, ℤ, pos, negsuc, Ok, codes, Option, sym, refl, ap, ◌∙◌, subst, arith}
use Rattle.theory.specs.Meaning.{Meaning}
use Rattle.flags.specs.Filling.{fresh_flags}
use Rattle.flags.specs.Meaning.{flags_meaning}
use Rattle.flags.specs.Model.{FlagsModel}
use Rattle.numbers.specs.Filling.{as_variable, fresh_numbers}
use Rattle.numbers.specs.Kept.{as_atom}
use Rattle.numbers.specs.Model.{NumbersModel, numbers_meaning}
use Rattle.numbers.specs.Values.{VariableModel, AtomModel}
use Rattle.numbers.specs.declared.term.Comparison.TheVariants.{Equal}
use Rattle.numbers.specs.declared.term.Moment.{Moment}
use Rattle.numbers.specs.declared.term.Moment.TheVariants.{Now, Next, WeakNext}
use Rattle.numbers.specs.declared.term.Term.{Term}
use Rattle.ltlf.specs.Contents.{Contents}
use Rattle.ltlf.specs.declared.node.Node.{Node}
use Rattle.ltlf.specs.declared.node.Node.TheVariants.{True, False, Atom, NotAtom, And, Tomorrow, WeakTomorrow, Until, Release}
use Rattle.ltlf.specs.Nodes.{same}
use Rattle.formula_text.specs.Formulas.{put_read, formula_read}
use Rattle.tableau.specs.Search.{answer}
use Rattle.search.specs.Outcomes.{outcome_of}
use Rattle.search.specs.Questions.{asked}
use Rattle.household.specs.Calls.{question_answer}
use Rattle.sheet_text.specs.Lines.{lines_read}
use Rattle.sheet_text.specs.Notes.{note_counted, note_read, number_note_read, over, if_right}
use Rattle.sheet_text.specs.Sheets.{After, after_notes, accepted, sheet_read}
use Rattle.sheet_text.specs.declared.heading.Heading.{Heading}
use Rattle.sheet_text.specs.declared.heading.Heading.TheVariants.{Flags, Numbers}
use Rattle.trials.specs.Texts.{climbing, one_flag, one_sum}
use Rattle.trials.specs.Trials.{Trial, meaning_read, record_read, ComesOut, Right, TrialsComeOut}
use Rattle.trials.proofs.Asking.{posed, unrefused}
use Rattle.trials.proofs.Noting.{Notes, all_noted, in_front, over_length}

-- what the theory of a heading means
abbrev meaning_by : Heading → FlagsModel → NumbersModel → Meaning
meaning_by Flags m k = flags_meaning m
meaning_by Numbers m k = numbers_meaning k

-- What a sheet holds before its notes: the heading, the book, both theories; how its notes are read, and the place of the first.
record Before : Type 0 where
  heading : Heading
  book : Contents
  flags : FlagsModel
  numbers : NumbersModel
  note : List ℕ → Option ℕ
  place : ℕ

abbrev meaning_of : Before → Meaning
meaning_of p = meaning_by p.heading p.flags p.numbers

-- reading, up to the notes
abbrev Reads : Before → (text : List ℕ) → List (List ℕ) → (visits : List ℕ) → Type 0
Reads p text ls visits =
    sheet_read text visits
    ≡ after_notes p.heading p.book p.flags p.numbers
    (if_right p.note (lines_read (note_counted p.note (min (length visits) 1024)) p.place ls 0) ls visits)

-- an accepted sheet
abbrev left : Before → (kept visits : List ℕ) → After
left p kept visits = accepted p.heading (length kept) p.book p.flags p.numbers (over kept visits)

meaning_left : (p : Before) (h : Heading) (kept visits : List ℕ) → meaning_by h p.flags p.numbers ≡ meaning_read h (left p kept visits)
meaning_left p Flags kept visits = refl
meaning_left p Numbers kept visits = refl

-- a sheet that reads so, whose lines of notes are the kept visits, comes out as its question is answered
comes_out : {t : Trial} (p : Before) (ls : List (List ℕ)) → Notes p.note ls t.kept → length t.kept ≤ 1024 →
    ((visits : List ℕ) → Reads p t.text ls visits) →
    posed (record_read p.book (length t.kept)) p.book (meaning_of p) t.kept t.rows ≡ true →
    outcome_of (answer (asked (meaning_of p) p.book t.kept) t.rows) ≡ t.outcome → Right t
comes_out {t} p ls notes few reads right answered visits room =
    subst (ComesOut t)
    (sym (reads visits ∙ ap (after_notes p.heading p.book p.flags p.numbers) (all_noted p.note ls t.kept visits p.place notes room few)))
    (record {
      heading = p.heading;
      accepted = refl;
      noted = in_front t.kept visits room;
      answered = λ entries fits.
          subst (λ (m : Meaning). question_answer (record_read p.book (length t.kept)) p.book m (over t.kept visits) t.rows entries ≡ Ok t.outcome)
          (meaning_left p p.heading t.kept visits)
          (unrefused (record_read p.book (length t.kept)) p.book (meaning_of p) (over t.kept visits) t.kept t.rows entries t.outcome
          (in_front t.kept visits room) (omega (arith, over_length t.kept visits, room)) fits right answered);
    })

-- THE SHEETS BEFORE THEIR NOTES

abbrev contents : (codes atoms : ℕ) → (nodes : List Node) → (rules : List ℕ) → Contents
contents m a nodes rules = record { codes = m; atoms = a; nodes = nodes; rules = rules }

abbrev term : (coefficient : ℤ) → Moment → Term
term coefficient moment = record { coefficient = coefficient; variable = 0; moment = moment }

abbrev tries : VariableModel
tries = as_variable (codes "tries") (pos 0) (pos 2)

-- tries are c
abbrev tries_are : (c : ℕ) → AtomModel
tries_are c = as_atom (term (pos 1) Now ∷ []) Equal (pos c)

-- tries go up by one to the next visit
abbrev tries_rise : Moment → AtomModel
tries_rise moment = as_atom (term (pos 1) moment ∷ term (negsuc 0) Now ∷ []) Equal (pos 1)

abbrev of_tries : List AtomModel → Contents → (place : ℕ) → Before
of_tries atoms b place = record {
  heading = Numbers;
  book = b;
  flags = fresh_flags;
  numbers = record { variables = tries ∷ []; atoms = atoms };
  note = number_note_read (tries ∷ []);
  place = place;
}

abbrev climbs : Before
climbs =
    of_tries (tries_are 0 ∷ tries_rise Next ∷ tries_are 2 ∷ [])
    (contents 3 3 (Atom 0 ∷ Atom 1 ∷ Atom 2 ∷ Until 1 2 ∷ And 0 3 ∷ []) (4 ∷ [])) 78

abbrev of_flag : List Node → (rules : List ℕ) → (place : ℕ) → Before
of_flag nodes rules place = record {
  heading = Flags;
  book = contents 2 1 nodes rules;
  flags = record { names = codes "f" ∷ []; atoms = 0 ∷ [] };
  numbers = fresh_numbers;
  note = note_read 1;
  place = place;
}

abbrev always : Moment → Node → (place : ℕ) → Before
always moment node place = of_tries (tries_rise moment ∷ []) (contents 3 1 (False ∷ node ∷ Release 0 1 ∷ []) (2 ∷ [])) place

abbrev tomorrow : Before
tomorrow = of_flag (True ∷ Tomorrow 0 ∷ []) (1 ∷ []) 20

abbrev last : Before
last = of_flag (False ∷ WeakTomorrow 0 ∷ []) (1 ∷ []) 20

abbrev tomorrow_and_last : Before
tomorrow_and_last = of_flag (True ∷ Tomorrow 0 ∷ False ∷ WeakTomorrow 2 ∷ []) (1 ∷ 3 ∷ []) 26

abbrev always_and_not : Before
always_and_not = of_flag (False ∷ Atom 0 ∷ Release 0 1 ∷ True ∷ NotAtom 0 ∷ Until 3 4 ∷ And 2 5 ∷ []) (6 ∷ []) 28

-- THE SECTIONS BEFORE THE NOTES, READ

climbs_read : (visits : List ℕ) → Reads climbs (climbing []) [] visits
unfolding formula_read put_read same
climbs_read visits = refl

climbs_0_read : (visits : List ℕ) → Reads climbs (climbing ("n 0" ∷ [])) (codes "n 0" ∷ []) visits
unfolding formula_read put_read same
climbs_0_read visits = refl

climbs_2_read : (visits : List ℕ) → Reads climbs (climbing ("n 2" ∷ [])) (codes "n 2" ∷ []) visits
unfolding formula_read put_read same
climbs_2_read visits = refl

climbs_0_0_read : (visits : List ℕ) → Reads climbs (climbing ("n 0" ∷ "n 0" ∷ [])) (codes "n 0" ∷ codes "n 0" ∷ []) visits
unfolding formula_read put_read same
climbs_0_0_read visits = refl

climbs_0_1_read : (visits : List ℕ) → Reads climbs (climbing ("n 0" ∷ "n 1" ∷ [])) (codes "n 0" ∷ codes "n 1" ∷ []) visits
unfolding formula_read put_read same
climbs_0_1_read visits = refl

tomorrow_read : (visits : List ℕ) → Reads tomorrow (one_flag ("r X T" ∷ []) "end 14 20") [] visits
unfolding formula_read put_read same
tomorrow_read visits = refl

last_read : (visits : List ℕ) → Reads last (one_flag ("r W L" ∷ []) "end 14 20") [] visits
unfolding formula_read put_read same
last_read visits = refl

tomorrow_and_last_read : (visits : List ℕ) → Reads tomorrow_and_last (one_flag ("r X T" ∷ "r W L" ∷ []) "end 14 26") [] visits
unfolding formula_read put_read same
tomorrow_and_last_read visits = refl

always_and_not_read : (visits : List ℕ) → Reads always_and_not (one_flag ("r & G 0 F ! 0" ∷ []) "end 14 28") [] visits
unfolding formula_read put_read same
always_and_not_read visits = refl

weak_read : (visits : List ℕ) → Reads (always WeakNext (Atom 0) 48) (one_sum "a 1*tries~+-1*tries=1" "r G 0" "end 42 48") [] visits
unfolding formula_read put_read same
weak_read visits = refl

strong_read : (visits : List ℕ) → Reads (always Next (Atom 0) 48) (one_sum "a 1*tries'+-1*tries=1" "r G 0" "end 42 48") [] visits
unfolding formula_read put_read same
strong_read visits = refl

never_read : (visits : List ℕ) → Reads (always Next (NotAtom 0) 50) (one_sum "a 1*tries'+-1*tries=1" "r G ! 0" "end 42 50") [] visits
unfolding formula_read put_read same
never_read visits = refl

-- each answer is computed
pub trials_come_out : TrialsComeOut
trials_come_out = (
  comes_out climbs [] tt (omega arith) climbs_read refl refl,
  (
    comes_out climbs [] tt (omega arith) climbs_read refl refl,
    (
      comes_out climbs (codes "n 0" ∷ []) (refl, tt) (omega arith) climbs_0_read refl refl,
      (
        comes_out climbs (codes "n 2" ∷ []) (refl, tt) (omega arith) climbs_2_read refl refl,
        (
          comes_out climbs (codes "n 0" ∷ codes "n 0" ∷ []) (refl, (refl, tt)) (omega arith) climbs_0_0_read refl refl,
          (
            comes_out climbs (codes "n 0" ∷ codes "n 1" ∷ []) (refl, (refl, tt)) (omega arith) climbs_0_1_read refl refl,
            (
              comes_out tomorrow [] tt (omega arith) tomorrow_read refl refl,
              (
                comes_out last [] tt (omega arith) last_read refl refl,
                (
                  comes_out tomorrow_and_last [] tt (omega arith) tomorrow_and_last_read refl refl,
                  (
                    comes_out always_and_not [] tt (omega arith) always_and_not_read refl refl,
                    (
                      comes_out (always WeakNext (Atom 0) 48) [] tt (omega arith) weak_read refl refl,
                      (
                        comes_out (always Next (Atom 0) 48) [] tt (omega arith) strong_read refl refl,
                        (
                          comes_out (always Next (NotAtom 0) 50) [] tt (omega arith) never_read refl refl,
                          tt,
                        ),
                      ),
                    ),
                  ),
                ),
              ),
            ),
          ),
        ),
      ),
    ),
  ),
)
