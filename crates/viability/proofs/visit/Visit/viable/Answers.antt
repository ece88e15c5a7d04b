use Rattle.std.proofs.Common.{◌≡◌, ℕ, ◌+◌, length, refl, ◌∙◌, subst, arith}
use mathlib.Core.Path.{subst⁻¹}
use Rattle.std.proofs.lemmas.Bool.{false≢true}
use Rattle.ltlf.proofs.Books.{book_proper}
use Rattle.viability.specs.Viable.{ViableBelow}
use Rattle.viability.specs.Visits.{moment_at, contents_at}
use Rattle.viability.proofs.Viability.{viable_none, viable_with, viable_skip, tells}
use Rattle.viability.proofs.visit.Visit.viable.Goals as goal
use Rattle.viability.proofs.visit.Visit.viable.Goals.{then-fits_somehow, else-fits_somehow}

pub loop-number-init : goal.loop-number-init
loop-number-init c = let v = c.args.self.now in viable_none (moment_at v) (contents_at v) (book_proper v.book.now)

pub loop-number-preserved : goal.loop-number-preserved
loop-number-preserved c =
    let v = c.args.self.now in
    let pr = book_proper v.book.now in
    elim c.if-fits_somehow.branch [
      | then-fits_somehow w ↦
          viable_with (moment_at v) (contents_at v) pr c.loop-number.able _ c.loop-number.number (omega (arith, pr.few)) (w.able-is ∙ w.with-able.ensures)
          (w.if-fits_somehow.ensures.0 refl) c.loop-number.invariant
      | else-fits_somehow w ↦
          subst⁻¹ (λ (x : ℕ). ViableBelow (moment_at v) (contents_at v) x (c.loop-number.number + 1)) w.able-is
          (viable_skip (moment_at v) (contents_at v) pr c.loop-number.able c.loop-number.number (λ h. false≢true (w.if-fits_somehow.ensures.1 h)) c.loop-number.invariant)
    ]

pub returns : goal.returns
returns c =
    let v = c.args.self.now in
    let e : c.loop-number.number ≡ length (contents_at v).nodes = omega arith in
    let fit = subst (λ (x : ℕ). ViableBelow (moment_at v) (contents_at v) c.loop-number.able x) e c.loop-number.invariant in
    record { fit = fit; tells = tells (contents_at v) (book_proper v.book.now) v.truth v.last _ fit }
