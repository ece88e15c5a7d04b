-- Small rules at the last visit.
use Rattle.std.proofs.Common.{◌≡◌, [], ◌∷◌, length, sym, refl, subst, inl, ⊎_elim, le_refl, arith}
use Rattle.std.proofs.lemmas.Bool.{false≢true}
use Rattle.formula_text.specs.Grammar.{atom}
use Rattle.rule_meaning.specs.Written.{WrittenHolds}
use Rattle.rule_meaning.specs.Examples.{LastVisitTried, OneVisitSaid}

pub last_visit : LastVisitTried
last_visit m c a = record {
  x_t = λ w. omega (arith, w.0);
  w_l = inl refl;
  x_atom = λ w. omega (arith, w.0);
  w_atom = inl refl;
  f_atom = (
    λ w. let only : w.0 ≡ 0 = omega (arith, w.2) in subst (λ j. WrittenHolds m (c ∷ []) j (atom a)) only w.3,
    λ h. (0, le_refl 0, omega arith, h),
  );
  g_atom = (
    λ w. w 0 (le_refl 0) (omega arith),
    λ h j p r. let only : 0 ≡ j = omega (arith, r) in subst (λ i. WrittenHolds m (c ∷ []) i (atom a)) only h,
  );
  u_t_x_t = λ w. omega (arith, w.2, w.3.0);
  not_x_t = λ w. omega (arith, w.0);
}

pub one_visit : OneVisitSaid
one_visit m σ some = (
  λ all. ⊎_elim (λ (last : 1 ≡ length σ). sym last) (λ never. absurd (false≢true never)) (all 0 (le_refl 0) some),
  λ one j p r. inl (omega arith),
)
