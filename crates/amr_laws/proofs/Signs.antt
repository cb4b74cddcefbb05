-- Fluxes have the sign of the Courant number of their face, and what is above 0 or below it adds up over fluxes of one sign.
use Rattle.std.proofs.Common.{◌≡◌, ℕ, zero, suc, ◌+◌, ℤ, pos, negsuc, ◌+ℤ◌, neg_ℤ, refl, ap, subst, ◌∙◌, arith, List, [], ◌∷◌}
use Rattle.amr_box.specs.declared.Face.{Face}
use Rattle.amr_box.specs.declared.Axis.{Axis}
use Rattle.amr_box.specs.declared.Axis.TheVariants.{X, Y}
use Rattle.amr_box.specs.Cells.{at_least_zero}
use Rattle.amr_def.specs.declared.problem.Problem.{Problem}
use Rattle.amr_def.specs.State.{Masses}
use Rattle.amr_def.specs.Flux.{Fluxes, courant, face, flow, flux_at}
use Rattle.amr_def.specs.LevelStep.{at_top, effective, over_finer, step_within, through_children}
use Rattle.amr_def.specs.Ledger.{below_zero}
use Rattle.amr_def.proofs.Courants.{courant_x_first, courant_x_second, courant_y_first, courant_y_second}
use Rattle.amr_def.proofs.Uncovered.{cond_both}
use Rattle.amr_def.proofs.Raise.{signed, signed_sum}

-- ---- fluxes have the sign of the Courant number of their face

abbrev pub IsSigned : ℤ → ℤ → Type 0
IsSigned c z = (size : ℕ) × (z ≡ signed c size)

pub record AllSigned (p : Problem) (l : ℕ) (e : Fluxes) : Type 0 where
  pub at : (f : Face) → IsSigned (courant p l f) (e f)

flow_signed : (c : ℤ) (d low high : ℕ) → IsSigned c (flow c d low high)
flow_signed (pos a) d low high = (_, refl)
flow_signed (negsuc a) d low high = (_, refl)

none_signed : (c : ℤ) → IsSigned c (pos 0)
none_signed (pos a) = (0, refl)
none_signed (negsuc a) = (0, refl)

plain_signed : (p : Problem) (l : ℕ) (m old : Masses) → AllSigned p l (flux_at p l m old)
unfolding flux_at
plain_signed p l m old = record { at = λ f. flow_signed (courant p l f) p.d _ _ }

module _ (p : Problem) (l : ℕ) (e : Fluxes) (all : AllSigned p (suc l) e) where
  pub signed_at : (f : Face) (s : ℤ) → courant p (suc l) f ≡ s → IsSigned s (e f)
  signed_at f s is = subst (λ (t : ℤ). IsSigned t (e f)) is (all.at f)

module _ (p : Problem) (l : ℕ) (e1 e2 : Fluxes) (all1 : AllSigned p (suc l) e1) (all2 : AllSigned p (suc l) e2) where
  four_signed : (s : ℤ) (a b f g : ℤ) → IsSigned s a → IsSigned s b → IsSigned s f → IsSigned s g → IsSigned s ((a +ℤ b) +ℤ (f +ℤ g))
  four_signed s a b f g i j k m = (i.0 + j.0 + k.0 + m.0, (λ t. (i.1 t +ℤ j.1 t) +ℤ (k.1 t +ℤ m.1 t)) ∙ signed_sum s i.0 j.0 k.0 m.0)

  children_signed : (a : Axis) (x y : ℤ) → IsSigned (courant p l (face a x y)) (through_children e1 a x y +ℤ through_children e2 a x y)
  children_signed X x y =
      let first = courant_x_first p l x (x +ℤ x) y y in
      let second = courant_x_second p l x (x +ℤ x) y y in
      four_signed _ _ _ _ _ (signed_at p l e1 all1 _ _ first) (signed_at p l e1 all1 _ _ second) (signed_at p l e2 all2 _ _ first) (signed_at p l e2 all2 _ _ second)
  children_signed Y x y =
      let first = courant_y_first p l x x y (y +ℤ y) in
      let second = courant_y_second p l x x y (y +ℤ y) in
      four_signed _ _ _ _ _ (signed_at p l e1 all1 _ _ first) (signed_at p l e1 all1 _ _ second) (signed_at p l e2 all2 _ _ first) (signed_at p l e2 all2 _ _ second)

  effective_signed : (m old fine : Masses) → AllSigned p l (effective p l m old fine e1 e2)
  unfolding effective
  effective_signed m old fine = record { at = λ f. cond_both (IsSigned (courant p l f)) _ _ _ (children_signed f.axis f.x f.y) ((plain_signed p l m old).at f) }

pub step_signed : (p : Problem) (n l : ℕ) (ms : List Masses) (old : Masses) → AllSigned p l (step_within p n l ms old).fluxes
unfolding step_within over_finer at_top
step_signed p zero l ms old = record { at = λ f. none_signed (courant p l f) }
step_signed p (suc n) l [] old = record { at = λ f. none_signed (courant p l f) }
step_signed p (suc n) l (m ∷ []) old = plain_signed p l m old
step_signed p (suc n) l (m ∷ fine ∷ finer) old =
    let first = step_within p n (suc l) (fine ∷ finer) m in
    effective_signed p l first.fluxes (step_within p n (suc l) first.levels m).fluxes (step_signed p n (suc l) (fine ∷ finer) m) (step_signed p n (suc l) first.levels m) m old fine

-- ---- a part of a flux that adds up over fluxes of one sign

pub record IsAdditive (q : ℤ → ℕ) : Type 0 where
  pub four : (c : ℤ) (a b e f : ℕ) → q ((signed c a +ℤ signed c b) +ℤ (signed c e +ℤ signed c f)) ≡ (q (signed c a) + q (signed c b)) + (q (signed c e) + q (signed c f))
  pub none : q (pos 0) ≡ 0

pub above_neg : (n : ℕ) → at_least_zero (neg_ℤ (pos n)) ≡ 0
above_neg zero = refl
above_neg (suc n) = refl

below_neg : (n : ℕ) → below_zero (neg_ℤ (pos n)) ≡ n
below_neg zero = refl
below_neg (suc n) = refl

above_four : (c : ℤ) (a b e f : ℕ) → at_least_zero ((signed c a +ℤ signed c b) +ℤ (signed c e +ℤ signed c f)) ≡ (at_least_zero (signed c a) + at_least_zero (signed c b)) + (at_least_zero (signed c e) + at_least_zero (signed c f))
above_four (pos k) a b e f = ap at_least_zero (signed_sum (pos k) a b e f) ∙ omega arith
above_four (negsuc k) a b e f = ap at_least_zero (signed_sum (negsuc k) a b e f) ∙ omega (arith, above_neg (a + b + e + f), above_neg a, above_neg b, above_neg e, above_neg f)

below_four : (c : ℤ) (a b e f : ℕ) → below_zero ((signed c a +ℤ signed c b) +ℤ (signed c e +ℤ signed c f)) ≡ (below_zero (signed c a) + below_zero (signed c b)) + (below_zero (signed c e) + below_zero (signed c f))
below_four (pos k) a b e f = ap below_zero (signed_sum (pos k) a b e f) ∙ omega arith
below_four (negsuc k) a b e f = ap below_zero (signed_sum (negsuc k) a b e f) ∙ omega (arith, below_neg (a + b + e + f), below_neg a, below_neg b, below_neg e, below_neg f)

pub above_additive : IsAdditive at_least_zero
above_additive = record { four = above_four; none = refl }

pub below_additive : IsAdditive below_zero
below_additive = record { four = below_four; none = refl }
