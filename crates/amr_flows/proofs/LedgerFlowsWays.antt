-- What flows into the domain through its low sides and through its high ones, and what flows out: a flux has the sign of its Courant number.
use Rattle.std.proofs.Common.{◌≡◌, ℕ, zero, suc, ◌*◌, ◌/◌, Bool, true, false, cond, ℤ, pos, negsuc, neg_ℤ, refl, sym, ap, ◌∙◌, arith}
use Rattle.std.specs.Prelude.{int_lt, unsigned_abs}
use Rattle.std.proofs.lemmas.Bool.{le-ltb, lt-ltb}
use Rattle.amr_box.specs.declared.Face.{Face}
use Rattle.amr_box.specs.Cells.{Extent, at_least_zero, holds}
use Rattle.amr_def.specs.declared.problem.Problem.{Problem}
use Rattle.amr_def.specs.State.{Masses}
use Rattle.amr_def.specs.Flux.{courant, flow, flux_at, high_cell}
use Rattle.amr_def.specs.Ledger.{below_zero}
use Rattle.amr_layout.specs.Surroundings.{inward}
use Rattle.amr_laws.proofs.Signs.{above_neg}

-- the fluxes whose inward Courant number passes the test count whole, the others not: `low` of the flux through a low side of
-- the domain, `high` of that through a high one
pub record IsWay (sign : ℤ → Bool) (low high : ℤ → ℕ) : Type 0 where
  pub at_low : (c : ℤ) (d a b : ℕ) → cond (sign c) (unsigned_abs (flow c d a b)) 0 ≡ low (flow c d a b)
  pub at_high : (c : ℤ) (d a b : ℕ) → cond (sign (neg_ℤ c)) (unsigned_abs (flow c d a b)) 0 ≡ high (flow c d a b)

nothing : (v d : ℕ) → 0 * v / d ≡ 0
nothing v d = omega arith

below_minus : (n : ℕ) → unsigned_abs (neg_ℤ (pos n)) ≡ below_zero (neg_ℤ (pos n))
below_minus zero = refl
below_minus (suc n) = refl

abbrev pub is_in : ℤ → Bool
is_in z = int_lt (pos 0) z

abbrev pub is_out : ℤ → Bool
is_out z = int_lt z (pos 0)

comes_in : (k v : ℕ) → cond (is_in (pos (suc k))) v 0 ≡ v
comes_in k v = ap (λ (t : Bool). cond t v 0) (lt-ltb 0 (suc k) (omega arith))

stays_in : (k v : ℕ) → cond (is_out (pos k)) v 0 ≡ 0
stays_in k v = ap (λ (t : Bool). cond t v 0) (le-ltb k 0 (omega arith))

in_at_low : (c : ℤ) (d a b : ℕ) → cond (is_in c) (unsigned_abs (flow c d a b)) 0 ≡ at_least_zero (flow c d a b)
in_at_low (pos zero) d a b = sym (nothing a d)
in_at_low (pos (suc k)) d a b = comes_in k (suc k * a / d)
in_at_low (negsuc k) d a b = sym (above_neg (suc k * b / d))

in_at_high : (c : ℤ) (d a b : ℕ) → cond (is_in (neg_ℤ c)) (unsigned_abs (flow c d a b)) 0 ≡ below_zero (flow c d a b)
in_at_high (pos zero) d a b = refl
in_at_high (pos (suc k)) d a b = refl
in_at_high (negsuc k) d a b = comes_in k (unsigned_abs (neg_ℤ (pos (suc k * b / d)))) ∙ below_minus (suc k * b / d)

out_at_low : (c : ℤ) (d a b : ℕ) → cond (is_out c) (unsigned_abs (flow c d a b)) 0 ≡ below_zero (flow c d a b)
out_at_low (pos k) d a b = stays_in k (k * a / d)
out_at_low (negsuc k) d a b = below_minus (suc k * b / d)

out_at_high : (c : ℤ) (d a b : ℕ) → cond (is_out (neg_ℤ c)) (unsigned_abs (flow c d a b)) 0 ≡ at_least_zero (flow c d a b)
out_at_high (pos zero) d a b = sym (nothing a d)
out_at_high (pos (suc k)) d a b = refl
out_at_high (negsuc k) d a b = stays_in (suc k) (unsigned_abs (neg_ℤ (pos (suc k * b / d)))) ∙ sym (above_neg (suc k * b / d))

pub way_in : IsWay is_in at_least_zero below_zero
way_in = record { at_low = in_at_low; at_high = in_at_high }

pub way_out : IsWay is_out below_zero at_least_zero
way_out = record { at_low = out_at_low; at_high = out_at_high }

-- ---- of a level's own fluxes, through a face on an edge of a box

module _ (p : Problem) (l : ℕ) (m old : Masses) (sign : ℤ → Bool) (low high : ℤ → ℕ) (way : IsWay sign low high) (b : Extent) (f : Face) where
  pub flux_low : holds b (high_cell f) ≡ true → cond (sign (inward p l b f)) (unsigned_abs (flux_at p l m old f)) 0 ≡ low (flux_at p l m old f)
  unfolding inward flux_at
  flux_low held = ap (λ (t : Bool). cond (sign (cond t (courant p l f) (neg_ℤ (courant p l f)))) (unsigned_abs (flux_at p l m old f)) 0) held ∙ way.at_low (courant p l f) p.d _ _

  pub flux_high : holds b (high_cell f) ≡ false → cond (sign (inward p l b f)) (unsigned_abs (flux_at p l m old f)) 0 ≡ high (flux_at p l m old f)
  unfolding inward flux_at
  flux_high out = ap (λ (t : Bool). cond (sign (cond t (courant p l f) (neg_ℤ (courant p l f)))) (unsigned_abs (flux_at p l m old f)) 0) out ∙ way.at_high (courant p l f) p.d _ _
