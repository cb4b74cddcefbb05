-- A part of a row of fluxes more.
use Rattle.std.proofs.Common.{◌≡◌, ◌≢◌, ℕ, ◌+◌, ◌<◌, ◌≤◌, ◌⊎◌, inl, inr, Bool, ℤ, pos, List, length, set, get_or-set_same, get_or-set_other, sym, subst, ap, ◌∙◌, arith}
use Rattle.std.specs.Prelude.{slice_index_or}
use Rattle.std.proofs.lemmas.Bool.{cases_eq}
use borrow.Rule.Slice.PartMut.{put_mid}
use Rattle.amr_def.specs.declared.problem.Problem.{Problem}
use Rattle.amr_def.specs.Flux.{flow}
use Rattle.amr_faces.specs.Numbers.{x_number, y_number}
use Rattle.amr_flux.specs.Tables.{value, x_flux, y_flux}
use Rattle.amr_faces.specs.Shares.{AreFactors}
use Rattle.amr_faces.proofs.Shown.{flow_of}
use Rattle.amr_flux.proofs.Parts.{written}

-- ---- a row of faces

-- the first k faces got theirs
pub front_made : (k : ℕ) (fluxes part : List ℤ) (f : ℕ → ℤ) → length part ≡ k → k ≤ length fluxes → ((t : ℕ) → t < k → slice_index_or part t (pos 0) ≡ f t) → (i : ℕ) → i < k → slice_index_or (put_mid 0 k fluxes part) i (pos 0) ≡ f i
front_made k fluxes part f size room each i h = written 0 k fluxes part (pos 0) size (omega (arith, room)) i i (omega arith) h ∙ each i h

-- ---- one flux more, of those whose places pass a test

module _ (test : ℕ → Bool) (wanted : Bool) (fluxes : List ℤ) (i : ℕ) (f : ℕ → ℤ) where
  pub one_made : (v : ℤ) → i < length fluxes → v ≡ f i → ((t : ℕ) → t < i → test t ≡ wanted → slice_index_or fluxes t (pos 0) ≡ f t) → (t : ℕ) → t < i + 1 → test t ≡ wanted → slice_index_or (set fluxes i v) t (pos 0) ≡ f t
  one_made v inside is before t below e = at_each (cases_eq t i)
    where
      at_each : (t ≡ i) ⊎ (t ≢ i) → slice_index_or (set fluxes i v) t (pos 0) ≡ f t
      at_each (inl e) = ap (λ n. slice_index_or (set fluxes i v) n (pos 0)) e ∙ get_or-set_same fluxes i v (pos 0) inside ∙ is ∙ ap f (sym e)
      at_each (inr ne) = get_or-set_other fluxes i t v (pos 0) ne ∙ before t (omega arith) e

  pub one_left : (test i ≡ wanted → ⊥) → ((t : ℕ) → t < i → test t ≡ wanted → slice_index_or fluxes t (pos 0) ≡ f t) → (t : ℕ) → t < i + 1 → test t ≡ wanted → slice_index_or fluxes t (pos 0) ≡ f t
  one_left other before t below e = at_each (cases_eq t i)
    where
      at_each : (t ≡ i) ⊎ (t ≢ i) → slice_index_or fluxes t (pos 0) ≡ f t
      at_each (inl same) = absurd (other (ap test (sym same) ∙ e))
      at_each (inr ne) = before t (omega arith) e

  -- those that don't pass it keep what they had
  pub others_kept : (old : List ℤ) (v : ℤ) (b : Bool) → (test i ≡ b → ⊥) → ((t : ℕ) → test t ≡ b → slice_index_or fluxes t (pos 0) ≡ slice_index_or old t (pos 0)) → (t : ℕ) → test t ≡ b → slice_index_or (set fluxes i v) t (pos 0) ≡ slice_index_or old t (pos 0)
  others_kept old v b apart before t e = get_or-set_other fluxes i t v (pos 0) (λ same. apart (ap test (sym same) ∙ e)) ∙ before t e

-- ---- a flux by the numbers that it was worked out from

pub x_flux_is : (p : Problem) (l first w : ℕ) (values : List ℕ) (i j : ℕ) {n : ℤ} {d low high : ℕ} → n ≡ x_number p l (first + j) → d ≡ p.d → low ≡ value w values i (j + 1) → high ≡ value w values (i + 1) (j + 1) → flow n d low high ≡ x_flux p l first w values i j
unfolding x_flux
x_flux_is p l first w values i j en ed el eh = flow_of en ed el eh

pub y_flux_is : (p : Problem) (l first w : ℕ) (values : List ℕ) (i j : ℕ) {n : ℤ} {d low high : ℕ} → n ≡ y_number p l (first + i) → d ≡ p.d → low ≡ value w values (i + 1) j → high ≡ value w values (i + 1) (j + 1) → flow n d low high ≡ y_flux p l first w values i j
unfolding y_flux
y_flux_is p l first w values i j en ed el eh = flow_of en ed el eh

-- ---- factors of a column

pub factors_same : (c c' : ℤ) (d d' limit limit' low low' high high' : ℕ) → c ≡ c' → d ≡ d' → limit' ≤ limit → low ≡ low' → high ≡ high' → AreFactors c d limit low high → AreFactors c' d' limit' low' high'
factors_same c c' d d' limit limit' low low' high high' ec ed less el eh f =
    let narrow : AreFactors c d limit' low high = record { low_fits = f.low_fits; high_fits = f.high_fits; flows = λ a b ha hb. f.flows a b (omega (arith, ha, less)) (omega (arith, hb, less)) } in
    let C : ℤ → Type 0 = λ z. AreFactors z d limit' low high in
    let D : ℕ → Type 0 = λ n. AreFactors c' n limit' low high in
    let L : ℕ → Type 0 = λ n. AreFactors c' d' limit' n high in
    let H : ℕ → Type 0 = λ n. AreFactors c' d' limit' low' n in
    subst H eh (subst L el (subst D ed (subst C ec narrow)))
