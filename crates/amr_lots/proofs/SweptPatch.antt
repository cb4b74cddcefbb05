-- A patch that keeps its values stands as ready for its update as before, with the same masses to come.
use Rattle.std.proofs.Common.{◌≡◌, ℕ, ◌^◌, ◌<◌, true, pos, ◌+ℤ◌, ◌≤ℤ◌, ◌<ℤ◌, List, get_or, sym, ap, ◌∙◌, subst}
use Rattle.std.specs.List.{All}
use Rattle.amr_box.specs.declared.Cell.{Cell}
use Rattle.amr_box.specs.declared.Face.{Face}
use Rattle.amr_box.specs.Cells.{Extent, holds}
use Rattle.amr_def.specs.declared.problem.Problem.{Problem}
use Rattle.amr_def.specs.Domain.{domain}
use Rattle.amr_def.specs.Flux.{Fluxes, courant, flow, high_cell, low_cell, net}
use Rattle.amr_patch.specs.declared.patches.Patch.{Patch}
use Rattle.amr_patch.specs.Places.{is_edge_face}
use Rattle.amr_patch.specs.Patches.{SameValues, box, mass_in, value_in}
use Rattle.amr_faces.specs.Faces.{IsInDomain, flux_beside, in_reach}
use Rattle.amr_layout.specs.declared.FlowTo.{FlowTo}
use Rattle.amr_lots.specs.Lots.{AreEdgeFlows, HasStepped, MayStep}

-- patches of the same values have the same fluxes
pub beside_same : (p : Problem) (l : ℕ) (q r : Patch) → SameValues q r → (f : Face) → flux_beside p l r f ≡ flux_beside p l q f
unfolding flux_beside
beside_same p l q r same f = ap (λ v. flow (courant p l f) p.d v (value_in r (high_cell f))) (same (low_cell f)) ∙ ap (flow (courant p l f) p.d (value_in q (low_cell f))) (same (high_cell f))

pub net_same : (e e' : Fluxes) → ((f : Face) → e f ≡ e' f) → (c : Cell) → net e c ≡ net e' c
net_same e e' same c = ap (λ (g : Fluxes). net g c) (λ t f. same f t)

module _ (p : Problem) (l : ℕ) (q r : Patch) (of_box : box r ≡ box q) where
  module _ (same : SameValues q r) where
    pub small_on : ((c : Cell) → in_reach (box q) c ≡ true → value_in q c < 2 ^ 31) → (c : Cell) → in_reach (box r) c ≡ true → value_in r c < 2 ^ 31
    small_on small c h = subst (λ n. n < 2 ^ 31) (sym (same c)) (small c (ap (λ (b : Extent). in_reach b c) (sym of_box) ∙ h))

    pub sum_on : (c : Cell) → pos (mass_in r c) +ℤ net (flux_beside p l r) c ≡ pos (mass_in q c) +ℤ net (flux_beside p l q) c
    sum_on c = let flows = net_same (flux_beside p l r) (flux_beside p l q) (beside_same p l q r same) c in λ t. pos (same c t) +ℤ flows t

    -- so it may make its step where the other may
    pub may_on : MayStep p l q → MayStep p l r
    may_on may = record {
      level = may.level;
      inside = subst (λ (b : Extent). IsInDomain (domain p l) b) (sym of_box) may.inside;
      small = small_on may.small;
      kept = λ c h. subst (λ z. pos 0 ≤ℤ z) (sym (sum_on c)) (may.kept c (ap (λ (b : Extent). holds b c) (sym of_box) ∙ h));
      fits = λ c h. subst (λ z. z <ℤ pos (2 ^ 32)) (sym (sum_on c)) (may.fits c (ap (λ (b : Extent). holds b c) (sym of_box) ∙ h));
    }

    -- and what it becomes by its step the other becomes
    pub stepped_on : (s : Patch) → HasStepped p l r s → HasStepped p l q s
    stepped_on s h = record {
      of_box = h.of_box ∙ of_box;
      masses = λ c held. h.masses c (ap (λ (b : Extent). holds b c) of_box ∙ held) ∙ sum_on c;
    }

  -- ---- faces of flows, in the swept patch

  pub edges_on : (flows : List FlowTo) → AreEdgeFlows q flows → All (λ x. is_edge_face (box r) x.face ≡ true) flows
  edges_on flows own k d lt = ap (λ (b : Extent). is_edge_face b (get_or flows k d).face) of_box ∙ own k d lt
