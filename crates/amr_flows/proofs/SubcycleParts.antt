-- What patches with no cell in common take from an entry together is small.
use Rattle.std.proofs.Common.{◌≡◌, ℕ, suc, ◌*◌, ◌^◌, ◌<◌, true, false, ◌&&◌, ℤ, pos, List, [], ◌∷◌, length, refl, sym, subst, arith}
use Rattle.std.specs.Prelude.{slice_index_or, unsigned_abs}
use Rattle.std.specs.List.{All}
use Rattle.std.proofs.lemmas.Int.{ints}
use Rattle.std.proofs.lemmas.Bool.{and_right, cond-false}
use Rattle.amr_box.specs.declared.Cell.{Cell}
use Rattle.amr_box.specs.declared.Face.{Face}
use Rattle.amr_box.specs.Cells.{holds}
use Rattle.amr_def.specs.declared.problem.Problem.{Problem}
use Rattle.amr_def.specs.Domain.{domain, home_cell}
use Rattle.amr_def.specs.State.{Masses}
use Rattle.amr_def.specs.Flux.{Fluxes, flux_at, high_cell, net}
use Rattle.amr_def.proofs.Subcycle.{bool_cases, is_false}
use Rattle.amr_patch.specs.declared.patches.Patch.{Patch}
use Rattle.amr_patch.specs.Patches.{ArePatchesApart, box}
use Rattle.amr_faces.specs.Faces.{ShowsValues, flux_beside}
use Rattle.amr_faces.proofs.Shown.{flux_is}
use Rattle.amr_register.specs.CoarseFlows.{coarse_flows, has_high_cell, home_face}
use Rattle.amr_register.specs.RegisterCells.{is_coarse_fine}
use Rattle.amr_register.specs.Laws.{net_of_all}
use Rattle.amr_register.proofs.OwnedFlows.{low_face_of_box}
use Rattle.amr_flows.specs.Subcycle.{PartsTakenFit}
use Rattle.amr_flows.proofs.RegisterFlowsSums.{sum_over}
use Rattle.amr_flows.proofs.SubcycleSizes.{IsWithin, cond_within, net_size, within_from}

module _ (p : Problem) (l : ℕ) (m old fine : Masses) (small : (f : Face) → unsigned_abs (flux_at p l m old f) < 2 ^ 31) where
  abbrev taken : List Patch → Fluxes
  taken ps f = sum_over (λ q. coarse_flows p l fine q f) ps

  as_one : (ps : List Patch) (c : Cell) → net_of_all p l fine ps c ≡ net (taken ps) c
  unfolding net
  as_one [] c = refl
  as_one (q ∷ qs) c = omega (arith, ints, as_one qs c)

  -- the cell by which the owner of a face is told
  abbrev teller : Face → Cell
  teller f = home_cell (domain p l) (high_cell f)

  from_owner : (q : Patch) (f : Face) → ShowsValues p l m old q → holds (box q) (teller f) ≡ true → IsWithin (2 ^ 31) (coarse_flows p l fine q f)
  unfolding coarse_flows
  from_owner q f shows held =
      let at : flux_beside p l q (home_face (domain p l) f) ≡ flux_at p l m old (home_face (domain p l) f) = flux_is p l m old q shows (home_face (domain p l) f) (low_face_of_box (box q) f.axis (teller f) held) in
      cond_within (2 ^ 31) (is_coarse_fine (domain p l) fine f && has_high_cell (domain p l) (box q) f) (flux_beside p l q (home_face (domain p l) f))
      (within_from (2 ^ 31) (flux_beside p l q (home_face (domain p l) f)) (subst (λ (z : ℤ). unsigned_abs z < 2 ^ 31) (sym at) (small (home_face (domain p l) f))))

  from_other : (q : Patch) (f : Face) → holds (box q) (teller f) ≡ false → coarse_flows p l fine q f ≡ pos 0
  unfolding coarse_flows
  from_other q f e = cond-false (is_coarse_fine (domain p l) fine f && has_high_cell (domain p l) (box q) f) _ _ (and_right (is_coarse_fine (domain p l) fine f) (has_high_cell (domain p l) (box q) f) e)

  from_others : (ps : List Patch) (f : Face) → ((j : ℕ) (d : Patch) → j < length ps → holds (box (slice_index_or ps j d)) (teller f) ≡ true → ⊥) → taken ps f ≡ pos 0
  from_others [] f none = refl
  from_others (q ∷ qs) f none = omega (arith, ints, from_other q f (is_false _ (none 0 q (omega arith))), from_others qs f (λ j d lt. none (suc j) d (omega arith)))

  at_face : (ps : List Patch) (f : Face) → ArePatchesApart ps → All (ShowsValues p l m old) ps → IsWithin (2 ^ 31) (taken ps f)
  at_face [] f apart shown = record { low = omega (arith, ints); high = omega (arith, ints) }
  at_face (q ∷ qs) f apart shown =
      let rest = at_face qs f (λ i j d lt h. apart (suc i) (suc j) d (omega arith) (omega arith)) (λ k d lt. shown (suc k) d (omega arith)) in
      bool_cases (holds (box q) (teller f))
      (λ held.
      let one = from_owner q f (shown 0 q (omega arith)) held in
      let none = from_others qs f (λ j d lt other. apart 0 (suc j) d (omega arith) (omega arith) (teller f) held other) in
      record { low = omega (arith, ints, one.low, none); high = omega (arith, ints, one.high, none) })
      (λ out.
      let none = from_other q f out in
      record { low = omega (arith, ints, rest.low, none); high = omega (arith, ints, rest.high, none) })

pub parts_taken_fit : PartsTakenFit
parts_taken_fit p l m old fine ps c small apart shown =
    let size : unsigned_abs (net (taken p l m old fine small ps) c) < 4 * 2 ^ 31 = net_size (2 ^ 31) (taken p l m old fine small ps) c (λ f. at_face p l m old fine small ps f apart shown) in
    let same : net_of_all p l fine ps c ≡ net (taken p l m old fine small ps) c = as_one p l m old fine small ps c in
    subst (λ (z : ℤ). unsigned_abs z < 2 ^ 33) (sym same) size
