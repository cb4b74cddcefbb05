-- Patches of a level, which lie in its domain.
use Rattle.std.proofs.Common.{◌≤◌, ◌^◌, ◌+ℤ◌, ◌-ℤ◌, pos, ℕ, List, [], ◌∷◌, length, ap, arith, ◌∙◌}
use Rattle.std.proofs.lemmas.Int.{ints}
use Rattle.std.specs.List.{All}
use Rattle.amr_box.specs.Cells.{holds}
use Rattle.amr_def.specs.declared.problem.Problem.{Problem}
use Rattle.amr_def.specs.Domain.{domain}
use Rattle.amr_patch.proofs.Lookups.{in_one, same_default}
use Rattle.amr_patch.specs.declared.patches.Patch.{Patch}
use Rattle.amr_patch.specs.Patches.{box}
use Rattle.amr_faces.specs.Faces.{IsInDomain}
use Rattle.amr_layout.proofs.Counts.{faces_few}
use Rattle.amr_layout.specs.Surroundings.{edge_count}
use Rattle.amr_patch.specs.Patches.{ArePatchesApart}
use Rattle.amr_phase.specs.Plans.{total}
use Rattle.amr_box.proofs.Numbers.{at_least_zero-same}
use Rattle.amr_ghost.specs.Frames.{AreInDomain}

-- the box of each patch of a level lies in its domain
pub all_lie : (p : Problem) (l : ℕ) (qs : List Patch) → AreInDomain (domain p l) qs → All (λ (q : Patch). IsInDomain (domain p l) (box q)) qs
all_lie p l qs inside k r lt = record { at = λ c h. inside c (in_one qs c k (record { inside = lt; holds_it = λ g. ap (λ (x : Patch). holds (box x) c) (same_default qs k g r lt) ∙ h })) }

edge_there : (q : Patch) → 1 ≤ edge_count (box q)
edge_there q =
    let wide = at_least_zero-same ((box q).hi.x +ℤ pos 1 -ℤ (box q).lo.x) (omega (arith, ints, q.near.wide)) in
    omega (arith, ints, wide, q.near.wide)

few_of : (qs : List Patch) → length qs ≤ total (λ q. edge_count (box q)) qs
few_of [] = omega arith
few_of (q ∷ qs) = omega (arith, few_of qs, edge_there q)

-- there are at most as many as their edges have faces
pub few_patches : (p : Problem) (l : ℕ) (qs : List Patch) → l ≤ 4 → ArePatchesApart qs → AreInDomain (domain p l) qs → length qs ≤ 2 ^ 26
few_patches p l qs few apart inside = omega (arith, few_of qs, faces_few p l qs few apart (all_lie p l qs inside))
