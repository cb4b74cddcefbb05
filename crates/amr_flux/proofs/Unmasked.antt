-- Where no face is marked, what flows through the faces of a patch follows from its values.
use Rattle.std.proofs.Common.{◌≡◌, ℕ, zero, suc, ◌+◌, [], length, refl, sym, ◌∙◌, arith}
use Rattle.amr_box.specs.declared.Cell.{Cell}
use Rattle.amr_box.specs.Cells.{height, width}
use Rattle.amr_def.specs.declared.problem.Problem.{Problem}
use Rattle.amr_def.specs.Flux.{net}
use Rattle.amr_patch.specs.declared.patches.Patch.{Patch}
use Rattle.amr_patch.specs.Patches.{box}
use Rattle.amr_faces.specs.Faces.{flux_beside, fluxes_by, masked_faces}
use Rattle.amr_faces.proofs.MaskedPlaces.{by_beside}
use Rattle.amr_flux.specs.Tables.{count_below, x_marked, y_marked}
use Rattle.amr_flux.proofs.Given.{masked_count}

-- no face is counted
no_ends : (w n : ℕ) → count_below (x_marked w []) n ≡ 0
no_ends w zero = refl
no_ends w (suc n) = let before : count_below (x_marked w []) n ≡ 0 = no_ends w n in let r : count_below (x_marked w []) n + 0 ≡ 0 = omega (arith, before) in r

no_tops : (w h n : ℕ) → count_below (y_marked w h []) n ≡ 0
no_tops w h zero = refl
no_tops w h (suc n) = let before : count_below (y_marked w h []) n ≡ 0 = no_tops w h n in let r : count_below (y_marked w h []) n + 0 ≡ 0 = omega (arith, before) in r

none_marked : (w h : ℕ) → count_below (x_marked w []) h + count_below (y_marked w h []) w ≡ 0
none_marked w h = omega (arith, no_ends w h, no_tops w h w)

-- so no size is handed in
pub none_handed : (q : Patch) → 0 ≡ length (masked_faces (box q) [])
none_handed q = sym (masked_count q [] ∙ none_marked (width q.bx) (height q.bx))

-- what flows in is by the values alone
pub alone : (p : Problem) (l : ℕ) (q : Patch) (c : Cell) → net (fluxes_by p l q [] []) c ≡ net (flux_beside p l q) c
alone p l q c = by_beside p l q [] [] (none_handed q) (λ k f h. absurd (omega arith)) c
