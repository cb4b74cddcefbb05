-- What flows between cells of small values is small.
use Rattle.std.proofs.Common.{◌≡◌, ℕ, zero, suc, ◌*◌, ◌/◌, ◌^◌, ◌<◌, ◌≤◌, true, ℤ, pos, negsuc, neg_ℤ, arith}
use Rattle.std.specs.Prelude.{unsigned_abs}
use Rattle.amr_box.specs.declared.Cell.{Cell}
use Rattle.amr_box.specs.declared.Face.{Face}
use Rattle.amr_def.specs.declared.problem.Problem.{Problem}
use Rattle.amr_def.specs.Domain.{domain, home_cell}
use Rattle.amr_def.specs.Flux.{courant, flow, high_cell, low_cell}
use Rattle.amr_def.proofs.Totals.{number_small}
use Rattle.amr_patch.specs.declared.patches.Patch.{Patch}
use Rattle.amr_patch.specs.Places.{is_face_of}
use Rattle.amr_patch.specs.Patches.{box, value_in}
use Rattle.amr_faces.specs.Faces.{flux_beside, in_reach}
use Rattle.amr_faces.proofs.Reciprocals.{share_within}
use Rattle.amr_faces.proofs.Shown.{high_in_reach, low_in_reach}

size_of_negative : (n b : ℕ) → n < b → unsigned_abs (neg_ℤ (pos n)) < b
size_of_negative zero b h = h
size_of_negative (suc n) b h = h

flow_small : (c : ℤ) (d low high b : ℕ) → unsigned_abs c ≤ d → low < b → high < b → unsigned_abs (flow c d low high) < b
flow_small (pos a) d low high b within l h = let s : a * low / d ≤ low = share_within (pos a) d low within in omega (arith, s, l)
flow_small (negsuc a) d low high b within l h = let s : suc a * high / d ≤ high = share_within (negsuc a) d high within in size_of_negative (suc a * high / d) b (omega (arith, s, h))

pub beside_small : (p : Problem) (l : ℕ) (q : Patch) → ((c : Cell) → in_reach (box q) c ≡ true → value_in q c < 2 ^ 31) → (f : Face) → is_face_of (box q) f ≡ true → unsigned_abs (flux_beside p l q f) < 2 ^ 31
unfolding flux_beside courant
beside_small p l q small f e =
    flow_small (courant p l f) p.d (value_in q (low_cell f)) (value_in q (high_cell f)) (2 ^ 31) (number_small p l f.axis (home_cell (domain p l) (high_cell f)))
    (small (low_cell f) (low_in_reach (box q) f.axis f.x f.y e)) (small (high_cell f) (high_in_reach (box q) f.axis f.x f.y e))
