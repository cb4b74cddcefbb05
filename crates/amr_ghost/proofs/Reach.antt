-- The values of all cells that a patch reaches, once its frame is filled: its own cells and the ghost cells beside it.
use Rattle.std.proofs.Common.{◌≡◌, ℕ, ◌<◌, Bool, true, false, ◌&&◌, ◌||◌, List, length, get_or, IsTrue, refl, sym, ap, subst, ◌∙◌, arith}
use Rattle.std.specs.Prelude.{is_some, not}
use Rattle.std.specs.declared.option.Option.{Option}
use Rattle.std.specs.Option.{unwrap_or}
use Rattle.std.specs.List.{All, AllZip}
use Rattle.std.proofs.lemmas.List.Elements.{AllZip-get_or, length_all_zip}
use Rattle.std.proofs.lemmas.Bool.{and_parts}
use Rattle.amr_box.specs.declared.Cell.{Cell}
use Rattle.amr_box.specs.Cells.{Extent, cell, holds, within}
use Rattle.amr_def.specs.declared.problem.Problem.{Problem}
use Rattle.amr_def.specs.Domain.{Domain, domain, home_cell, in_domain, is_inside}
use Rattle.amr_def.specs.State.{Masses}
use Rattle.amr_def.specs.Value.{value_at}
use Rattle.amr_def.proofs.Values.{value_here}
use Rattle.amr_patch.specs.declared.patches.Patch.{Patch}
use Rattle.amr_patch.specs.Places.{grown}
use Rattle.amr_patch.specs.Patches.{ArePatchesApart, box, mass_in, masses_in, value_in}
use Rattle.amr_patch.specs.Orders.{IsHolder}
use Rattle.amr_patch.proofs.Lookups.{in_one, masses_in-at}
use Rattle.amr_ghost.specs.Frames.{AreInDomain, HasGhostValues, SameMasses}
use Rattle.amr_def.proofs.Homes.{inside-itself}

-- a cell of the domain stands for itself
pub home_inside : (d : Domain) (c : Cell) → IsTrue (in_domain d c) → home_cell d c ≡ c
unfolding in_domain
home_inside d c h = λ i. cell (inside-itself d.wrap_x d.columns c.x ((and_parts (is_inside d.columns c.x) (is_inside d.rows c.y) h).0) i) (inside-itself d.wrap_y d.rows c.y ((and_parts (is_inside d.columns c.x) (is_inside d.rows c.y) h).1) i)

-- the value of a cell of a patch is its mass
pub own_value : (p : Problem) (l : ℕ) (old : Masses) (ps : List Patch) (k : ℕ) (d : Patch) (c : Cell) → ArePatchesApart ps → AreInDomain (domain p l) ps → k < length ps → ((e : Patch) → IsTrue (holds (box (get_or ps k e)) c)) → value_at p l (masses_in ps) old c ≡ mass_in (get_or ps k d) c
own_value p l old ps k d c apart inside there held =
    let here : IsHolder ps c k = record { inside = there; holds_it = held } in
    let mass = masses_in-at ps c k d apart here in
    value_here p l (masses_in ps) old c c (home_inside (domain p l) c (inside c (in_one ps c k here))) (ap is_some mass) ∙ ap (λ (o : Option ℕ). unwrap_or o 0) mass

pub reach_values : (p : Problem) (l : ℕ) (old : Masses) (ps qs : List Patch) (k : ℕ) (d : Patch) (c : Cell) → ArePatchesApart ps → AreInDomain (domain p l) ps → AllZip SameMasses ps qs → ((e : Patch) → box (get_or qs k d) ≡ box (get_or ps k e)) → All (HasGhostValues p l (masses_in ps) old) qs → k < length qs → IsTrue (holds (grown (box (get_or qs k d))) c && (within (box (get_or qs k d)).lo.x (box (get_or qs k d)).hi.x c.x || within (box (get_or qs k d)).lo.y (box (get_or qs k d)).hi.y c.y)) → value_in (get_or qs k d) c ≡ value_at p l (masses_in ps) old c
reach_values p l old ps qs k d c apart inside masses boxes filled there reach = by_box (holds (box (get_or qs k d)) c) refl
  where
    n : length ps ≡ length qs
    n = length_all_zip SameMasses ps qs masses

    here : k < length ps
    here = let e : length ps ≡ length qs = n in omega arith

    ghost_of : (g h r : Bool) → h ≡ false → IsTrue (g && r) → IsTrue ((g && not h) && r)
    ghost_of true false r e t = t
    ghost_of true true r e t = absurd (cc)
    ghost_of false h r e t = t

    by_box : (t : Bool) → holds (box (get_or qs k d)) c ≡ t → value_in (get_or qs k d) c ≡ value_at p l (masses_in ps) old c
    by_box true e = AllZip-get_or SameMasses ps qs k d d masses here c (subst (λ (b : Extent). IsTrue (holds b c)) (boxes d) e) ∙ sym (own_value p l old ps k d c apart inside here (λ q. subst (λ (b : Extent). IsTrue (holds b c)) (boxes q) e))
    by_box false e = filled k d there c (ghost_of (holds (grown (box (get_or qs k d))) c) (holds (box (get_or qs k d)) c) (within (box (get_or qs k d)).lo.x (box (get_or qs k d)).hi.x c.x || within (box (get_or qs k d)).lo.y (box (get_or qs k d)).hi.y c.y) e reach)
