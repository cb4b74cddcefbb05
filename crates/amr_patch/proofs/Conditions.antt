-- The tests on frames and faces, by what the calls on boxes answer.
use Rattle.std.proofs.Common.{◌≡◌, ◌∙◌, Bool, true, ◌&&◌, ℤ, pos, ◌+ℤ◌, ◌-ℤ◌, sym, ap}
use Rattle.amr_box.specs.declared.Cell.{Cell}
use Rattle.amr_box.specs.declared.Axis.{Axis}
use Rattle.amr_box.specs.Cells.{Extent, HasCorners, holds, within}
use Rattle.amr_box.proofs.Boxes.{and-yes}
use Rattle.amr_patch.specs.Places.{grown, is_end, on_edge}

pub grown_is : (b g : Extent) (c : Cell) → HasCorners g (b.lo.x -ℤ pos 1) (b.lo.y -ℤ pos 1) (b.hi.x +ℤ pos 1) (b.hi.y +ℤ pos 1) → holds g c ≡ holds (grown b) c
grown_is b g c k = ap (λ (e : Extent). holds e c) (λ i. record { lo = record { x = k.west_is i; y = k.south_is i }; hi = record { x = k.east_is i; y = k.north_is i } })

pub ruleset conditions = (grown_is, and-yes)

-- ---- faces

-- a test of a row or a column and one of an edge, by numbers that are those of the box
pub on_edge_is : (axis a : Axis) (b : Extent) (c : Cell) (low high z first last across : ℤ) (r : Bool) → axis ≡ a → on_edge a b c ≡ (within low high z && is_end first last across) → true ≡ within low high z → r ≡ is_end first last across → r ≡ on_edge axis b c
on_edge_is axis a b c low high z first last across r e f t k = k ∙ ap (λ (u : Bool). u && is_end first last across) t ∙ sym f ∙ ap (λ (s : Axis). on_edge s b c) (sym e)
