-- The sides of a box, and sets of sides.
use Rattle.std.specs.Prelude.{Bool, cond}
use Rattle.std.specs.Ordering.{int_eq}
use Rattle.amr_box.specs.declared.Face.{Face}
use Rattle.amr_box.specs.declared.Axis.{Axis}
use Rattle.amr_box.specs.declared.Axis.TheVariants.{X, Y}
use Rattle.amr_box.specs.Cells.{Extent}
use Rattle.amr_flux.specs.declared.fluxes.PatchSides.{PatchSides}

pub data Side : Type 0 where
  west : Side
  east : Side
  south : Side
  north : Side

-- whether a side is one of these
abbrev pub includes : PatchSides → Side → Bool
includes s west = s.x_low
includes s east = s.x_high
includes s south = s.y_low
includes s north = s.y_high

abbrev pub side_along : Axis → Extent → Face → Side
side_along X b f = cond (int_eq f.x b.lo.x) west east
side_along Y b f = cond (int_eq f.y b.lo.y) south north

-- the side that a face on the edges of a box lies on
abbrev pub side_of : Extent → Face → Side
side_of b f = side_along f.axis b f
