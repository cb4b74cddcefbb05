-- Boxes as a payload has them.
use Rattle.std.specs.Prelude.{◌≤◌, ◌<◌, pos}
use Rattle.amr_box.specs.Cells.{Extent, cell, extent}
use Rattle.amr_decoder.specs.declared.boxes.Corners.{Corners}

abbrev pub box_at : Corners → Extent
box_at b = extent (cell (pos b.west) (pos b.south)) (cell (pos b.east) (pos b.north))

-- the corners are in order, and below 4096, as those of each box of a domain
pub record IsSmall (b : Corners) : Type 0 where
  pub wide : b.west ≤ b.east
  pub high : b.south ≤ b.north
  pub east : b.east < 4096
  pub north : b.north < 4096
