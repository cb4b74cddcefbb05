-- The cells that a cover has.
use Rattle.std.specs.Prelude.{Bool}
use Rattle.amr_box.specs.declared.Cell.{Cell}
use Rattle.amr_box.specs.Cells.{in_boxes}
use Rattle.amr_register.specs.declared.cover.Cover.{Cover}

-- whether it has a cell: one of its bars does
unfoldable pub covers : Cover → Cell → Bool
covers v c = in_boxes v.bars.items c
