-- Belts of rows.
use Rattle.std.specs.Prelude.{Bool}
use Rattle.amr_box.specs.declared.Cell.{Cell}
use Rattle.amr_box.specs.Cells.{within}
use Rattle.amr_register.specs.declared.belts.Belt.{Belt}

-- whether a cell lies in a belt
abbrev pub is_in_belt : Belt → Cell → Bool
is_in_belt s c = within s.first s.last c.y
