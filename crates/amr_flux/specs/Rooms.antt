-- How wide a patch may be that a room serves.
use Rattle.std.specs.Prelude.{ℕ, length}
use Rattle.amr_flux.specs.declared.room.Room.{Room}

unfoldable pub widest : Room → ℕ
widest r = length r.low.items
