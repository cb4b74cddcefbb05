-- What a stop leaves of a write, by its mode. (profile)
use Rattle.std.specs.Prelude.{ℕ, List, length, replicate}
use Rattle.amr_disk.specs.Image.{placed, written_at}
use Rattle.amr_disk.specs.declared.leave.Leave.{Leave}
use Rattle.amr_disk.specs.declared.leave.Leave.TheVariants.{Old, New, Filled}

-- what is left of a write that no sync followed
abbrev pub part_of : Leave → ℕ → List ℕ → List ℕ → List ℕ
part_of Old at bytes image = image
part_of New at bytes image = written_at at bytes image
part_of (Filled byte) at bytes image = placed byte at (replicate (length bytes) byte) image
