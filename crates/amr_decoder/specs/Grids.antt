-- What a box and the source of its masses stand for.
use Rattle.std.specs.Prelude.{◌≡◌, ℕ, ◌+◌, ◌*◌, ◌^◌, ◌<◌, ◌≤◌, List, drop, length, map}
use Rattle.std.specs.Int.{byte_len}
use Rattle.amr_box.specs.Cells.{Extent, height, width}
use Rattle.amr_codec.specs.MassWidths.{width_of}
use Rattle.amr_codec.specs.declared.numbers.MassWidth.{MassWidth}
use Rattle.amr_payload.specs.Tests as tests
use Rattle.amr_decoder.specs.declared.grid.Grid.{Grid}
use Rattle.amr_decoder.specs.declared.grid.Source.{Source}
use Rattle.amr_decoder.specs.declared.grid.Source.TheVariants as source
use Rattle.amr_decoder.specs.Numbers.{number_at, numbers}

-- n masses: those that stand in the bytes from a place on, or those of a list
abbrev pub masses_of : List ℕ → Source → ℕ → List ℕ
masses_of bytes (source.Bytes w from) n = numbers (width_of w) n (drop from bytes)
masses_of bytes (source.List ms) n = ms.items

-- its box and its masses
abbrev pub grid_of : List ℕ → Grid → tests.Grid
grid_of bytes g = record { box = g.bx; masses = masses_of bytes g.masses (width g.bx * height g.bx) }

abbrev pub boxes_of : List Grid → List Extent
boxes_of gs = map (λ g. g.bx) gs

-- n masses of a width stand in the bytes from a place on, and fit 32 bits
pub record AreInBytes (bytes : List ℕ) (w : MassWidth) (from n : ℕ) : Type 0 where
  pub inside : from + byte_len (width_of w) * n ≤ length bytes
  pub small : (i : ℕ) → i < n → number_at (width_of w) (drop from bytes) i < 2 ^ 32

-- a source has n masses
abbrev pub HasMasses : List ℕ → Source → ℕ → Type 0
HasMasses bytes (source.Bytes w from) n = AreInBytes bytes w from n
HasMasses bytes (source.List ms) n = length ms.items ≡ n

-- a box has a mass for each of its cells
pub record IsWhole (bytes : List ℕ) (g : Grid) : Type 0 where
  pub at : HasMasses bytes g.masses (width g.bx * height g.bx)
