-- What is of one species in the lists of a problem. (profile)
use Rattle.std.specs.Prelude.{ℕ, zero, suc, ◌==◌, Bool, List, map}
use Rattle.std.specs.List.{filter}
use Rattle.amr_def.specs.declared.problem.Block.{Block}
use Rattle.amr_def.specs.declared.problem.Sides.{Sides}
use Rattle.amr_def.specs.declared.problem.Sides.TheVariants.{Periodic, Open}

abbrev pub is_of : ℕ → Block → Bool
is_of k b = b.species == k

-- as of the only species
abbrev pub alone : Block → Block
alone b = record b { species = 0 }

-- the blocks of a species, as those of the only one
abbrev pub blocks_of : ℕ → List Block → List Block
blocks_of k bs = map alone (filter (is_of k) bs)

-- the inflows are of species 0
abbrev pub sides_of : ℕ → Sides → Sides
sides_of k Periodic = Periodic
sides_of zero (Open low high) = Open low high
sides_of (suc k) (Open low high) = Open 0 0
