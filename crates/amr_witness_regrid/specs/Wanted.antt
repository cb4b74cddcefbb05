-- The definitions of tags and new boxes, of one level by its masses and those of the next coarser level.
use Rattle.std.specs.Prelude.{ℕ, ◌+◌, Bool, ◌&&◌, ◌||◌, List, [], map, slice_index}
use Rattle.amr_box.specs.declared.Cell.{Cell}
use Rattle.amr_box.specs.Cells.{Extent, moved}
use Rattle.amr_def.specs.declared.problem.Problem.{Problem}
use Rattle.amr_def.specs.Domain.{domain, home_cell, in_domain, refined, has_cell_where, cells_where}
use Rattle.amr_def.specs.State.{Masses, State}
use Rattle.amr_def.specs.Value.{value_at}
use Rattle.amr_def.specs.Tags.{differs_by, is_grown, is_tagged_by}
use Rattle.amr_def.specs.NewBoxes.{block_side, is_projected}
use Rattle.amr_def.specs.Cluster.{cluster}
use Rattle.amr_regrid.specs.Blocks.{blocks_of}
use Rattle.amr_witness.specs.declared.PlainLevel.{PlainLevel}
use Rattle.amr_witness.specs.Maps.{levels_of}

-- whether a cell's neighbour at an offset is in the domain, and its value differs by the threshold or more
abbrev pub is_steep : Problem → ℕ → Masses → Masses → Cell → Cell → Bool
is_steep p l m coarse c o =
    in_domain (domain p l) (home_cell (domain p l) (moved c o))
    && differs_by (slice_index p.tag l) (value_at p l m coarse c) (value_at p l m coarse (moved c o))

abbrev pub is_wanted_by : Problem → ℕ → Masses → Masses → List Extent → Cell → Bool
is_wanted_by p l m coarse finer c = is_grown p l (is_tagged_by p l m coarse) c || is_projected (domain p (l + 1)) finer c

abbrev pub is_wanted_block : Problem → ℕ → Masses → Masses → List Extent → Cell → Bool
is_wanted_block p l m coarse finer = has_cell_where (block_side p) (is_wanted_by p l m coarse finer)

-- the new boxes of level l + 1, where those of l + 2 are `finer`
abbrev pub boxes_over : Problem → ℕ → Masses → Masses → List Extent → List Extent
boxes_over p l m coarse finer = map (refined p.blocking) (cluster p.efficiency p.min_width (cells_where (blocks_of p l) (is_wanted_block p l m coarse finer)))

-- a state with these levels
abbrev pub with_levels : List PlainLevel → State
with_levels ks = record { step = 0; rows = []; levels = levels_of ks }
