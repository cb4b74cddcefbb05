-- The problems and states of the worked rows.
use Rattle.std.proofs.Common.{ℕ, ℤ, pos, negsuc, List, [], ◌∷◌, cond, rules}
use Rattle.std.specs.Prelude.{codes}
use Rattle.std.specs.declared.option.Option.TheVariants.{None, Some}
use Rattle.amr_box.specs.declared.Cell.{Cell}
use Rattle.amr_box.specs.Cells.{Extent, extent, cell, holds}
use Rattle.amr_def.specs.declared.problem.Problem.{Problem}
use Rattle.amr_def.specs.declared.problem.Block.{Block}
use Rattle.amr_def.specs.declared.problem.Sides.{Sides}
use Rattle.amr_def.specs.declared.problem.Sides.TheVariants.{Periodic, Open}
use Rattle.amr_def.specs.Limits.{Limits}
use Rattle.amr_def.specs.State.{Masses, State}

abbrev pub box : ℕ → ℕ → ℕ → ℕ → Extent
box a b c d = extent (cell (pos a) (pos b)) (cell (pos c) (pos d))

abbrev pub at : ℕ → ℕ → Cell
at x y = cell (pos x) (pos y)

abbrev pub block : ℕ → ℕ → ℕ → ℕ → ℕ → Block
block a b c d m = record { x0 = a; y0 = b; x1 = c; y1 = d; mass = m; species = 0 }

-- the keys of a problem, the limits that they keep, and the problem
pub record Keys : Type 0 where
  pub version : ℕ
  pub name : List ℕ
  pub nx : ℕ
  pub ny : ℕ
  pub steps : ℕ
  pub cx : ℤ
  pub cy : ℤ
  pub d : ℕ
  pub shear_x : List ℤ
  pub shear_y : List ℤ
  pub x_sides : Sides
  pub y_sides : Sides
  pub max_level : ℕ
  pub tag : List ℕ
  pub n_error_buf : ℕ
  pub efficiency : ℕ
  pub min_width : ℕ
  pub regrid_int : ℕ
  pub blocking : ℕ
  pub max_grid_size : ℕ
  pub blocks : List Block
  pub species : ℕ

abbrev pub AreWithinLimits : Keys → Type 0
AreWithinLimits k = Limits k.version k.name k.nx k.ny k.steps k.cx k.cy k.d k.shear_x k.shear_y k.x_sides k.y_sides k.max_level k.tag k.n_error_buf k.efficiency k.min_width k.regrid_int k.blocking k.max_grid_size k.blocks k.species

abbrev pub problem : (k : Keys) → AreWithinLimits k → Problem
problem k limits = record {
  version = k.version;
  name = k.name;
  nx = k.nx;
  ny = k.ny;
  steps = k.steps;
  cx = k.cx;
  cy = k.cy;
  d = k.d;
  shear_x = k.shear_x;
  shear_y = k.shear_y;
  x_sides = k.x_sides;
  y_sides = k.y_sides;
  max_level = k.max_level;
  tag = k.tag;
  n_error_buf = k.n_error_buf;
  efficiency = k.efficiency;
  min_width = k.min_width;
  regrid_int = k.regrid_int;
  blocking = k.blocking;
  max_grid_size = k.max_grid_size;
  blocks = k.blocks;
  species = k.species;
  limits = limits;
}

-- a ring of 4 by 2 cells with mass in the first, at Courant number 1/2
abbrev pub ring_keys : Keys
ring_keys = record {
  version = 1;
  name = codes "ring";
  nx = 4;
  ny = 2;
  steps = 2;
  cx = pos 1;
  cy = pos 0;
  d = 2;
  shear_x = [];
  shear_y = [];
  x_sides = Periodic;
  y_sides = Periodic;
  max_level = 0;
  tag = [];
  n_error_buf = 1;
  efficiency = 70;
  min_width = 2;
  regrid_int = 2;
  blocking = 2;
  max_grid_size = 32;
  blocks = block 0 0 0 0 8 ∷ [];
  species = 1;
}

pub ring_limits : AreWithinLimits ring_keys
ring_limits = search rules

abbrev pub ring : Problem
ring = problem ring_keys ring_limits

-- the same with a mass that no share divides
abbrev pub odd_ring_keys : Keys
odd_ring_keys = record ring_keys { blocks = block 0 0 0 0 7 ∷ [] }

pub odd_ring_limits : AreWithinLimits odd_ring_keys
odd_ring_limits = search rules

abbrev pub odd_ring : Problem
odd_ring = problem odd_ring_keys odd_ring_limits

-- an open domain of 2 by 2 cells at Courant number 1
abbrev pub open_pair_keys : Keys
open_pair_keys = record ring_keys { nx = 2; steps = 1; cx = pos 2; x_sides = Open 0 0; y_sides = Open 0 0; blocks = block 1 0 1 0 5 ∷ [] }

pub open_pair_limits : AreWithinLimits open_pair_keys
open_pair_limits = search rules

abbrev pub open_pair : Problem
open_pair = problem open_pair_keys open_pair_limits

-- an empty domain into which mass flows
abbrev pub filling_keys : Keys
filling_keys = record ring_keys { nx = 2; steps = 1; x_sides = Open 6 0; y_sides = Open 0 0; blocks = [] }

pub filling_limits : AreWithinLimits filling_keys
filling_limits = search rules

abbrev pub filling : Problem
filling = problem filling_keys filling_limits

-- a ring of 9 by 3 cells with mass in the last column, at Courant number 1
abbrev pub long_ring_keys : Keys
long_ring_keys = record ring_keys { nx = 9; ny = 3; d = 1; blocks = block 8 0 8 0 8 ∷ [] }

pub long_ring_limits : AreWithinLimits long_ring_keys
long_ring_limits = search rules

abbrev pub long_ring : Problem
long_ring = problem long_ring_keys long_ring_limits

-- a ring with a finer level, at Courant number 1
abbrev pub edged_keys : Keys
edged_keys = record ring_keys { steps = 1; d = 1; max_level = 1; tag = 9 ∷ []; blocks = [] }

pub edged_limits : AreWithinLimits edged_keys
edged_limits = search rules

abbrev pub edged : Problem
edged = problem edged_keys edged_limits

-- 2 by 2 cells, all of them tagged
abbrev pub touching_keys : Keys
touching_keys = record ring_keys { nx = 2; steps = 1; max_level = 1; tag = 1 ∷ []; blocks = block 0 0 0 1 8 ∷ [] }

pub touching_limits : AreWithinLimits touching_keys
touching_limits = search rules

abbrev pub touching : Problem
touching = problem touching_keys touching_limits

-- one cell that differs from its neighbours
abbrev pub spot_keys : Keys
spot_keys = record ring_keys { steps = 0; cx = pos 0; d = 1; max_level = 1; tag = 4 ∷ []; n_error_buf = 0; efficiency = 100; min_width = 1; blocks = block 1 0 1 0 7 ∷ [] }

pub spot_limits : AreWithinLimits spot_keys
spot_limits = search rules

abbrev pub spot : Problem
spot = problem spot_keys spot_limits

-- the same where boxes may hold more cells that are not tagged
abbrev pub loose_spot_keys : Keys
loose_spot_keys = record ring_keys { steps = 0; cx = pos 0; d = 1; max_level = 1; tag = 4 ∷ []; n_error_buf = 0; efficiency = 60; min_width = 1; blocks = block 1 0 1 0 7 ∷ [] }

pub loose_spot_limits : AreWithinLimits loose_spot_keys
loose_spot_limits = search rules

abbrev pub loose_spot : Problem
loose_spot = problem loose_spot_keys loose_spot_limits

-- the same with a blocking factor of 4
abbrev pub blocked_spot_keys : Keys
blocked_spot_keys = record ring_keys { steps = 0; cx = pos 0; d = 1; max_level = 1; tag = 4 ∷ []; n_error_buf = 0; efficiency = 100; min_width = 1; blocking = 4; blocks = block 1 0 1 0 7 ∷ [] }

pub blocked_spot_limits : AreWithinLimits blocked_spot_keys
blocked_spot_limits = search rules

abbrev pub blocked_spot : Problem
blocked_spot = problem blocked_spot_keys blocked_spot_limits

-- three levels
abbrev pub three_levels_keys : Keys
three_levels_keys = record ring_keys { nx = 2; steps = 0; cx = pos 0; d = 1; max_level = 2; tag = 1 ∷ 1 ∷ []; n_error_buf = 0; blocks = block 0 0 0 1 64 ∷ [] }

pub three_levels_limits : AreWithinLimits three_levels_keys
three_levels_limits = search rules

abbrev pub three_levels : Problem
three_levels = problem three_levels_keys three_levels_limits

-- five levels
abbrev pub five_levels_keys : Keys
five_levels_keys = record ring_keys { nx = 2; steps = 0; cx = pos 0; d = 1; max_level = 4; tag = 1 ∷ 1 ∷ 1 ∷ 1 ∷ []; n_error_buf = 4; blocks = block 0 0 0 1 1024 ∷ [] }

pub five_levels_limits : AreWithinLimits five_levels_keys
five_levels_limits = search rules

abbrev pub five_levels : Problem
five_levels = problem five_levels_keys five_levels_limits

-- a ring whose rows flow against each other
abbrev pub sheared_keys : Keys
sheared_keys = record ring_keys { steps = 1; cx = pos 0; shear_x = (pos 1) ∷ (negsuc 0) ∷ []; blocks = block 0 0 0 1 8 ∷ [] }

pub sheared_limits : AreWithinLimits sheared_keys
sheared_limits = search rules

abbrev pub sheared : Problem
sheared = problem sheared_keys sheared_limits

-- a ring of two levels: mass m in cell (1, 0), and cell (2, 0) covered by empty cells
abbrev pub edge_coarse : ℕ → Masses
edge_coarse m c = cond (holds (box 0 0 3 1) c) (Some (cond (holds (box 1 0 1 0) c) m 0)) None

abbrev pub edge_fine : Masses
edge_fine c = cond (holds (box 4 0 5 1) c) (Some 0) None

abbrev pub edge_state : ℕ → State
edge_state m = record {
  step = 0;
  rows = record { mass = m; inflow = 0; outflow = 0 } ∷ [];
  levels = record { boxes = box 0 0 3 1 ∷ []; masses = edge_coarse m } ∷ record { boxes = box 4 0 5 1 ∷ []; masses = edge_fine } ∷ [];
}
