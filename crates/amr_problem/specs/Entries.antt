-- What a problem writes at its keys.
use Rattle.std.specs.Prelude.{◌≡◌, ◌≤◌, ◌||◌, ◌==◌, ℤ, pos, negsuc, ◌≤ℤ◌, unsigned_abs, Bool, true, Option}
use Rattle.std.specs.Prelude.{Some, None, option_map, is_none, List, [], ◌∷◌, length}
use Rattle.std.specs.Ordering.{int_eq}
use Rattle.std.specs.List.{list_all}
use Rattle.std.specs.Option.{option_or}
use Rattle.toml.specs.Data.{Members}
use Rattle.amr_def.specs.Limits.{is_name_byte}
use Rattle.amr_problem.specs.declared.entries.Basics.{Basics}
use Rattle.amr_problem.specs.declared.entries.Refining.{Refining}
use Rattle.amr_problem.specs.declared.entries.Overlay.{Overlay}
use Rattle.amr_problem.specs.declared.entries.Entries.{Entries}
use Rattle.amr_problem.specs.declared.fault.ProblemFault.{ProblemFault}
use Rattle.amr_problem.specs.declared.fault.ProblemFault.TheVariants.{OutOfRange}
use Rattle.amr_problem.specs.declared.key.Key.{Key}
use Rattle.amr_problem.specs.declared.key.Key.TheVariants.{Version, Name, Cells, Steps, Courant, Sides, MaxLevel, Tag, NErrorBuf, Efficiency}
use Rattle.amr_problem.specs.declared.key.Key.TheVariants.{MinWidth, RegridInt, MaxGridSize, Blocks, ShearX, ShearY, Blocking, Species}
use Rattle.amr_problem.specs.Keys.{range, ranges_of, first_outside, first_beyond, is_even, holds, threshold, courant_number, blocking_factor}
use Rattle.amr_problem.specs.Faults.{courant_over, is_periodic, sides_differ, block_outside, tag_count, blocking_misfit, fits}
use Rattle.amr_problem.specs.Faults.{species_outside, first_some, text_outside, rows_outside, version_in}
use Rattle.amr_problem.specs.Values.{number_at, text_at, numbers_at, integers_at, shear_at, rows_at}

-- ---- the entries are those of the table

abbrev pub basic_keys : List Key
basic_keys = Version ∷ Name ∷ Cells ∷ Steps ∷ Courant ∷ Sides ∷ MaxLevel ∷ []

pub record AreBasicsOf (table : Members) (b : Basics) : Type 0 where
  pub version : number_at table Version ≡ Some b.version
  pub name : text_at table Name ≡ Some b.name.items
  pub cells : numbers_at 2 table Cells ≡ Some (b.nx ∷ b.ny ∷ [])
  pub steps : number_at table Steps ≡ Some b.steps
  pub courant : numbers_at 3 table Courant ≡ Some (b.cx ∷ b.cy ∷ b.d ∷ [])
  pub sides : numbers_at 4 table Sides ≡ Some (b.x_low ∷ b.x_high ∷ b.y_low ∷ b.y_high ∷ [])
  pub max_level : number_at table MaxLevel ≡ Some b.max_level

abbrev pub refining_keys : List Key
refining_keys = Tag ∷ NErrorBuf ∷ Efficiency ∷ MinWidth ∷ RegridInt ∷ MaxGridSize ∷ []

pub record AreRefiningOf (table : Members) (r : Refining) : Type 0 where
  pub tag : integers_at table Tag ≡ Some r.tag.items
  pub n_error_buf : number_at table NErrorBuf ≡ Some r.n_error_buf
  pub efficiency : number_at table Efficiency ≡ Some r.efficiency
  pub min_width : number_at table MinWidth ≡ Some r.min_width
  pub regrid_int : number_at table RegridInt ≡ Some r.regrid_int
  pub max_grid_size : number_at table MaxGridSize ≡ Some r.max_grid_size

abbrev pub overlay_keys : List Key
overlay_keys = Blocks ∷ ShearX ∷ ShearY ∷ Blocking ∷ Species ∷ []

-- over a level 0 of nx by ny cells
pub record IsOverlayOf (nx ny : ℤ) (table : Members) (o : Overlay) : Type 0 where
  pub blocks : rows_at (version_in table) table Blocks ≡ Some o.blocks.items
  pub shear_x : shear_at ny table ShearX ≡ Some o.shear_x.items
  pub shear_y : shear_at nx table ShearY ≡ Some o.shear_y.items
  pub blocking : number_at table Blocking ≡ Some o.blocking
  pub species : number_at table Species ≡ Some o.species

pub record IsReadOf (table : Members) (e : Entries) : Type 0 where
  pub basics : AreBasicsOf table e.basics
  pub refining : AreRefiningOf table e.refining
  pub overlay : IsOverlayOf e.basics.nx e.basics.ny table e.overlay

-- ---- the first number, in the order of the keys, that is out of its range

-- of a key's numbers, each with its own range
abbrev pub numbers_outside : Key → List ℤ → Option ProblemFault
numbers_outside key zs = option_map (OutOfRange key) (first_outside (ranges_of key) zs)

unfoldable pub basics_outside : Basics → Option ProblemFault
basics_outside b = first_some
    (numbers_outside Version (b.version ∷ [])
    ∷ option_map (OutOfRange Name) (text_outside (range (pos 1) (pos 32)) b.name.items)
    ∷ numbers_outside Cells (b.nx ∷ b.ny ∷ [])
    ∷ numbers_outside Steps (b.steps ∷ [])
    ∷ numbers_outside Courant (b.cx ∷ b.cy ∷ b.d ∷ [])
    ∷ numbers_outside Sides (b.x_low ∷ b.x_high ∷ b.y_low ∷ b.y_high ∷ [])
    ∷ numbers_outside MaxLevel (b.max_level ∷ [])
    ∷ [])

unfoldable pub refining_outside : Refining → Option ProblemFault
refining_outside r = first_some
    (option_map (OutOfRange Tag) (first_beyond threshold r.tag.items)
    ∷ numbers_outside NErrorBuf (r.n_error_buf ∷ [])
    ∷ numbers_outside Efficiency (r.efficiency ∷ [])
    ∷ numbers_outside MinWidth (r.min_width ∷ [])
    ∷ numbers_outside RegridInt (r.regrid_int ∷ [])
    ∷ numbers_outside MaxGridSize (r.max_grid_size ∷ [])
    ∷ [])

unfoldable pub overlay_outside : Overlay → Option ProblemFault
overlay_outside o = first_some
    (option_map (OutOfRange Blocks) (rows_outside 256 (ranges_of Blocks) o.blocks.items)
    ∷ option_map (OutOfRange ShearX) (first_beyond courant_number o.shear_x.items)
    ∷ option_map (OutOfRange ShearY) (first_beyond courant_number o.shear_y.items)
    ∷ numbers_outside Blocking (o.blocking ∷ [])
    ∷ numbers_outside Species (o.species ∷ [])
    ∷ [])

abbrev pub range_fault : Entries → Option ProblemFault
range_fault e = first_some (basics_outside e.basics ∷ refining_outside e.refining ∷ overlay_outside e.overlay ∷ [])

-- ---- and the first fault of entries within their ranges

abbrev pub in_range_fault : Entries → Option ProblemFault
in_range_fault e = first_some
    (courant_over (e.basics.cx ∷ e.basics.cy ∷ e.basics.d ∷ []) e.overlay.shear_x.items e.overlay.shear_y.items
    ∷ sides_differ (e.basics.x_low ∷ e.basics.x_high ∷ e.basics.y_low ∷ e.basics.y_high ∷ [])
    ∷ block_outside (e.basics.nx ∷ e.basics.ny ∷ []) e.overlay.blocks.items
    ∷ tag_count e.basics.max_level e.refining.tag.items
    ∷ blocking_misfit (e.basics.nx ∷ e.basics.ny ∷ []) e.overlay.blocking
    ∷ species_outside e.overlay.species e.overlay.blocks.items
    ∷ [])

-- the first fault from the ranges on
abbrev pub entry_fault : Entries → Option ProblemFault
entry_fault e = option_or (range_fault e) (in_range_fault e)

-- ---- entries in their ranges

-- -1 or an inflow
pub record IsSide (side : ℤ) : Type 0 where
  pub least : negsuc 0 ≤ℤ side
  pub greatest : side ≤ℤ pos 1073741824

pub record AreBasicsInRange (b : Basics) : Type 0 where
  pub least_version : pos 1 ≤ℤ b.version
  pub greatest_version : b.version ≤ℤ pos 3
  pub named : 1 ≤ length b.name.items
  pub short_name : length b.name.items ≤ 32
  pub name_bytes : list_all is_name_byte b.name.items ≡ true
  pub least_nx : pos 2 ≤ℤ b.nx
  pub greatest_nx : b.nx ≤ℤ pos 256
  pub least_ny : pos 2 ≤ℤ b.ny
  pub greatest_ny : b.ny ≤ℤ pos 256
  pub least_steps : pos 0 ≤ℤ b.steps
  pub greatest_steps : b.steps ≤ℤ pos 4096
  pub size_cx : unsigned_abs b.cx ≤ 1024
  pub size_cy : unsigned_abs b.cy ≤ 1024
  pub least_d : pos 1 ≤ℤ b.d
  pub greatest_d : b.d ≤ℤ pos 1024
  pub x_low : IsSide b.x_low
  pub x_high : IsSide b.x_high
  pub y_low : IsSide b.y_low
  pub y_high : IsSide b.y_high
  pub least_max_level : pos 0 ≤ℤ b.max_level
  pub greatest_max_level : b.max_level ≤ℤ pos 4

pub record AreRefiningInRange (r : Refining) : Type 0 where
  pub tag : list_all (holds threshold) r.tag.items ≡ true
  pub least_n_error_buf : pos 0 ≤ℤ r.n_error_buf
  pub greatest_n_error_buf : r.n_error_buf ≤ℤ pos 8
  pub least_efficiency : pos 1 ≤ℤ r.efficiency
  pub greatest_efficiency : r.efficiency ≤ℤ pos 100
  pub least_min_width : pos 1 ≤ℤ r.min_width
  pub greatest_min_width : r.min_width ≤ℤ pos 16
  pub least_regrid_int : pos 1 ≤ℤ r.regrid_int
  pub greatest_regrid_int : r.regrid_int ≤ℤ pos 4096
  pub least_max_grid_size : pos 4 ≤ℤ r.max_grid_size
  pub greatest_max_grid_size : r.max_grid_size ≤ℤ pos 256
  pub even_max_grid_size : is_even r.max_grid_size ≡ true

pub record IsOverlayInRange (o : Overlay) : Type 0 where
  pub block_count : length o.blocks.items ≤ 256
  pub blocks : list_all (λ row. is_none (first_outside (ranges_of Blocks) row)) o.blocks.items ≡ true
  pub shear_x : list_all (holds courant_number) o.shear_x.items ≡ true
  pub shear_y : list_all (holds courant_number) o.shear_y.items ≡ true
  pub blocking : holds blocking_factor o.blocking ≡ true
  pub least_species : pos 1 ≤ℤ o.species
  pub greatest_species : o.species ≤ℤ pos 4

pub record IsInRange (e : Entries) : Type 0 where
  pub basics : AreBasicsInRange e.basics
  pub refining : AreRefiningInRange e.refining
  pub overlay : IsOverlayInRange e.overlay

-- ---- entries without a fault

-- none, or one for each of so many rows or columns
abbrev pub is_for_each : ℤ → List ℤ → Bool
is_for_each many zs = (length zs == 0) || int_eq (pos (length zs)) many

-- by the cells and the version: a shear's number for each row or column, and one species before version 3
pub record FitsBasics (b : Basics) (o : Overlay) : Type 0 where
  pub rows : is_for_each b.ny o.shear_x.items ≡ true
  pub columns : is_for_each b.nx o.shear_y.items ≡ true
  pub alone : b.version ≤ℤ pos 2 → o.species ≡ pos 1

-- the entries have no fault from their ranges on
pub record IsClean (e : Entries) : Type 0 where
  pub in_range : IsInRange e
  pub stable : courant_over (e.basics.cx ∷ e.basics.cy ∷ e.basics.d ∷ []) e.overlay.shear_x.items e.overlay.shear_y.items ≡ None
  pub x_alike : is_periodic e.basics.x_low ≡ is_periodic e.basics.x_high
  pub y_alike : is_periodic e.basics.y_low ≡ is_periodic e.basics.y_high
  pub inside : block_outside (e.basics.nx ∷ e.basics.ny ∷ []) e.overlay.blocks.items ≡ None
  pub counted : tag_count e.basics.max_level e.refining.tag.items ≡ None
  pub x_fits : fits e.overlay.blocking e.basics.nx ≡ true
  pub y_fits : fits e.overlay.blocking e.basics.ny ≡ true
  pub known : species_outside e.overlay.species e.overlay.blocks.items ≡ None
