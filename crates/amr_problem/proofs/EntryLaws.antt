-- Entries that are read of a table, and their ranges.
use Rattle.std.proofs.Common.{◌≡◌, ◌∙◌, sym, ap, refl, ℕ, ◌≤◌, true, ◌&&◌, nat_lt, ℤ, pos, negsuc, ◌≤ℤ◌, unsigned_abs, inl, inr, List, [], ◌∷◌, ◌++◌, map, length, Option, None, Some, option_map, is_none, arith}
use Rattle.std.proofs.lemmas.Bool.{cases_Bool, and_parts}
use Rattle.std.proofs.lemmas.Bool.Decides.{nat_tests}
use Rattle.std.proofs.lemmas.Int.{ints}
use Rattle.std.specs.List.{list_all}
use Rattle.std.specs.Option.{option_or}
use Rattle.toml.specs.Data.{Members}
use Rattle.amr_def.specs.Limits.{is_name_byte}
use Rattle.amr_problem.specs.declared.entries.Basics.{Basics}
use Rattle.amr_problem.specs.declared.entries.Refining.{Refining}
use Rattle.amr_problem.specs.declared.entries.Overlay.{Overlay}
use Rattle.amr_problem.specs.declared.entries.Entries.{Entries}
use Rattle.amr_problem.specs.declared.fault.ProblemFault.{ProblemFault}
use Rattle.amr_problem.specs.declared.fault.ProblemFault.TheVariants.{OutOfRange}
use Rattle.amr_problem.specs.declared.key.Key.TheVariants.{Version, Name, Cells, Steps, Courant, Sides, MaxLevel, Tag, NErrorBuf, Efficiency, MinWidth, RegridInt, MaxGridSize, Blocks, ShearX, ShearY, Blocking, Species}
use Rattle.amr_problem.specs.Keys.{range, even_range, versions, ranges_of, holds, first_outside, first_beyond, cell_count, courant_number, side, threshold, blocking_factor}
use Rattle.amr_problem.specs.Values.{numbers_at}
use Rattle.amr_problem.specs.Faults.{first_some, key_outside, out_of_range, text_outside, rows_outside}
use Rattle.amr_problem.specs.Entries.{basic_keys, refining_keys, overlay_keys, AreBasicsOf, AreRefiningOf, IsOverlayOf, IsReadOf, IsSide, AreBasicsInRange, AreRefiningInRange, IsOverlayInRange, IsInRange, numbers_outside, basics_outside, refining_outside, overlay_outside, range_fault}
use Rattle.amr_problem.proofs.FirstSome.{fold-none, or_or, option_map-none, first_some-append}
use Rattle.amr_problem.proofs.RangeLaws.{IsIn, holds-IsIn, first_outside-none, first_outside-holds, first_beyond-none}

-- ---- the ranges of a table are those of its entries

same_basics : (table : Members) (b : Basics) → AreBasicsOf table b → first_some (map (key_outside table) basic_keys) ≡ basics_outside b
unfolding basics_outside
same_basics table b r = rw (r.version, r.name, r.cells, r.steps, r.courant, r.sides, r.max_level)

same_refining : (table : Members) (r : Refining) → AreRefiningOf table r → first_some (map (key_outside table) refining_keys) ≡ refining_outside r
unfolding refining_outside
same_refining table r h = rw (h.tag, h.n_error_buf, h.efficiency, h.min_width, h.regrid_int, h.max_grid_size)

same_overlay : (table : Members) (nx ny : ℤ) (o : Overlay) → numbers_at 2 table Cells ≡ Some (nx ∷ ny ∷ []) → IsOverlayOf nx ny table o → first_some (map (key_outside table) overlay_keys) ≡ overlay_outside o
unfolding overlay_outside
same_overlay table nx ny o cells h = rw (cells, h.blocks, h.shear_x, h.shear_y, h.blocking, h.species)

pub same_ranges : (table : Members) (e : Entries) → IsReadOf table e → out_of_range table ≡ range_fault e
same_ranges table e r =
    let f = key_outside table in
    first_some-append (map f basic_keys) (map f refining_keys ++ map f overlay_keys)
    ∙ ap (option_or (first_some (map f basic_keys))) (first_some-append (map f refining_keys) (map f overlay_keys))
    ∙ rw (same_basics table e.basics r.basics, same_refining table e.refining r.refining, same_overlay table e.basics.nx e.basics.ny e.overlay r.basics.cells r.overlay) (sym (or_or (basics_outside e.basics) (refining_outside e.refining) (overlay_outside e.overlay)))

-- ---- entries without a number out of its range

pub size_within : (z : ℤ) → IsIn courant_number z → unsigned_abs z ≤ 1024
size_within (pos n) h = let top : pos n ≤ℤ pos 1024 = h.greatest in omega (arith, ints)
size_within (negsuc n) h = let least : negsuc 1023 ≤ℤ negsuc n = h.least in omega (arith, ints)

side_within : (z : ℤ) → IsIn side z → IsSide z
side_within z h = record { least = h.least; greatest = h.greatest }

pub record IsName (bytes : List ℕ) : Type 0 where
  pub named : 1 ≤ length bytes
  pub short : length bytes ≤ 32
  pub proper : list_all is_name_byte bytes ≡ true

pub name_from_none : (bytes : List ℕ) → text_outside (range (pos 1) (pos 32)) bytes ≡ None → IsName bytes
name_from_none bytes h =
    elim (cases_Bool (holds (range (pos 1) (pos 32)) (pos (length bytes)) && list_all is_name_byte bytes)) [
      | inl pass ↦
          let (fits, proper) = and_parts (holds (range (pos 1) (pos 32)) (pos (length bytes))) (list_all is_name_byte bytes) pass in
          let within = holds-IsIn (range (pos 1) (pos 32)) (pos (length bytes)) fits in
          let low : pos 1 ≤ℤ pos (length bytes) = within.least in
          let high : pos (length bytes) ≤ℤ pos 32 = within.greatest in
          record { named = omega (arith, ints); short = omega (arith, ints); proper = proper }
      | inr fail ↦ absurd (let e = rw fail at h in cc)
    ]

pub record AreRows (rows : List (List ℤ)) : Type 0 where
  pub many : length rows ≤ 256
  pub inside : list_all (λ row. is_none (first_outside (ranges_of Blocks) row)) rows ≡ true

all_none : {X A : Type 0} (f : X → Option A) (xs : List X) → first_some (map f xs) ≡ None → list_all (λ x. is_none (f x)) xs ≡ true
all_none f [] h = refl
all_none f (x ∷ xs) h = let none = fold-none (f x) (map f xs) h in rw (none.first, all_none f xs none.second)

pub rows_from_none : (rows : List (List ℤ)) → rows_outside 256 (ranges_of Blocks) rows ≡ None → AreRows rows
rows_from_none rows h =
    elim (cases_Bool (nat_lt 256 (length rows))) [
      | inl over ↦ absurd (let e = rw over at h in cc)
      | inr within ↦ record { many = grind (arith, nat_tests); inside = all_none (first_outside (ranges_of Blocks)) rows (rw within at h) }
    ]

basics_in_range : (b : Basics) → basics_outside b ≡ None → AreBasicsInRange b
unfolding basics_outside
basics_in_range b none =
    let name : Option ProblemFault = option_map (OutOfRange Name) (text_outside (range (pos 1) (pos 32)) b.name.items) in
    let cells : Option ProblemFault = numbers_outside Cells (b.nx ∷ b.ny ∷ []) in
    let steps : Option ProblemFault = numbers_outside Steps (b.steps ∷ []) in
    let courant : Option ProblemFault = numbers_outside Courant (b.cx ∷ b.cy ∷ b.d ∷ []) in
    let sides : Option ProblemFault = numbers_outside Sides (b.x_low ∷ b.x_high ∷ b.y_low ∷ b.y_high ∷ []) in
    let max_level : Option ProblemFault = numbers_outside MaxLevel (b.max_level ∷ []) in
    let n1 = fold-none (numbers_outside Version (b.version ∷ [])) (name ∷ cells ∷ steps ∷ courant ∷ sides ∷ max_level ∷ []) none in
    let n2 = fold-none name (cells ∷ steps ∷ courant ∷ sides ∷ max_level ∷ []) n1.second in
    let n3 = fold-none cells (steps ∷ courant ∷ sides ∷ max_level ∷ []) n2.second in
    let n4 = fold-none steps (courant ∷ sides ∷ max_level ∷ []) n3.second in
    let n5 = fold-none courant (sides ∷ max_level ∷ []) n4.second in
    let n6 = fold-none sides (max_level ∷ []) n5.second in
    let n7 = fold-none max_level [] n6.second in
    let version_is = first_outside-none versions [] b.version [] (option_map-none (OutOfRange Version) _ n1.first) in
    let named = name_from_none b.name.items (option_map-none (OutOfRange Name) _ n2.first) in
    let nx = first_outside-none cell_count (cell_count ∷ []) b.nx (b.ny ∷ []) (option_map-none (OutOfRange Cells) _ n3.first) in
    let ny = first_outside-none cell_count [] b.ny [] nx.others in
    let last = first_outside-none (range (pos 0) (pos 4096)) [] b.steps [] (option_map-none (OutOfRange Steps) _ n4.first) in
    let cx = first_outside-none courant_number (courant_number ∷ range (pos 1) (pos 1024) ∷ []) b.cx (b.cy ∷ b.d ∷ []) (option_map-none (OutOfRange Courant) _ n5.first) in
    let cy = first_outside-none courant_number (range (pos 1) (pos 1024) ∷ []) b.cy (b.d ∷ []) cx.others in
    let d = first_outside-none (range (pos 1) (pos 1024)) [] b.d [] cy.others in
    let x_low = first_outside-none side (side ∷ side ∷ side ∷ []) b.x_low (b.x_high ∷ b.y_low ∷ b.y_high ∷ []) (option_map-none (OutOfRange Sides) _ n6.first) in
    let x_high = first_outside-none side (side ∷ side ∷ []) b.x_high (b.y_low ∷ b.y_high ∷ []) x_low.others in
    let y_low = first_outside-none side (side ∷ []) b.y_low (b.y_high ∷ []) x_high.others in
    let y_high = first_outside-none side [] b.y_high [] y_low.others in
    let level = first_outside-none (range (pos 0) (pos 4)) [] b.max_level [] (option_map-none (OutOfRange MaxLevel) _ n7.first) in
    record {
      least_version = version_is.here.least;
      greatest_version = version_is.here.greatest;
      named = named.named;
      short_name = named.short;
      name_bytes = named.proper;
      least_nx = nx.here.least;
      greatest_nx = nx.here.greatest;
      least_ny = ny.here.least;
      greatest_ny = ny.here.greatest;
      least_steps = last.here.least;
      greatest_steps = last.here.greatest;
      size_cx = size_within b.cx cx.here;
      size_cy = size_within b.cy cy.here;
      least_d = d.here.least;
      greatest_d = d.here.greatest;
      x_low = side_within b.x_low x_low.here;
      x_high = side_within b.x_high x_high.here;
      y_low = side_within b.y_low y_low.here;
      y_high = side_within b.y_high y_high.here;
      least_max_level = level.here.least;
      greatest_max_level = level.here.greatest;
    }

refining_in_range : (r : Refining) → refining_outside r ≡ None → AreRefiningInRange r
unfolding refining_outside
refining_in_range r none =
    let n_error_buf : Option ProblemFault = numbers_outside NErrorBuf (r.n_error_buf ∷ []) in
    let efficiency : Option ProblemFault = numbers_outside Efficiency (r.efficiency ∷ []) in
    let min_width : Option ProblemFault = numbers_outside MinWidth (r.min_width ∷ []) in
    let regrid_int : Option ProblemFault = numbers_outside RegridInt (r.regrid_int ∷ []) in
    let max_grid_size : Option ProblemFault = numbers_outside MaxGridSize (r.max_grid_size ∷ []) in
    let n1 = fold-none (option_map (OutOfRange Tag) (first_beyond threshold r.tag.items)) (n_error_buf ∷ efficiency ∷ min_width ∷ regrid_int ∷ max_grid_size ∷ []) none in
    let n2 = fold-none n_error_buf (efficiency ∷ min_width ∷ regrid_int ∷ max_grid_size ∷ []) n1.second in
    let n3 = fold-none efficiency (min_width ∷ regrid_int ∷ max_grid_size ∷ []) n2.second in
    let n4 = fold-none min_width (regrid_int ∷ max_grid_size ∷ []) n3.second in
    let n5 = fold-none regrid_int (max_grid_size ∷ []) n4.second in
    let n6 = fold-none max_grid_size [] n5.second in
    let buf = first_outside-none (range (pos 0) (pos 8)) [] r.n_error_buf [] (option_map-none (OutOfRange NErrorBuf) _ n2.first) in
    let share = first_outside-none (range (pos 1) (pos 100)) [] r.efficiency [] (option_map-none (OutOfRange Efficiency) _ n3.first) in
    let width = first_outside-none (range (pos 1) (pos 16)) [] r.min_width [] (option_map-none (OutOfRange MinWidth) _ n4.first) in
    let interval = first_outside-none (range (pos 1) (pos 4096)) [] r.regrid_int [] (option_map-none (OutOfRange RegridInt) _ n5.first) in
    let grid = first_outside-none (even_range (pos 4) (pos 256)) [] r.max_grid_size [] (option_map-none (OutOfRange MaxGridSize) _ n6.first) in
    record {
      tag = first_beyond-none threshold r.tag.items (option_map-none (OutOfRange Tag) _ n1.first);
      least_n_error_buf = buf.here.least;
      greatest_n_error_buf = buf.here.greatest;
      least_efficiency = share.here.least;
      greatest_efficiency = share.here.greatest;
      least_min_width = width.here.least;
      greatest_min_width = width.here.greatest;
      least_regrid_int = interval.here.least;
      greatest_regrid_int = interval.here.greatest;
      least_max_grid_size = grid.here.least;
      greatest_max_grid_size = grid.here.greatest;
      even_max_grid_size = grid.here.among;
    }

overlay_in_range : (o : Overlay) → overlay_outside o ≡ None → IsOverlayInRange o
unfolding overlay_outside
overlay_in_range o none =
    let shear_x : Option ProblemFault = option_map (OutOfRange ShearX) (first_beyond courant_number o.shear_x.items) in
    let shear_y : Option ProblemFault = option_map (OutOfRange ShearY) (first_beyond courant_number o.shear_y.items) in
    let blocking : Option ProblemFault = numbers_outside Blocking (o.blocking ∷ []) in
    let species : Option ProblemFault = numbers_outside Species (o.species ∷ []) in
    let n1 = fold-none (option_map (OutOfRange Blocks) (rows_outside 256 (ranges_of Blocks) o.blocks.items)) (shear_x ∷ shear_y ∷ blocking ∷ species ∷ []) none in
    let n2 = fold-none shear_x (shear_y ∷ blocking ∷ species ∷ []) n1.second in
    let n3 = fold-none shear_y (blocking ∷ species ∷ []) n2.second in
    let n4 = fold-none blocking (species ∷ []) n3.second in
    let n5 = fold-none species [] n4.second in
    let many = first_outside-none (range (pos 1) (pos 4)) [] o.species [] (option_map-none (OutOfRange Species) _ n5.first) in
    let rows = rows_from_none o.blocks.items (option_map-none (OutOfRange Blocks) _ n1.first) in
    record {
      block_count = rows.many;
      blocks = rows.inside;
      shear_x = first_beyond-none courant_number o.shear_x.items (option_map-none (OutOfRange ShearX) _ n2.first);
      shear_y = first_beyond-none courant_number o.shear_y.items (option_map-none (OutOfRange ShearY) _ n3.first);
      blocking = first_outside-holds blocking_factor o.blocking (option_map-none (OutOfRange Blocking) _ n4.first);
      least_species = many.here.least;
      greatest_species = many.here.greatest;
    }

pub in_range : (e : Entries) → range_fault e ≡ None → IsInRange e
in_range e none =
    let n1 = fold-none (basics_outside e.basics) (refining_outside e.refining ∷ overlay_outside e.overlay ∷ []) none in
    let n2 = fold-none (refining_outside e.refining) (overlay_outside e.overlay ∷ []) n1.second in
    let n3 = fold-none (overlay_outside e.overlay) [] n2.second in
    record {
      basics = basics_in_range e.basics n1.first;
      refining = refining_in_range e.refining n2.first;
      overlay = overlay_in_range e.overlay n3.first;
    }
