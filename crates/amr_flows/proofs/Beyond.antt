-- The register cells of a level are those that the next finer level's layout asks for.
use Rattle.std.proofs.Common.{◌≡◌, ◌∙◌, ℕ, suc, ◌<◌, Bool, true, false, cond, ◌⊎◌, inl, inr, ℤ, pos, negsuc, ◌+ℤ◌, ◌-ℤ◌, ◌≤ℤ◌, List, length, refl, sym, ap, subst, arith}
use Rattle.std.specs.Prelude.{is_some, not, slice_index_or}
use Rattle.std.specs.List.{Contains, list_any}
use Rattle.std.specs.declared.option.Option.{Option}
use Rattle.std.proofs.lemmas.Int.{ints}
use Rattle.std.proofs.lemmas.Bool.{and_parts, false_from_ne_true, not-true}
use Rattle.std.proofs.lemmas.List.Folds.{list_any_at}
use Rattle.amr_box.specs.declared.Cell.{Cell}
use Rattle.amr_box.specs.declared.Face.{Face}
use Rattle.amr_box.specs.Cells.{Extent, IsNear, cell, half, height, holds, moved, parent, square, width}
use Rattle.amr_box.proofs.CellEquality.{same_cell}
use Rattle.amr_box.proofs.Children.{child_of_parent}
use Rattle.amr_box.proofs.Tests.{opposite}
use Rattle.amr_def.specs.declared.problem.Problem.{Problem}
use Rattle.amr_def.specs.Domain.{domain, home_cell, in_domain}
use Rattle.amr_def.specs.Facts.{IsLevel, IsNestedLevel}
use Rattle.amr_def.specs.Flux.{high_cell, low_cell}
use Rattle.amr_def.specs.Regrid.{odd}
use Rattle.amr_def.specs.State.{Level, Masses, is_covered}
use Rattle.amr_def.specs.Tags.{neighbours}
use Rattle.amr_def.proofs.LevelLists.{IsCellInside}
use Rattle.amr_def.proofs.Nesting.{any_at, children, covered_inside, home_shift, in_domain-inside, odd_small, of_level, parent_inside}
use Rattle.amr_def.proofs.Nests.{half_and_odd}
use Rattle.amr_def.proofs.Uncovered.{home_at, in_domain-yes}
use Rattle.amr_patch.proofs.Lookups.{some_mass}
use Rattle.amr_patch.specs.declared.patches.Patch.{Patch}
use Rattle.amr_patch.specs.declared.levels.Level.{Level as Held}
use Rattle.amr_patch.specs.Patches.{box, in_patches, masses_in}
use Rattle.amr_faces.specs.Faces.{x_end, y_end}
use Rattle.amr_register.specs.RegisterCells.{is_register_cell, register_cells}
use Rattle.amr_register.proofs.CellLists.{where_among}
use Rattle.amr_register.proofs.CollectLaws.{column_high, column_low, passes, row_high, row_low}
use Rattle.amr_layout.specs.Surroundings.{Around, around, is_coarse_fine, outside, x_start, y_start}
use Rattle.amr_layout.specs.Adds.{HasCellsBeyond, cell_beyond}
use Rattle.amr_layout.proofs.Edges.{on_each_side}
use Rattle.amr_flows.proofs.HighEnds.{x_end-out, y_end-out}
use Rattle.amr_flows.proofs.Parents.{child_there, half_after, half_before, parent_home}

plus_none : (z : ℤ) → z +ℤ pos 0 ≡ z
plus_none z = omega (arith, ints)

-- the cell at an offset from another is one of its four neighbours
pub record IsNeighbour (i : Cell) (x y : ℤ) : Type 0 where
  pub west : (i.x -ℤ pos 1) ≤ℤ x
  pub east : x ≤ℤ (i.x +ℤ pos 1)
  pub south : (i.y -ℤ pos 1) ≤ℤ y
  pub north : y ≤ℤ (i.y +ℤ pos 1)

-- an offset that neighbours and the square round a cell have
pub record IsOffset (a b : ℤ) (u v : ℕ) : Type 0 where
  pub from_x : a +ℤ pos 1 ≡ pos u
  pub from_y : b +ℤ pos 1 ≡ pos v
  pub beside : (t : Cell → Bool) → t (cell a b) ≡ true → list_any t neighbours ≡ true
  pub near : (t : Cell → Bool) → t (cell a b) ≡ true → list_any t (square 1) ≡ true

to_west : IsOffset (negsuc 0) (pos 0) 0 1
to_west = record { from_x = refl; from_y = refl; beside = λ t h. any_at t neighbours 0 (cell (pos 0) (pos 0)) (omega arith) h; near = λ t h. any_at t (square 1) 3 (cell (pos 0) (pos 0)) (omega arith) h }

to_east : IsOffset (pos 1) (pos 0) 2 1
to_east = record { from_x = refl; from_y = refl; beside = λ t h. any_at t neighbours 1 (cell (pos 0) (pos 0)) (omega arith) h; near = λ t h. any_at t (square 1) 5 (cell (pos 0) (pos 0)) (omega arith) h }

to_south : IsOffset (pos 0) (negsuc 0) 1 0
to_south = record { from_x = refl; from_y = refl; beside = λ t h. any_at t neighbours 2 (cell (pos 0) (pos 0)) (omega arith) h; near = λ t h. any_at t (square 1) 1 (cell (pos 0) (pos 0)) (omega arith) h }

to_north : IsOffset (pos 0) (pos 1) 1 2
to_north = record { from_x = refl; from_y = refl; beside = λ t h. any_at t neighbours 3 (cell (pos 0) (pos 0)) (omega arith) h; near = λ t h. any_at t (square 1) 7 (cell (pos 0) (pos 0)) (omega arith) h }

-- the parent of a neighbour of a cell is the cell's parent, or has it at an offset
abbrev pub Parents : Cell → ℤ → ℤ → ℤ → ℤ → Type 0
Parents i x y a b = ((half x +ℤ a ≡ half i.x) × (half y +ℤ b ≡ half i.y)) ⊎ ((half x ≡ half i.x) × (half y ≡ half i.y))

module _ (p : Problem) (l : ℕ) (k fine : Level) (klevel : IsLevel p l k) (flevel : IsLevel p (suc l) fine) (nested : IsNestedLevel p l k fine) where
  abbrev cells : List Cell
  cells = register_cells p l k.masses fine.masses

  module _ (i : Cell) (x y a b : ℤ) (u v : ℕ) (there : is_some (fine.masses i) ≡ true) (beside : IsNeighbour i x y) (offset : IsOffset a b u v)
      (home_in : in_domain (domain p (suc l)) (home_cell (domain p (suc l)) (cell x y)) ≡ true) (none : is_some (fine.masses (home_cell (domain p (suc l)) (cell x y))) ≡ false) (parents : Parents i x y a b) where
    inside_i : IsCellInside p (suc l) i
    inside_i = in_domain-inside p (suc l) i (flevel.inside i (sym (flevel.filled i) ∙ there))

    covered_i : is_covered fine.masses (parent i) ≡ true
    unfolding is_covered
    covered_i = child_of_parent (λ k. is_some (fine.masses k)) i there

    abbrev h : Cell
    h = home_cell (domain p (suc l)) (cell x y)

    is_home : parent h ≡ home_cell (domain p l) (cell (half x) (half y))
    is_home = parent_home p l x y (omega (arith, ints, beside.west, inside_i.west)) (omega (arith, ints, beside.east, inside_i.east)) (omega (arith, ints, beside.south, inside_i.south)) (omega (arith, ints, beside.north, inside_i.north))

    still : home_cell (domain p l) (parent i) ≡ parent i
    still = home_at p l (parent i) (covered_inside p l k fine klevel flevel nested (parent i) covered_i)

    free : is_covered fine.masses (parent h) ≡ false
    free = false_from_ne_true (is_covered fine.masses (parent h)) (λ e. opposite (child_there fine.masses h (children p l k fine klevel flevel nested) e) none)

    in_dom : in_domain (domain p l) (parent h) ≡ true
    in_dom = in_domain-yes p l (parent h) (parent_inside p l (parent h) h (odd h.x) (odd h.y) (odd_small h.x) (odd_small h.y) (half_and_odd h.x) (half_and_odd h.y) (in_domain-inside p (suc l) h home_in))

    found : (half x +ℤ a ≡ half i.x) → (half y +ℤ b ≡ half i.y) → Contains cells (parent h)
    found ex ey =
        let d = domain p l in
        let back : home_cell d (moved (parent h) (cell a b)) ≡ parent i =
        ap (λ (c : Cell). home_cell d (moved c (cell a b))) is_home ∙ home_shift p l (half x) (half y) a b u v offset.from_x offset.from_y ∙ ap (home_cell d) (same_cell ex ey) ∙ still in
        let covered : is_covered fine.masses (home_cell d (moved (parent h) (cell a b))) ≡ true = ap (is_covered fine.masses) back ∙ covered_i in
        let test : Cell → Bool = λ o. is_covered fine.masses (home_cell d (moved (parent h) o)) in
        where_among d (is_register_cell d k.masses fine.masses) (parent h) in_dom
        (passes d k.masses fine.masses (parent h) (of_level p l k fine klevel flevel nested (parent h) in_dom (offset.near test covered)) free (offset.beside test covered))

    pub is_register : Contains cells (parent h)
    is_register = by_parents parents
      where
        by_parents : Parents i x y a b → Contains cells (parent h)
        by_parents (inl e) = found e.0 e.1
        by_parents (inr e) = absurd (opposite (ap (is_covered fine.masses) (is_home ∙ ap (home_cell (domain p l)) (same_cell e.0 e.1) ∙ still) ∙ covered_i) free)

  module _ (ps : List Patch) (finer : Option Held) (of_patches : masses_in ps ≡ fine.masses) where
    abbrev s : Around
    s = around p (suc l) ps cells finer

    in_level : (c : Cell) → in_patches ps c ≡ is_some (fine.masses c)
    in_level c = sym (some_mass ps c) ∙ ap (λ (m : Masses). is_some (m c)) of_patches

    module _ (n : ℕ) (e : Patch) (lt : n < length ps) where
      abbrev b : Extent
      b = box (slice_index_or ps n e)

      near : IsNear b
      near = (slice_index_or ps n e).near

      held_there : (c : Cell) → holds b c ≡ true → is_some (fine.masses c) ≡ true
      held_there c held = sym (in_level c) ∙ list_any_at (λ (q : Patch). holds (box q) c) ps n e lt held

      abbrev Found : Face → Type 0
      Found f = is_coarse_fine s b f ≡ true → Contains cells (cell_beyond s b f)

      across : (f : Face) (i : Cell) (x y a b' : ℤ) (u v : ℕ) → outside b f ≡ cell x y → holds b i ≡ true → IsNeighbour i x y → IsOffset a b' u v → Parents i x y a b' → Found f
      unfolding is_coarse_fine cell_beyond
      across f i x y a b' u v at held beside offset parents edge =
          let d = domain p (suc l) in
          let parts = and_parts (in_domain d (home_cell d (outside b f))) (not (in_patches ps (home_cell d (outside b f)))) edge in
          let home_in : in_domain d (home_cell d (cell x y)) ≡ true = ap (λ (c : Cell). in_domain d (home_cell d c)) (sym at) ∙ parts.0 in
          let none : is_some (fine.masses (home_cell d (cell x y))) ≡ false = sym (in_level (home_cell d (cell x y))) ∙ ap (λ (c : Cell). in_patches ps (home_cell d c)) (sym at) ∙ not-true (in_patches ps (home_cell d (outside b f))) parts.1 in
          subst (λ (c : Cell). Contains cells (parent (home_cell d c))) (sym at)
          (is_register i x y a b' u v (held_there i held) beside offset home_in none parents)

      out_low : (f : Face) → holds b (high_cell f) ≡ true → outside b f ≡ low_cell f
      out_low f held = ap (λ (t : Bool). cond t (low_cell f) (high_cell f)) held

      out_high : (f : Face) → holds b (high_cell f) ≡ false → outside b f ≡ high_cell f
      out_high f held = ap (λ (t : Bool). cond t (low_cell f) (high_cell f)) held

      still_half : (z : ℤ) → half z +ℤ pos 0 ≡ half z
      still_half z = plus_none (half z)

      west : (j : ℕ) → j < height b → Found (x_start b j)
      west j below =
          let held = row_low b j near below in
          let i = cell b.lo.x (b.lo.y +ℤ pos j) in
          across (x_start b j) i (b.lo.x -ℤ pos 1) (b.lo.y +ℤ pos j) (pos 1) (pos 0) 2 1 (out_low (x_start b j) held) held
          (record { west = omega (arith, ints); east = omega (arith, ints); south = omega (arith, ints); north = omega (arith, ints) }) to_east
          (cases (half_before b.lo.x))
        where
          cases : (half (b.lo.x -ℤ pos 1) +ℤ pos 1 ≡ half b.lo.x) ⊎ (half (b.lo.x -ℤ pos 1) ≡ half b.lo.x) → Parents (cell b.lo.x (b.lo.y +ℤ pos j)) (b.lo.x -ℤ pos 1) (b.lo.y +ℤ pos j) (pos 1) (pos 0)
          cases (inl t) = inl (t, still_half (b.lo.y +ℤ pos j))
          cases (inr t) = inr (t, refl)

      east : (j : ℕ) → j < height b → Found (x_end b j)
      east j below =
          let held = row_high b j near below in
          let i = cell b.hi.x (b.lo.y +ℤ pos j) in
          across (x_end b j) i (b.hi.x +ℤ pos 1) (b.lo.y +ℤ pos j) (negsuc 0) (pos 0) 0 1 (out_high (x_end b j) (x_end-out b j)) held
          (record { west = omega (arith, ints); east = omega (arith, ints); south = omega (arith, ints); north = omega (arith, ints) }) to_west
          (cases (half_after b.hi.x))
        where
          cases : (half (b.hi.x +ℤ pos 1) +ℤ negsuc 0 ≡ half b.hi.x) ⊎ (half (b.hi.x +ℤ pos 1) ≡ half b.hi.x) → Parents (cell b.hi.x (b.lo.y +ℤ pos j)) (b.hi.x +ℤ pos 1) (b.lo.y +ℤ pos j) (negsuc 0) (pos 0)
          cases (inl t) = inl (t, still_half (b.lo.y +ℤ pos j))
          cases (inr t) = inr (t, refl)

      south : (j : ℕ) → j < width b → Found (y_start b j)
      south j below =
          let held = column_low b j near below in
          let i = cell (b.lo.x +ℤ pos j) b.lo.y in
          across (y_start b j) i (b.lo.x +ℤ pos j) (b.lo.y -ℤ pos 1) (pos 0) (pos 1) 1 2 (out_low (y_start b j) held) held
          (record { west = omega (arith, ints); east = omega (arith, ints); south = omega (arith, ints); north = omega (arith, ints) }) to_north
          (cases (half_before b.lo.y))
        where
          cases : (half (b.lo.y -ℤ pos 1) +ℤ pos 1 ≡ half b.lo.y) ⊎ (half (b.lo.y -ℤ pos 1) ≡ half b.lo.y) → Parents (cell (b.lo.x +ℤ pos j) b.lo.y) (b.lo.x +ℤ pos j) (b.lo.y -ℤ pos 1) (pos 0) (pos 1)
          cases (inl t) = inl (still_half (b.lo.x +ℤ pos j), t)
          cases (inr t) = inr (refl, t)

      north : (j : ℕ) → j < width b → Found (y_end b j)
      north j below =
          let held = column_high b j near below in
          let i = cell (b.lo.x +ℤ pos j) b.hi.y in
          across (y_end b j) i (b.lo.x +ℤ pos j) (b.hi.y +ℤ pos 1) (pos 0) (negsuc 0) 1 0 (out_high (y_end b j) (y_end-out b j)) held
          (record { west = omega (arith, ints); east = omega (arith, ints); south = omega (arith, ints); north = omega (arith, ints) }) to_south
          (cases (half_after b.hi.y))
        where
          cases : (half (b.hi.y +ℤ pos 1) +ℤ negsuc 0 ≡ half b.hi.y) ⊎ (half (b.hi.y +ℤ pos 1) ≡ half b.hi.y) → Parents (cell (b.lo.x +ℤ pos j) b.hi.y) (b.lo.x +ℤ pos j) (b.hi.y +ℤ pos 1) (pos 0) (negsuc 0)
          cases (inl t) = inl (still_half (b.lo.x +ℤ pos j), t)
          cases (inr t) = inr (refl, t)

      pub has_cells : HasCellsBeyond s b
      has_cells m below = on_each_side b m Found west east south north below
