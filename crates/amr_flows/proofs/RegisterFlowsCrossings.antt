-- The four sides of a box, and the steps that lead out of it there.
use Rattle.std.proofs.Common.{◌≡◌, ℕ, zero, suc, ◌⊎◌, inl, inr, Bool, true, false, ℤ, pos, negsuc, ◌+ℤ◌, ◌-ℤ◌, ◌≤ℤ◌, refl, ap, arith}
use Rattle.std.proofs.lemmas.Int.{ints}
use Rattle.amr_box.specs.declared.Cell.{Cell}
use Rattle.amr_box.specs.Cells.{Extent, IsNear, cell, height, moved, width}
use Rattle.amr_def.proofs.Values.{same_cell}
use Rattle.amr_patch.proofs.Rows.{inside, is_inside, sides}
use Rattle.amr_flows.proofs.RegisterFlowsCells.{plus_none, child_of}
use Rattle.amr_flows.proofs.RegisterFlowsSides.{IsCrossing, IsEdge, IsStep}

-- ---- steps

abbrev pub west : Cell
west = cell (negsuc 0) (pos 0)

abbrev pub east : Cell
east = cell (pos 1) (pos 0)

abbrev pub south : Cell
south = cell (pos 0) (negsuc 0)

abbrev pub north : Cell
north = cell (pos 0) (pos 1)

step_west : IsStep west
step_west = record { columns = 0; rows = 1; x = refl; y = refl }

step_east : IsStep east
step_east = record { columns = 2; rows = 1; x = refl; y = refl }

step_south : IsStep south
step_south = record { columns = 1; rows = 0; x = refl; y = refl }

step_north : IsStep north
step_north = record { columns = 1; rows = 2; x = refl; y = refl }

there_back : (z : ℤ) → z +ℤ pos 1 +ℤ negsuc 0 ≡ z
there_back z = omega (arith, ints)

back_there : (z : ℤ) → z +ℤ negsuc 0 +ℤ pos 1 ≡ z
back_there z = omega (arith, ints)

still : (z : ℤ) → z +ℤ pos 0 +ℤ pos 0 ≡ z
still z = omega (arith, ints)

up_one : (z : ℤ) → z +ℤ pos 0 +ℤ pos 1 ≡ z +ℤ pos 1
up_one z = omega (arith, ints)

down_one : (z : ℤ) → z +ℤ pos 1 +ℤ negsuc 0 ≡ z +ℤ pos 0
down_one z = omega (arith, ints)

bits_apart : (z : ℤ) → z +ℤ pos 0 ≡ z +ℤ pos 1 → ⊥
bits_apart z e = omega (arith, ints)

rows_apart : (c : Cell) (i : Bool) → child_of c i false ≡ child_of c i true → ⊥
rows_apart c i e = bits_apart (c.y +ℤ c.y) (ap (λ (q : Cell). q.y) e)

columns_apart : (c : Cell) (i : Bool) → child_of c false i ≡ child_of c true i → ⊥
columns_apart c i e = bits_apart (c.x +ℤ c.x) (ap (λ (q : Cell). q.x) e)

-- out of a box at its west side, into the eastern children
pub cross_west : (c : Cell) → IsCrossing c west east (λ i. child_of c true i) (λ i. child_of c false i)
cross_west c = record {
  step_to = step_west;
  step_from = step_east;
  back = λ q. same_cell (there_back q.x) (still q.y);
  forth = λ q. same_cell (back_there q.x) (still q.y);
  near_child = λ i. (true, (i, refl));
  before_far = λ i. same_cell (up_one (c.x +ℤ c.x)) (plus_none _);
  each = by_column;
  near_apart = rows_apart c true;
}
  where
    by_column : (a b : Bool) → (i : Bool) × ((child_of c a b ≡ child_of c true i) ⊎ (child_of c a b ≡ child_of c false i))
    by_column true b = (b, inl refl)
    by_column false b = (b, inr refl)

pub cross_east : (c : Cell) → IsCrossing c east west (λ i. child_of c false i) (λ i. child_of c true i)
cross_east c = record {
  step_to = step_east;
  step_from = step_west;
  back = λ q. same_cell (back_there q.x) (still q.y);
  forth = λ q. same_cell (there_back q.x) (still q.y);
  near_child = λ i. (false, (i, refl));
  before_far = λ i. same_cell (down_one (c.x +ℤ c.x)) (plus_none _);
  each = by_column;
  near_apart = rows_apart c false;
}
  where
    by_column : (a b : Bool) → (i : Bool) × ((child_of c a b ≡ child_of c false i) ⊎ (child_of c a b ≡ child_of c true i))
    by_column true b = (b, inr refl)
    by_column false b = (b, inl refl)

pub cross_south : (c : Cell) → IsCrossing c south north (λ i. child_of c i true) (λ i. child_of c i false)
cross_south c = record {
  step_to = step_south;
  step_from = step_north;
  back = λ q. same_cell (still q.x) (there_back q.y);
  forth = λ q. same_cell (still q.x) (back_there q.y);
  near_child = λ i. (i, (true, refl));
  before_far = λ i. same_cell (plus_none _) (up_one (c.y +ℤ c.y));
  each = by_row;
  near_apart = columns_apart c true;
}
  where
    by_row : (a b : Bool) → (i : Bool) × ((child_of c a b ≡ child_of c i true) ⊎ (child_of c a b ≡ child_of c i false))
    by_row a true = (a, inl refl)
    by_row a false = (a, inr refl)

pub cross_north : (c : Cell) → IsCrossing c north south (λ i. child_of c i false) (λ i. child_of c i true)
cross_north c = record {
  step_to = step_north;
  step_from = step_south;
  back = λ q. same_cell (still q.x) (back_there q.y);
  forth = λ q. same_cell (still q.x) (there_back q.y);
  near_child = λ i. (i, (false, refl));
  before_far = λ i. same_cell (plus_none _) (down_one (c.y +ℤ c.y));
  each = by_row;
  near_apart = columns_apart c false;
}
  where
    by_row : (a b : Bool) → (i : Bool) × ((child_of c a b ≡ child_of c i false) ⊎ (child_of c a b ≡ child_of c i true))
    by_row a true = (a, inr refl)
    by_row a false = (a, inl refl)

-- ---- the cells along a side

far_from : (low z : ℤ) → low ≤ℤ z → (j : ℕ) × (low +ℤ pos j ≡ z)
far_from low z h = by_sign (z -ℤ low) (omega (arith, ints)) (omega (arith, ints))
  where
    by_sign : (w : ℤ) → w ≡ z -ℤ low → pos 0 ≤ℤ (z -ℤ low) → (j : ℕ) × (low +ℤ pos j ≡ z)
    by_sign (pos j) e k = (j, omega (arith, ints))
    by_sign (negsuc j) e k = absurd (omega (arith, ints))

first : (low z : ℤ) → low ≤ℤ z → (low ≤ℤ (z +ℤ negsuc 0) → ⊥) → low ≡ z
first low z h none = by_distance (far_from low z h)
  where
    by_distance : (j : ℕ) × (low +ℤ pos j ≡ z) → low ≡ z
    by_distance (zero, e) = omega (arith, ints, e)
    by_distance (suc j, e) = absurd (none (omega (arith, ints, e)))

last : (high z : ℤ) → z ≤ℤ high → ((z +ℤ pos 1) ≤ℤ high → ⊥) → high ≡ z
last high z h none = by_distance (far_from z high h)
  where
    by_distance : (j : ℕ) × (z +ℤ pos j ≡ high) → high ≡ z
    by_distance (zero, e) = omega (arith, ints, e)
    by_distance (suc j, e) = absurd (none (omega (arith, ints, e)))

module _ (b : Extent) (near : IsNear b) where
  pub edge_west : IsEdge b (height b) (λ j. cell b.lo.x (b.lo.y +ℤ pos j)) west
  edge_west =
      let s = sides b near in
      record {
        held = λ j lt. is_inside b (cell b.lo.x (b.lo.y +ℤ pos j)) (record { west = omega (arith, ints); east = near.wide; south = omega (arith, ints); north = omega (arith, ints, s.high, lt) });
        reached = λ g h out.
            let i = inside b g h in
            let j = far_from b.lo.y g.y i.south in
            let x = first b.lo.x g.x i.west (λ k. out (is_inside b (moved g west) (record { west = k; east = omega (arith, ints, i.east); south = omega (arith, ints, i.south); north = omega (arith, ints, i.north) }))) in
            (j.0, omega (arith, ints, s.high, j.1, i.north), same_cell x j.1);
        once = λ i j e. let y : b.lo.y +ℤ pos i ≡ b.lo.y +ℤ pos j = ap (λ (q : Cell). q.y) e in omega (arith, ints, y);
      }

  pub edge_east : IsEdge b (height b) (λ j. cell b.hi.x (b.lo.y +ℤ pos j)) east
  edge_east =
      let s = sides b near in
      record {
        held = λ j lt. is_inside b (cell b.hi.x (b.lo.y +ℤ pos j)) (record { west = near.wide; east = omega (arith, ints); south = omega (arith, ints); north = omega (arith, ints, s.high, lt) });
        reached = λ g h out.
            let i = inside b g h in
            let j = far_from b.lo.y g.y i.south in
            let x = last b.hi.x g.x i.east (λ k. out (is_inside b (moved g east) (record { west = omega (arith, ints, i.west); east = k; south = omega (arith, ints, i.south); north = omega (arith, ints, i.north) }))) in
            (j.0, omega (arith, ints, s.high, j.1, i.north), same_cell x j.1);
        once = λ i j e. let y : b.lo.y +ℤ pos i ≡ b.lo.y +ℤ pos j = ap (λ (q : Cell). q.y) e in omega (arith, ints, y);
      }

  pub edge_south : IsEdge b (width b) (λ j. cell (b.lo.x +ℤ pos j) b.lo.y) south
  edge_south =
      let s = sides b near in
      record {
        held = λ j lt. is_inside b (cell (b.lo.x +ℤ pos j) b.lo.y) (record { west = omega (arith, ints); east = omega (arith, ints, s.wide, lt); south = omega (arith, ints); north = near.high });
        reached = λ g h out.
            let i = inside b g h in
            let j = far_from b.lo.x g.x i.west in
            let y = first b.lo.y g.y i.south (λ k. out (is_inside b (moved g south) (record { west = omega (arith, ints, i.west); east = omega (arith, ints, i.east); south = k; north = omega (arith, ints, i.north) }))) in
            (j.0, omega (arith, ints, s.wide, j.1, i.east), same_cell j.1 y);
        once = λ i j e. let x : b.lo.x +ℤ pos i ≡ b.lo.x +ℤ pos j = ap (λ (q : Cell). q.x) e in omega (arith, ints, x);
      }

  pub edge_north : IsEdge b (width b) (λ j. cell (b.lo.x +ℤ pos j) b.hi.y) north
  edge_north =
      let s = sides b near in
      record {
        held = λ j lt. is_inside b (cell (b.lo.x +ℤ pos j) b.hi.y) (record { west = omega (arith, ints); east = omega (arith, ints, s.wide, lt); south = near.high; north = omega (arith, ints) });
        reached = λ g h out.
            let i = inside b g h in
            let j = far_from b.lo.x g.x i.west in
            let y = last b.hi.y g.y i.north (λ k. out (is_inside b (moved g north) (record { west = omega (arith, ints, i.west); east = omega (arith, ints, i.east); south = omega (arith, ints, i.south); north = k }))) in
            (j.0, omega (arith, ints, s.wide, j.1, i.east), same_cell j.1 y);
        once = λ i j e. let x : b.lo.x +ℤ pos i ≡ b.lo.x +ℤ pos j = ap (λ (q : Cell). q.x) e in omega (arith, ints, x);
      }
