-- What flows through the edges of one box of the domain by way of its open sides: for each side of the domain, what flows beside
-- those of the side's cells that the box holds.
use Rattle.std.proofs.Common.{◌≡◌, ℕ, ◌+◌, ◌<◌, ◌≤◌, ◌⊎◌, inl, inr, Bool, true, false, ◌&&◌, cond, ℤ, pos, ◌+ℤ◌, ◌-ℤ◌, refl, sym, ap, ◌∙◌, arith}
use Rattle.std.specs.Prelude.{not, unsigned_abs}
use Rattle.std.proofs.lemmas.Int.{ints}
use Rattle.std.proofs.lemmas.Bool.{both_ways, cases_lt, false_from_ne_true}
use Rattle.amr_box.specs.declared.Cell.{Cell}
use Rattle.amr_box.specs.declared.Face.{Face}
use Rattle.amr_box.specs.declared.Axis.TheVariants.{X, Y}
use Rattle.amr_box.specs.Cells.{Extent, cell, height, holds, width}
use Rattle.amr_box.proofs.CellEquality.{same_cell}
use Rattle.amr_def.specs.Domain.{columns, is_periodic, rows}
use Rattle.amr_def.specs.State.{Masses, is_covered}
use Rattle.amr_def.specs.Flux.{Fluxes, face, flux_at, high_cell, low_cell}
use Rattle.amr_patch.proofs.Rows.{inside as in_box, is_inside}
use Rattle.amr_faces.specs.Faces.{x_end, y_end}
use Rattle.amr_layout.specs.Surroundings.{Around, inside, inward, is_open, outside, x_start, y_start}
use Rattle.amr_layout.specs.Adds.{is_ledger_face}
use Rattle.amr_layout.proofs.Going.{open_is}
use Rattle.amr_flows.proofs.LedgerFlowsWays.{IsWay, flux_high, flux_low}
use Rattle.amr_layout.proofs.OpenSides.{IsAmong}
use Rattle.amr_flows.proofs.LedgerFlowsOpen.{IsPlaced, lacks_x, lacks_y}

-- ---- one face

-- the size of the flux through a face on the edges of a box, where it goes to the ledger and mass flows that way
abbrev pub way_size : Around → Fluxes → (ℤ → Bool) → Extent → Face → ℕ
way_size s e sign b f = cond (is_ledger_face s b f && sign (inward s.problem s.level b f)) (unsigned_abs (e f)) 0

-- what flows through a face at an end of an axis, beside a cell that isn't covered
abbrev pub side_flow : Around → Fluxes → Bool → (ℤ → ℕ) → Cell → Face → ℕ
side_flow s e wraps part c g = cond wraps 0 (cond (not (is_covered s.finer c)) (part (e g)) 0)

three : (a b t : Bool) (v : ℕ) → cond ((a && b) && t) v 0 ≡ cond a (cond b (cond t v 0) 0) 0
three true true t v = refl
three true false t v = refl
three false b t v = refl

module _ (s : Around) (e : Fluxes) (sign : ℤ → Bool) (b : Extent) (f g : Face) (c : Cell) (wraps : Bool) (part : ℤ → ℕ) where
  one_face : is_open s b f ≡ (not wraps && holds b c) → (holds b c ≡ true → f ≡ g) → (holds b c ≡ true → inside b f ≡ c) → cond (sign (inward s.problem s.level b f)) (unsigned_abs (e f)) 0 ≡ part (e f)
      → way_size s e sign b f ≡ cond (holds b c) (side_flow s e wraps part c g) 0
  unfolding is_ledger_face
  one_face opens same at is =
      three (is_open s b f) (not (is_covered s.finer (inside b f))) (sign (inward s.problem s.level b f)) (unsigned_abs (e f))
      ∙ (λ i. cond (opens i) (cond (not (is_covered s.finer (inside b f))) (is i) 0) 0)
      ∙ from (holds b c) refl wraps
    where
      from : (u : Bool) → holds b c ≡ u → (w : Bool) → cond (not w && u) (cond (not (is_covered s.finer (inside b f))) (part (e f)) 0) 0 ≡ cond u (side_flow s e w part c g) 0
      from true h true = refl
      from true h false = λ i. cond (not (is_covered s.finer (at h i))) (part (e (same h i))) 0
      from false h true = refl
      from false h false = refl

-- ---- the faces of the four sides of a box

module _ (s : Around) (m old : Masses) (sign : ℤ → Bool) (low high : ℤ → ℕ) (way : IsWay sign low high) (b : Extent) (at : IsPlaced s.problem s.level b) where
  abbrev e : Fluxes
  e = flux_at s.problem s.level m old

  some_x : 0 < columns s.problem s.level
  some_x = omega (arith, at.some_columns, at.within_columns)

  some_y : 0 < rows s.problem s.level
  some_y = omega (arith, at.some_rows, at.within_rows)

  row_among : (j : ℕ) → j < height b → IsAmong (rows s.problem s.level) (b.lo.y +ℤ pos j)
  row_among j lt = (omega (arith, ints, at.below), omega (arith, ints, at.below, at.within_rows, lt))

  column_among : (i : ℕ) → i < width b → IsAmong (columns s.problem s.level) (b.lo.x +ℤ pos i)
  column_among i lt = (omega (arith, ints, at.left), omega (arith, ints, at.left, at.within_columns, lt))

  row_is : (j : ℕ) → b.lo.y +ℤ pos j ≡ pos (at.row + j)
  row_is j = omega (arith, ints, at.below)

  column_is : (i : ℕ) → b.lo.x +ℤ pos i ≡ pos (at.column + i)
  column_is i = omega (arith, ints, at.left)

  -- the cells beside the face of a box with no cell on its high side, and with one
  high_outside : (f : Face) → holds b (high_cell f) ≡ false → (inside b f ≡ low_cell f) × (high_cell f ≡ outside b f)
  high_outside f out = (ap (λ (t : Bool). cond t (high_cell f) (low_cell f)) out, sym (ap (λ (t : Bool). cond t (low_cell f) (high_cell f)) out))

  high_inside : (f : Face) → holds b (high_cell f) ≡ true → (inside b f ≡ high_cell f) × (low_cell f ≡ outside b f)
  high_inside f held = (ap (λ (t : Bool). cond t (high_cell f) (low_cell f)) held, sym (ap (λ (t : Bool). cond t (low_cell f) (high_cell f)) held))

  pub west_face : (j : ℕ) → j < height b → let c : Cell = cell (pos 0) (pos (at.row + j)) in way_size s e sign b (x_start b j) ≡ cond (holds b c) (side_flow s e (is_periodic s.problem.x_sides) low c (face X (pos 0) (pos (at.row + j)))) 0
  west_face j lt =
      let f : Face = x_start b j in
      let c : Cell = cell (pos 0) (pos (at.row + j)) in
      let held : holds b (high_cell f) ≡ true = is_inside b (high_cell f) (record { west = omega (arith, ints); east = omega (arith, ints, at.left, at.wide, at.some_columns); south = omega (arith, ints); north = omega (arith, ints, at.below, at.high, lt) }) in
      let beside = high_inside f held in
      let first : holds b c ≡ true → b.lo.x ≡ pos 0 = λ h. omega (arith, ints, at.left, (in_box b c h).west) in
      one_face s e sign b f (face X (pos 0) (pos (at.row + j))) c (is_periodic s.problem.x_sides) low
      (open_is s b f (low_cell f) (not (is_periodic s.problem.x_sides) && holds b c) beside.1
      (lacks_x s.problem s.level some_x some_y (low_cell f) (holds b c) (row_among j lt) (λ h. inl (omega (arith, ints, first h))) (among j lt)))
      (λ h i. face X (first h i) (row_is j i))
      (λ h. beside.0 ∙ same_cell (first h) (row_is j))
      (flux_low s.problem s.level m old sign low high way b f held)
    where
      among : (j : ℕ) → j < height b → holds b (cell (pos 0) (pos (at.row + j))) ≡ false → IsAmong (columns s.problem s.level) (b.lo.x -ℤ pos 1)
      among j lt out = from (cases_lt 0 at.column)
        where
          from : ((0 < at.column) ⊎ (at.column ≤ 0)) → IsAmong (columns s.problem s.level) (b.lo.x -ℤ pos 1)
          from (inl some) = (omega (arith, ints, at.left, some), omega (arith, ints, at.left, at.some_columns, at.within_columns))
          from (inr none) = absurd (both_ways (holds b (cell (pos 0) (pos (at.row + j)))) out (is_inside b (cell (pos 0) (pos (at.row + j))) (record { west = omega (arith, ints, at.left, none); east = omega (arith, ints, at.left, at.wide, at.some_columns); south = omega (arith, ints, at.below); north = omega (arith, ints, at.high, lt) })))

  pub east_face : (j : ℕ) → j < height b → let n : ℕ = columns s.problem s.level in let c : Cell = cell (pos n -ℤ pos 1) (pos (at.row + j)) in way_size s e sign b (x_end b j) ≡ cond (holds b c) (side_flow s e (is_periodic s.problem.x_sides) high c (face X (pos n) (pos (at.row + j)))) 0
  east_face j lt =
      let n : ℕ = columns s.problem s.level in
      let f : Face = x_end b j in
      let c : Cell = cell (pos n -ℤ pos 1) (pos (at.row + j)) in
      let out : holds b (high_cell f) ≡ false = false_from_ne_true (holds b (high_cell f)) (λ h. omega (arith, ints, (in_box b (high_cell f) h).east)) in
      let beside = high_outside f out in
      let last : holds b c ≡ true → b.hi.x +ℤ pos 1 ≡ pos n = λ h. omega (arith, ints, at.wide, at.within_columns, (in_box b c h).east) in
      one_face s e sign b f (face X (pos n) (pos (at.row + j))) c (is_periodic s.problem.x_sides) high
      (open_is s b f (high_cell f) (not (is_periodic s.problem.x_sides) && holds b c) beside.1
      (lacks_x s.problem s.level some_x some_y (high_cell f) (holds b c) (row_among j lt) (λ h. inr (omega (arith, ints, last h))) (among j lt)))
      (λ h i. face X (last h i) (row_is j i))
      (λ h. beside.0 ∙ same_cell (ap (λ z. z -ℤ pos 1) (last h)) (row_is j))
      (flux_high s.problem s.level m old sign low high way b f out)
    where
      among : (j : ℕ) → j < height b → holds b (cell (pos (columns s.problem s.level) -ℤ pos 1) (pos (at.row + j))) ≡ false → IsAmong (columns s.problem s.level) (b.hi.x +ℤ pos 1)
      among j lt away = from (cases_lt (at.column + width b) (columns s.problem s.level))
        where
          from : ((at.column + width b < columns s.problem s.level) ⊎ (columns s.problem s.level ≤ at.column + width b)) → IsAmong (columns s.problem s.level) (b.hi.x +ℤ pos 1)
          from (inl less) = (omega (arith, ints, at.wide), omega (arith, ints, at.wide, less))
          from (inr all) =
              let c : Cell = cell (pos (columns s.problem s.level) -ℤ pos 1) (pos (at.row + j)) in
              absurd (both_ways (holds b c) away (is_inside b c (record { west = omega (arith, ints, at.left, at.some_columns, all, at.within_columns); east = omega (arith, ints, at.wide, all, at.within_columns); south = omega (arith, ints, at.below); north = omega (arith, ints, at.high, lt) })))

  pub south_face : (i : ℕ) → i < width b → let c : Cell = cell (pos (at.column + i)) (pos 0) in way_size s e sign b (y_start b i) ≡ cond (holds b c) (side_flow s e (is_periodic s.problem.y_sides) low c (face Y (pos (at.column + i)) (pos 0))) 0
  south_face i lt =
      let f : Face = y_start b i in
      let c : Cell = cell (pos (at.column + i)) (pos 0) in
      let held : holds b (high_cell f) ≡ true = is_inside b (high_cell f) (record { west = omega (arith, ints); east = omega (arith, ints, at.left, at.wide, lt); south = omega (arith, ints); north = omega (arith, ints, at.below, at.high, at.some_rows) }) in
      let beside = high_inside f held in
      let first : holds b c ≡ true → b.lo.y ≡ pos 0 = λ h. omega (arith, ints, at.below, (in_box b c h).south) in
      one_face s e sign b f (face Y (pos (at.column + i)) (pos 0)) c (is_periodic s.problem.y_sides) low
      (open_is s b f (low_cell f) (not (is_periodic s.problem.y_sides) && holds b c) beside.1
      (lacks_y s.problem s.level some_x some_y (low_cell f) (holds b c) (column_among i lt) (λ h. inl (omega (arith, ints, first h))) (among i lt)))
      (λ h t. face Y (column_is i t) (first h t))
      (λ h. beside.0 ∙ same_cell (column_is i) (first h))
      (flux_low s.problem s.level m old sign low high way b f held)
    where
      among : (i : ℕ) → i < width b → holds b (cell (pos (at.column + i)) (pos 0)) ≡ false → IsAmong (rows s.problem s.level) (b.lo.y -ℤ pos 1)
      among i lt out = from (cases_lt 0 at.row)
        where
          from : ((0 < at.row) ⊎ (at.row ≤ 0)) → IsAmong (rows s.problem s.level) (b.lo.y -ℤ pos 1)
          from (inl some) = (omega (arith, ints, at.below, some), omega (arith, ints, at.below, at.some_rows, at.within_rows))
          from (inr none) = absurd (both_ways (holds b (cell (pos (at.column + i)) (pos 0))) out (is_inside b (cell (pos (at.column + i)) (pos 0)) (record { west = omega (arith, ints, at.left); east = omega (arith, ints, at.wide, lt); south = omega (arith, ints, at.below, none); north = omega (arith, ints, at.below, at.high, at.some_rows) })))

  pub north_face : (i : ℕ) → i < width b → let n : ℕ = rows s.problem s.level in let c : Cell = cell (pos (at.column + i)) (pos n -ℤ pos 1) in way_size s e sign b (y_end b i) ≡ cond (holds b c) (side_flow s e (is_periodic s.problem.y_sides) high c (face Y (pos (at.column + i)) (pos n))) 0
  north_face i lt =
      let n : ℕ = rows s.problem s.level in
      let f : Face = y_end b i in
      let c : Cell = cell (pos (at.column + i)) (pos n -ℤ pos 1) in
      let out : holds b (high_cell f) ≡ false = false_from_ne_true (holds b (high_cell f)) (λ h. omega (arith, ints, (in_box b (high_cell f) h).north)) in
      let beside = high_outside f out in
      let last : holds b c ≡ true → b.hi.y +ℤ pos 1 ≡ pos n = λ h. omega (arith, ints, at.high, at.within_rows, (in_box b c h).north) in
      one_face s e sign b f (face Y (pos (at.column + i)) (pos n)) c (is_periodic s.problem.y_sides) high
      (open_is s b f (high_cell f) (not (is_periodic s.problem.y_sides) && holds b c) beside.1
      (lacks_y s.problem s.level some_x some_y (high_cell f) (holds b c) (column_among i lt) (λ h. inr (omega (arith, ints, last h))) (among i lt)))
      (λ h t. face Y (column_is i t) (last h t))
      (λ h. beside.0 ∙ same_cell (column_is i) (ap (λ z. z -ℤ pos 1) (last h)))
      (flux_high s.problem s.level m old sign low high way b f out)
    where
      among : (i : ℕ) → i < width b → holds b (cell (pos (at.column + i)) (pos (rows s.problem s.level) -ℤ pos 1)) ≡ false → IsAmong (rows s.problem s.level) (b.hi.y +ℤ pos 1)
      among i lt away = from (cases_lt (at.row + height b) (rows s.problem s.level))
        where
          from : ((at.row + height b < rows s.problem s.level) ⊎ (rows s.problem s.level ≤ at.row + height b)) → IsAmong (rows s.problem s.level) (b.hi.y +ℤ pos 1)
          from (inl less) = (omega (arith, ints, at.high), omega (arith, ints, at.high, less))
          from (inr all) =
              let c : Cell = cell (pos (at.column + i)) (pos (rows s.problem s.level) -ℤ pos 1) in
              absurd (both_ways (holds b c) away (is_inside b c (record { west = omega (arith, ints, at.left); east = omega (arith, ints, at.wide, lt); south = omega (arith, ints, at.below, at.some_rows, all, at.within_rows); north = omega (arith, ints, at.high, all, at.within_rows) })))
