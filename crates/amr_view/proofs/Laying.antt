-- Masses of a row of cells, over which those of patches are laid.
use Rattle.std.proofs.Common.{◌≡◌, ◌∙◌, ℕ, ◌+◌, ◌-◌, ◌<◌, ◌≤◌, ◌⊎◌, inl, inr, Bool, true, false, cond, ◌&&◌, pos, ◌+ℤ◌, ◌-ℤ◌, ◌≤ℤ◌, List, [], ◌∷◌, ◌++◌, length, take, drop, refl, sym, ap, arith}
use Rattle.std.specs.Prelude.{slice_index}
use Rattle.std.specs.declared.option.Option.{Option}
use Rattle.std.specs.declared.option.Option.TheVariants.{None, Some}
use Rattle.std.specs.Option.{unwrap_or}
use Rattle.std.proofs.lemmas.Int.{ints}
use Rattle.std.proofs.lemmas.Bool.{cases_lt, false_from_ne_true}
use Rattle.std.proofs.lemmas.List.{get_or-take, length-append, length-drop, length-take}
use borrow.Rule.Slice.PartMut.{post_of}
use Rattle.amr_box.specs.Cells.{AreDisjoint, Extent, IsBoxOf, IsNear, IsProper, cell, holds, width}
use Rattle.amr_box.proofs.CellEquality.{same_cell}
use Rattle.amr_patch.specs.declared.patches.Patch.{Patch}
use Rattle.amr_patch.specs.Patches.{box, mass_in, masses_in}
use Rattle.amr_patch.proofs.Entries.{part_kept, part_read}
use Rattle.amr_patch.proofs.Rows.{IsIn, inside, is_inside, sides}
use Rattle.amr_transfer.proofs.BoxRows.{in_both, in_second}
use Rattle.amr_view.specs.Rows.{AreLaid, cell_at}

-- a cell of the row
pub in_row : (row : Extent) (k : ℕ) → IsNear row → row.hi.y ≡ row.lo.y → k < width row → holds row (cell_at row k) ≡ true
in_row row k near flat lt =
    is_inside row (cell_at row k) (record { west = omega (arith, ints); east = omega (arith, ints, (sides row near).wide, lt); south = omega (arith, ints); north = omega (arith, ints, flat) })

-- ---- patch after patch

-- the first of a list goes over the rest
pub laid_more : (p : Patch) (ps : List Patch) (row : Extent) (old mid new : List ℕ) → length mid ≡ length new → AreLaid (masses_in ps) row old mid → AreLaid (masses_in (p ∷ [])) row mid new → AreLaid (masses_in (p ∷ ps)) row old new
laid_more p ps row old mid new same first second k lt =
    second k lt
    ∙ ap (unwrap_or (masses_in (p ∷ []) (cell_at row k))) (first k (omega (arith, lt, same)))
    ∙ over (holds (box p) (cell_at row k)) (mass_in p (cell_at row k)) (masses_in ps (cell_at row k)) (slice_index old k)
  where
    over : (t : Bool) (v : ℕ) (o : Option ℕ) (d : ℕ) → unwrap_or (cond t (Some v) None) (unwrap_or o d) ≡ unwrap_or (cond t (Some v) o) d
    over true v o d = refl
    over false v o d = refl

-- ---- one patch

-- the box of what a row and a patch both have: it lies in the row, and reaches no further than the patch
pub record IsMeeting (q : Patch) (row both : Extent) : Type 0 where
  pub west : row.lo.x ≤ℤ both.lo.x
  pub east : both.hi.x ≤ℤ row.hi.x
  pub south : both.lo.y ≡ row.lo.y
  pub held : holds (box q) both.lo ≡ true
  pub reach : both.hi.x ≤ℤ (box q).hi.x

module _ (q : Patch) (row : Extent) (near : IsNear row) (flat : row.hi.y ≡ row.lo.y) where
  -- it has none of the cells
  pub laid_apart : (old : List ℕ) → length old ≡ width row → AreDisjoint row (box q) → AreLaid (masses_in (q ∷ [])) row old old
  laid_apart old count apart k lt =
      let held = in_row row k near flat (omega (arith, lt, count)) in
      let out : holds (box q) (cell_at row k) ≡ false = ap (λ (t : Bool). t && holds (box q) (cell_at row k)) (sym held) ∙ apart (cell_at row k) in
      ap (λ (t : Bool). unwrap_or (cond t (Some (mass_in q (cell_at row k))) None) (slice_index old k)) (sym out)

  -- the box of what the row and the patch both have
  module _ (both : Extent) (cells : IsBoxOf both (λ c. holds row c && holds (box q) c)) (proper : IsProper both) where
    low_held : (holds row both.lo ≡ true) × (holds (box q) both.lo ≡ true)
    low_held = in_both row (box q) both both.lo cells (is_inside both both.lo (record { west = omega (arith, ints); east = proper.wide; south = omega (arith, ints); north = proper.high }))

    high_held : (holds row both.hi ≡ true) × (holds (box q) both.hi ≡ true)
    high_held = in_both row (box q) both both.hi cells (is_inside both both.hi (record { west = proper.wide; east = omega (arith, ints); south = proper.high; north = omega (arith, ints) }))

    pub meeting : IsMeeting q row both
    meeting =
        let low = inside row both.lo low_held.0 in
        let high = inside row both.hi high_held.0 in
        let end = inside (box q) both.hi high_held.1 in
        record {
          west = low.west;
          east = high.east;
          south = omega (arith, ints, low.south, low.north, flat);
          held = low_held.1;
          reach = end.east;
        }

    -- entries of the list from one on are replaced
    module _ (from count n : ℕ) (span old part : List ℕ) (starts : pos from ≡ both.lo.x -ℤ row.lo.x) (wide : pos count ≡ both.hi.x +ℤ pos 1 -ℤ both.lo.x) (whole : n ≡ count) (long : length old ≡ width row)
        (enough : count ≤ length span) (masses : (j : ℕ) → j < length span → slice_index span j ≡ mass_in q (cell (both.lo.x +ℤ pos j) both.lo.y)) (same : part ≡ take count span) where
      abbrev new : List ℕ
      new = take from old ++ (part ++ post_of from n old)

      fits : from + count ≤ length old
      fits = omega (arith, ints, meeting.east, starts, wide, long, (sides row near).wide)

      part_long : length (take count span) ≡ count
      part_long = length-take count span ∙ omega (arith, enough)

      -- in what both have
      given_here : (k : ℕ) → from ≤ k → k < from + count → slice_index new k ≡ unwrap_or (masses_in (q ∷ []) (cell_at row k)) (slice_index old k)
      given_here k low below =
          let c = cell_at row k in
          let y = meeting.south in
          let there : holds both c ≡ true = is_inside both c (record {
            west = omega (arith, ints, starts, low);
            east = omega (arith, ints, starts, wide, below);
            south = omega (arith, ints, y);
            north = omega (arith, ints, y, proper.high);
          }) in
          let held : holds (box q) c ≡ true = (in_both row (box q) both c cells there).1 in
          let j : ℕ = k - from in
          let at : from + j ≡ k = omega (arith, low) in
          let x : both.lo.x +ℤ pos j ≡ row.lo.x +ℤ pos k = omega (arith, ints, starts, low) in
          ap (slice_index new) (sym at)
          ∙ part_read old part (take count span) from n j same (omega (arith, fits)) (omega (arith, part_long, below, low))
          ∙ get_or-take count span j 0 (omega (arith, below, low))
          ∙ masses j (omega (arith, below, low, enough))
          ∙ ap (mass_in q) (same_cell x y)
          ∙ ap (λ (t : Bool). unwrap_or (cond t (Some (mass_in q c)) None) (slice_index old k)) (sym held)

      -- and beside it
      kept_beside : (k : ℕ) → k < width row → (k < from) ⊎ (from + count ≤ k) → slice_index new k ≡ unwrap_or (masses_in (q ∷ []) (cell_at row k)) (slice_index old k)
      kept_beside k lt out =
          let c = cell_at row k in
          let away : holds both c ≡ false = false_from_ne_true (holds both c) (λ h. beside (inside both c h) out) in
          let none : holds (box q) c ≡ false = in_second row (box q) both c cells (in_row row k near flat lt) ∙ away in
          part_kept old part (take count span) from n k same (omega (arith, part_long, whole)) (omega (arith, fits, part_long)) (beyond out)
          ∙ ap (λ (t : Bool). unwrap_or (cond t (Some (mass_in q c)) None) (slice_index old k)) (sym none)
        where
          beside : IsIn both (cell_at row k) → (k < from) ⊎ (from + count ≤ k) → ⊥
          beside i (inl a) = omega (arith, ints, i.west, starts, a)
          beside i (inr b) = omega (arith, ints, i.east, starts, wide, b)

          beyond : (k < from) ⊎ (from + count ≤ k) → (k < from) ⊎ (from + length (take count span) ≤ k)
          beyond (inl a) = inl a
          beyond (inr b) = inr (omega (arith, b, part_long))

      count_new : length new ≡ width row
      count_new =
          omega (arith, length-append (take from old) (part ++ post_of from n old), length-append part (post_of from n old), length-take from old, length-drop n (drop from old), length-drop from old, ap length same, part_long, fits, long, whole)

      pub laid_part : AreLaid (masses_in (q ∷ [])) row old new
      laid_part k lt = by_place (cases_lt k from) (cases_lt k (from + count))
        where
          by_place : (k < from) ⊎ (from ≤ k) → (k < from + count) ⊎ (from + count ≤ k) → slice_index new k ≡ unwrap_or (masses_in (q ∷ []) (cell_at row k)) (slice_index old k)
          by_place (inl a) b = kept_beside k (omega (arith, lt, count_new)) (inl a)
          by_place (inr a) (inl b) = given_here k a b
          by_place (inr a) (inr b) = kept_beside k (omega (arith, lt, count_new)) (inr b)
