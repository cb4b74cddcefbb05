-- Where the cells of a strip stand in the lists of a patch.
use Rattle.std.proofs.Common.{◌≡◌, ℕ, ◌+◌, ◌*◌, ◌<◌, Bool, List, length, pos, ◌+ℤ◌, ◌-ℤ◌, IsTrue, refl, sym, ap, subst, ◌∙◌, arith}
use Rattle.std.specs.Prelude.{slice_index}
use Rattle.std.proofs.lemmas.Int.{ints}
use Rattle.amr_box.specs.declared.Cell.{Cell}
use Rattle.amr_box.specs.declared.Axis.{Axis}
use Rattle.amr_box.specs.declared.Axis.TheVariants.{X, Y}
use Rattle.amr_box.specs.Cells.{Extent, IsNear, at_least_zero, cell, height, holds, width}
use Rattle.amr_box.proofs.Numbers.{at_least_zero-same}
use Rattle.amr_patch.specs.declared.patches.Patch.{Patch}
use Rattle.amr_patch.specs.Places.{grown, place}
use Rattle.amr_patch.specs.Patches.{box, value_in}
use Rattle.amr_patch.proofs.Rows.{inside, place_within, sides, zero-cut}
use Rattle.amr_patch.proofs.Entries.{along_row, below}
use Rattle.amr_ghost.specs.declared.entries.Entries.{Entries}
use Rattle.amr_ghost.specs.Strips.{nth_place, step}

-- the place of a cell is one of the list
pub place_below : (b : Extent) (c : Cell) → IsNear b → IsTrue (holds (grown b) c) → place b c < (height b + 2) * (width b + 2)
unfolding place
place_below b c near h =
    let s = sides b near in
    let i = inside (grown b) c h in
    let row : at_least_zero (c.y +ℤ pos 1 -ℤ b.lo.y) < height b + 2 = below (c.y +ℤ pos 1 -ℤ b.lo.y) (height b + 2) (omega (arith, ints, i.south)) (omega (arith, ints, i.north, s.high)) in
    let column : at_least_zero (c.x +ℤ pos 1 -ℤ b.lo.x) < width b + 2 = below (c.x +ℤ pos 1 -ℤ b.lo.x) (width b + 2) (omega (arith, ints, i.west)) (omega (arith, ints, i.east, s.wide)) in
    place_within (at_least_zero (c.y +ℤ pos 1 -ℤ b.lo.y)) (at_least_zero (c.x +ℤ pos 1 -ℤ b.lo.x)) (width b + 2) (height b + 2) row column

pub place_in_list : (q : Patch) (c : Cell) → IsTrue (holds (grown (box q)) c) → place (box q) c < length q.data.value.values.items
place_in_list q c h = let p : place (box q) c < (height (box q) + 2) * (width (box q) + 2) = place_below (box q) c q.near h in rw q.value_count p

pub entry_in_list : (q : Patch) (c : Cell) (at : ℕ) → at ≡ place (box q) c → IsTrue (holds (grown (box q)) c) → at < length q.data.value.values.items
entry_in_list q c at e h = subst (λ (n : ℕ). n < length q.data.value.values.items) (sym e) (place_in_list q c h)

-- the cells of a strip along x stand one by one, those of one along y a row of the grown box apart
pub along_x : (b : Extent) (c : Cell) (first k : ℕ) → IsTrue (holds (grown b) c) → first ≡ place b c → first + k * 1 ≡ place b (step X c k)
along_x b c first k h e =
    let i = inside (grown b) c h in
    let p : place b c + k ≡ place b (cell (c.x +ℤ pos k) c.y) = along_row b c.x c.y k i.west in
    omega (arith, p, e)

further_row : (r k w c : ℕ) → (r + k) * w + c ≡ r * w + c + k * w
further_row r k w c = grind arith

pub along_y : (b : Extent) (c : Cell) (first stride k : ℕ) → IsTrue (holds (grown b) c) → first ≡ place b c → stride ≡ width b + 2 → first + k * stride ≡ place b (step Y c k)
unfolding place
along_y b c first stride k h e f =
    let i = inside (grown b) c h in
    let row : pos (at_least_zero (c.y +ℤ pos 1 -ℤ b.lo.y)) ≡ c.y +ℤ pos 1 -ℤ b.lo.y = at_least_zero-same (c.y +ℤ pos 1 -ℤ b.lo.y) (omega (arith, ints, i.south)) in
    let later : at_least_zero (c.y +ℤ pos k +ℤ pos 1 -ℤ b.lo.y) ≡ at_least_zero (c.y +ℤ pos 1 -ℤ b.lo.y) + k = zero-cut (c.y +ℤ pos k +ℤ pos 1 -ℤ b.lo.y) (at_least_zero (c.y +ℤ pos 1 -ℤ b.lo.y) + k) (omega (arith, ints, row)) in
    rw (e, f, later) (sym (further_row (at_least_zero (c.y +ℤ pos 1 -ℤ b.lo.y)) k (width b + 2) (at_least_zero (c.x +ℤ pos 1 -ℤ b.lo.x))))

-- what stands at the place of a cell is its value
pub entry_is : (q : Patch) (b : Extent) (c : Cell) (at v : ℕ) → box q ≡ b → at ≡ place b c → v ≡ slice_index q.data.value.values.items at → v ≡ value_in q c
unfolding value_in
entry_is q b c at v e f g = g ∙ ap (λ (n : ℕ). slice_index q.data.value.values.items n) (f ∙ ap (λ (t : Extent). place t c) (sym e))

-- ---- the entries of a strip in the lists of a patch

pub nth_is : (b t : Extent) (e : Entries) (axis : Axis) (c : Cell) → t ≡ b → ((k : ℕ) → nth_place e k ≡ place t (step axis c k)) → (k : ℕ) → nth_place e k ≡ place b (step axis c k)
nth_is b t e axis c same places k = places k ∙ ap (λ (u : Extent). place u (step axis c k)) same

module _ (q : Patch) (e : Entries) (axis : Axis) (c : Cell) (n : ℕ) (places : (k : ℕ) → nth_place e k ≡ place (box q) (step axis c k)) (cells : (k : ℕ) → k < n → IsTrue (holds (grown (box q)) (step axis c k))) where
  pub within_values : (xs : List ℕ) → xs ≡ q.data.value.values.items → (k : ℕ) → k < n → nth_place e k < length xs
  within_values xs are k t = subst (λ (ys : List ℕ). nth_place e k < length ys) (sym are) (entry_in_list q (step axis c k) (nth_place e k) (places k) (cells k t))

  pub within_marks : (xs : List Bool) → xs ≡ q.data.value.marks.items → (k : ℕ) → k < n → nth_place e k < length xs
  within_marks xs are k t = subst (λ (m : ℕ). nth_place e k < m) (q.value_count ∙ sym q.mark_count ∙ ap length (sym are)) (within_values q.data.value.values.items refl k t)
