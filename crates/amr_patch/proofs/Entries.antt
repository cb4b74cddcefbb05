-- Two cells of a box stand at two places.
use Rattle.std.proofs.Common.{◌≡◌, ◌≢◌, ◌∙◌, ℕ, ◌+◌, ◌-◌, ◌*◌, ◌<◌, ◌≤◌, ◌⊎◌, inl, inr, true, ℤ, pos, ◌+ℤ◌, ◌-ℤ◌, ◌≤ℤ◌, ◌<ℤ◌, List, ◌++◌, length, length-take, take, drop, refl, sym, ap, arith}
use Rattle.std.specs.Prelude.{not, slice_index, slice_index_or, slice_set}
use Rattle.std.proofs.lemmas.Int.{ints}
use Rattle.std.proofs.lemmas.Nat.{same_from_place}
use Rattle.std.proofs.lemmas.Bool.{and_parts, cases_lt}
use Rattle.std.proofs.lemmas.List.{get_or-append_right, get_or-drop, get_or-replicate, get_or-set_other, get_or-take, get_or_append_left, length-replicate}
use Rattle.std.proofs.Math.ListN.{get_or-eq_default, replicate}
use borrow.Rule.Slice.PartMut.{post_of}
use Rattle.amr_box.specs.declared.Cell.{Cell}
use Rattle.amr_box.specs.Cells.{Extent, IsNear, at_least_zero, cell, holds, width}
use Rattle.amr_box.proofs.CellEquality.{same_cells}
use Rattle.amr_box.proofs.Numbers.{at_least_zero-same}
use Rattle.amr_patch.specs.Places.{grown, in_frame, place}
use Rattle.amr_patch.proofs.Rows.{inside, is_inside, sides, zero-cut}

pub same_cut : (y z : ℤ) → pos 0 ≤ℤ y → pos 0 ≤ℤ z → at_least_zero y ≡ at_least_zero z → y ≡ z
same_cut y z h k e = sym (at_least_zero-same y h) ∙ ap pos e ∙ at_least_zero-same z k

-- an offset within a row
pub below : (z : ℤ) (w : ℕ) → pos 0 ≤ℤ z → z <ℤ pos w → at_least_zero z < w
below z w h k = let e : pos (at_least_zero z) ≡ z = at_least_zero-same z h in omega (arith, ints)

pub record HasOffsets (x y u v : ℤ) (w : ℕ) : Type 0 where
  pub x_from : pos 0 ≤ℤ x
  pub x_below : x <ℤ pos w
  pub y_from : pos 0 ≤ℤ y
  pub u_from : pos 0 ≤ℤ u
  pub u_below : u <ℤ pos w
  pub v_from : pos 0 ≤ℤ v

same_offsets : (x y u v : ℤ) (w : ℕ) → HasOffsets x y u v w → at_least_zero y * w + at_least_zero x ≡ at_least_zero v * w + at_least_zero u → (x ≡ u) × (y ≡ v)
same_offsets x y u v w h e =
    let both : (at_least_zero y ≡ at_least_zero v) × (at_least_zero x ≡ at_least_zero u) = same_from_place (at_least_zero y) (at_least_zero x) (at_least_zero v) (at_least_zero u) w (below x w h.x_from h.x_below) (below u w h.u_from h.u_below) e in
    (same_cut x u h.x_from h.u_from both.1, same_cut y v h.y_from h.v_from both.0)

pub place-same : (b : Extent) (c d : Cell) → IsNear b → holds (grown b) c ≡ true → holds (grown b) d ≡ true → place b c ≡ place b d → c ≡ d
unfolding place
place-same b c d near p q e =
    let s = sides b near in
    let i = inside (grown b) c p in
    let j = inside (grown b) d q in
    let h : HasOffsets (c.x +ℤ pos 1 -ℤ b.lo.x) (c.y +ℤ pos 1 -ℤ b.lo.y) (d.x +ℤ pos 1 -ℤ b.lo.x) (d.y +ℤ pos 1 -ℤ b.lo.y) (width b + 2) = record {
      x_from = omega (arith, ints, i.west);
      x_below = omega (arith, ints, i.east, s.wide);
      y_from = omega (arith, ints, i.south);
      u_from = omega (arith, ints, j.west);
      u_below = omega (arith, ints, j.east, s.wide);
      v_from = omega (arith, ints, j.south);
    } in
    let o : (c.x +ℤ pos 1 -ℤ b.lo.x ≡ d.x +ℤ pos 1 -ℤ b.lo.x) × (c.y +ℤ pos 1 -ℤ b.lo.y ≡ d.y +ℤ pos 1 -ℤ b.lo.y) = same_offsets _ _ _ _ (width b + 2) h e in
    same_cells c d (omega (arith, ints, o.0)) (omega (arith, ints, o.1))

-- ---- writes

-- after a write at the place of a cell every other cell has what it had
pub other_place : {A : Type 0} (xs : List A) (v z : A) (at : ℕ) (b : Extent) (c d : Cell) → IsNear b → at ≡ place b c → holds (grown b) c ≡ true → holds (grown b) d ≡ true → d ≢ c → slice_index_or (slice_set xs at v) (place b d) z ≡ slice_index_or xs (place b d) z
other_place xs v z at b c d near e p q n = get_or-set_other xs at (place b d) v z (λ f. n (place-same b d c near q p (f ∙ e)))

pub in_grown : (b : Extent) (c : Cell) → holds b c ≡ true → holds (grown b) c ≡ true
in_grown b c e = let i = inside b c e in is_inside (grown b) c (record { west = omega (arith, ints, i.west); east = omega (arith, ints, i.east); south = omega (arith, ints, i.south); north = omega (arith, ints, i.north) })

pub in_the_frame : (b : Extent) (c : Cell) → in_frame b c ≡ true → holds (grown b) c ≡ true
in_the_frame b c e = (and_parts (holds (grown b) c) (not (holds b c)) e).0

-- ---- rows

pub along_row : (b : Extent) (x y : ℤ) (k : ℕ) → (b.lo.x -ℤ pos 1) ≤ℤ x → place b (cell x y) + k ≡ place b (cell (x +ℤ pos k) y)
unfolding place
along_row b x y k h =
    let e : pos (at_least_zero (x +ℤ pos 1 -ℤ b.lo.x)) ≡ x +ℤ pos 1 -ℤ b.lo.x = at_least_zero-same (x +ℤ pos 1 -ℤ b.lo.x) (omega (arith, ints)) in
    let f : at_least_zero (x +ℤ pos k +ℤ pos 1 -ℤ b.lo.x) ≡ at_least_zero (x +ℤ pos 1 -ℤ b.lo.x) + k = zero-cut (x +ℤ pos k +ℤ pos 1 -ℤ b.lo.x) (at_least_zero (x +ℤ pos 1 -ℤ b.lo.x) + k) (omega (arith, ints, e)) in
    omega (arith, f)

-- an entry of a part of a row is the value of its cell
pub row_entry : (xs : List ℕ) (b : Extent) (x y : ℤ) (from m k : ℕ) → k < m → (b.lo.x -ℤ pos 1) ≤ℤ x → from ≡ place b (cell x y) → slice_index (take m (drop from xs)) k ≡ slice_index xs (place b (cell (x +ℤ pos k) y))
row_entry xs b x y from m k lt h e =
    get_or-take m (drop from xs) k 0 lt
    ∙ get_or-drop from xs k 0
    ∙ ap (λ (n : ℕ). slice_index xs n) (ap (λ (n : ℕ). n + k) e ∙ along_row b x y k h)

-- ---- lists of one entry, and lists written in part

pub replicated : {A : Type 0} (n k : ℕ) (a : A) → slice_index_or (replicate n a) k a ≡ a
replicated n k a = cases (cases_lt k n)
  where
    cases : (k < n) ⊎ (n ≤ k) → slice_index_or (replicate n a) k a ≡ a
    cases (inl h) = get_or-replicate n k a a h
    cases (inr h) = get_or-eq_default (replicate n a) a (omega (arith, length-replicate n a, h))

-- a part of a list, n entries from one on, was given other entries
pub part_read : (xs ys zs : List ℕ) (from n k : ℕ) → ys ≡ zs → from ≤ length xs → k < length zs → slice_index (take from xs ++ (ys ++ post_of from n xs)) (from + k) ≡ slice_index zs k
part_read xs ys zs from n k e h lt =
    let front : length (take from xs) ≡ from = length-take from xs ∙ omega arith in
    let back : from + k - from ≡ k = omega arith in
    get_or-append_right (take from xs) (ys ++ post_of from n xs) from (from + k) 0 front (omega arith)
    ∙ ap (λ (i : ℕ). slice_index (ys ++ post_of from n xs) i) back
    ∙ ap (λ (ws : List ℕ). slice_index (ws ++ post_of from n xs) k) e
    ∙ get_or_append_left zs (post_of from n xs) 0 k lt

pub part_kept : (xs ys zs : List ℕ) (from n k : ℕ) → ys ≡ zs → n ≡ length zs → from + length zs ≤ length xs → (k < from) ⊎ (from + length zs ≤ k) → slice_index (take from xs ++ (ys ++ post_of from n xs)) k ≡ slice_index xs k
part_kept xs ys zs from n k e m h (inl lt) =
    let front : length (take from xs) ≡ from = length-take from xs ∙ omega arith in
    get_or_append_left (take from xs) (ys ++ post_of from n xs) 0 k (omega (arith, front)) ∙ get_or-take from xs k 0 lt
part_kept xs ys zs from n k e m h (inr le) =
    let front : length (take from xs) ≡ from = length-take from xs ∙ omega arith in
    let rest : from + (n + (k - from - length zs)) ≡ k = omega arith in
    get_or-append_right (take from xs) (ys ++ post_of from n xs) from k 0 front (omega arith)
    ∙ ap (λ (ws : List ℕ). slice_index (ws ++ post_of from n xs) (k - from)) e
    ∙ get_or-append_right zs (post_of from n xs) (length zs) (k - from) 0 refl (omega arith)
    ∙ get_or-drop n (drop from xs) (k - from - length zs) 0
    ∙ get_or-drop from xs (n + (k - from - length zs)) 0
    ∙ ap (λ (i : ℕ). slice_index xs i) rest

-- after a write to a span of cells every other cell has what it had
pub beside_span : (b : Extent) (c d : Cell) (from n : ℕ) → IsNear b → holds b c ≡ true → (c.x +ℤ pos n) ≤ℤ (b.hi.x +ℤ pos 1) → from ≡ place b c → holds (grown b) d ≡ true → ((k : ℕ) → k < n → d ≢ cell (c.x +ℤ pos k) c.y) → (place b d < from) ⊎ (from + n ≤ place b d)
beside_span b c d from n near h room e g other = cases (cases_lt (place b d) from) (cases_lt (place b d) (from + n))
  where
    cases : (place b d < from) ⊎ (from ≤ place b d) → (place b d < from + n) ⊎ (from + n ≤ place b d) → (place b d < from) ⊎ (from + n ≤ place b d)
    cases (inl lt) u = inl lt
    cases (inr le) (inr past) = inr past
    cases (inr le) (inl lt) =
        let i = inside b c h in
        let k : ℕ = place b d - from in
        let within_span : k < n = omega arith in
        let cells : holds (grown b) (cell (c.x +ℤ pos k) c.y) ≡ true = is_inside (grown b) (cell (c.x +ℤ pos k) c.y) (record { west = omega (arith, ints, i.west); east = omega (arith, ints, room, within_span); south = omega (arith, ints, i.south); north = omega (arith, ints, i.north) }) in
        let shifted : place b d ≡ from + k = omega arith in
        let there : place b d ≡ place b (cell (c.x +ℤ pos k) c.y) = shifted ∙ ap (λ (m : ℕ). m + k) e ∙ along_row b c.x c.y k (omega (arith, ints, i.west)) in
        absurd (other k within_span (place-same b d (cell (c.x +ℤ pos k) c.y) near g cells there))
