-- Cells of a patch of which fine patches have the children.
use Rattle.std.proofs.Common.{◌≡◌, ◌∙◌, ℕ, ◌+◌, ◌*◌, ◌/◌, ◌<◌, ◌≤◌, Bool, true, false, ◌||◌, ℤ, pos, ◌+ℤ◌, ◌≤ℤ◌, ◌<ℤ◌, List, length, take, drop, sym, ap, arith}
use Rattle.std.specs.Prelude.{slice_index, slice_index_or}
use Rattle.std.proofs.lemmas.Int.{ints}
use Rattle.std.proofs.lemmas.Bool.{false_from_ne_true}
use Rattle.std.proofs.lemmas.List.{get_or-drop, get_or-take, length-drop, length-take-le, take-append-drop}
use Rattle.std.proofs.lemmas.List.Folds.{list_any-append, list_any_none}
use Rattle.std.proofs.Math.Bool.{or-false}
use Rattle.amr_box.specs.declared.Cell.{Cell}
use Rattle.amr_box.specs.Cells.{Extent, cell, child, has_child_where, holds}
use Rattle.amr_def.specs.Facts.{IsAligned}
use Rattle.amr_patch.specs.declared.patches.Patch.{Patch}
use Rattle.amr_patch.specs.Patches.{box, in_patches, mass_in}
use Rattle.amr_patch.proofs.Rows.{inside, is_inside}
use Rattle.amr_transfer.specs.Sums.{children_in, four_at}
use Rattle.amr_transfer.proofs.Fours.{four_of_first}

-- ---- the children of a row's cells in a fine patch

-- their fours
pub four_from : (p : Patch) (c : Cell) (lower upper : List ℕ) (k : ℕ) → ((j : ℕ) → j < length lower → slice_index lower j ≡ mass_in p (cell (c.x +ℤ c.x +ℤ pos j) (c.y +ℤ c.y +ℤ pos 0)))
    → ((j : ℕ) → j < length upper → slice_index upper j ≡ mass_in p (cell (c.x +ℤ c.x +ℤ pos j) (c.y +ℤ c.y +ℤ pos 1))) → 2 * k + 1 < length lower → 2 * k + 1 < length upper → four_at lower upper k ≡ children_in p (cell (c.x +ℤ pos k) c.y)
four_from p c lower upper k l u lt less =
    let x0 : c.x +ℤ c.x +ℤ pos (2 * k) ≡ c.x +ℤ pos k +ℤ (c.x +ℤ pos k) +ℤ pos 0 = omega (arith, ints) in
    let x1 : c.x +ℤ c.x +ℤ pos (2 * k + 1) ≡ c.x +ℤ pos k +ℤ (c.x +ℤ pos k) +ℤ pos 1 = omega (arith, ints) in
    let a = l (2 * k) (omega arith) ∙ ap (λ (z : ℤ). mass_in p (cell z (c.y +ℤ c.y +ℤ pos 0))) x0 in
    let b = l (2 * k + 1) lt ∙ ap (λ (z : ℤ). mass_in p (cell z (c.y +ℤ c.y +ℤ pos 0))) x1 in
    let e = u (2 * k) (omega arith) ∙ ap (λ (z : ℤ). mass_in p (cell z (c.y +ℤ c.y +ℤ pos 1))) x0 in
    let f = u (2 * k + 1) less ∙ ap (λ (z : ℤ). mass_in p (cell z (c.y +ℤ c.y +ℤ pos 1))) x1 in
    λ i. a i + b i + e i + f i

-- those of a cell further on in the row
pub child_ahead : (f : Extent) (c : Cell) (k n : ℕ) → holds f (child c 0) ≡ true → (c.x +ℤ c.x +ℤ pos (2 * n)) ≤ℤ (f.hi.x +ℤ pos 1) → k < n → holds f (child (cell (c.x +ℤ pos k) c.y) 0) ≡ true
child_ahead f c k n first room lt =
    let i = inside f (child c 0) first in
    is_inside f (child (cell (c.x +ℤ pos k) c.y) 0) (record { west = omega (arith, ints, i.west); east = omega (arith, ints, room, lt); south = i.south; north = i.north })

-- that cell itself
pub cell_ahead : (b : Extent) (c e : Cell) (k n : ℕ) → holds b c ≡ true → (c.x +ℤ pos n) ≤ℤ (b.hi.x +ℤ pos 1) → k < n → e ≡ cell (c.x +ℤ pos k) c.y → holds b e ≡ true
cell_ahead b c e k n here room lt is =
    let i = inside b c here in
    ap (holds b) is ∙ is_inside b (cell (c.x +ℤ pos k) c.y) (record { west = omega (arith, ints, i.west); east = omega (arith, ints, room, lt); south = i.south; north = i.north })

-- those of the last cell of a row reach no further than the patch
pub last_children : (p : Patch) (c : Cell) → IsAligned 2 (box p) → holds (box p) (child c 0) ≡ true → (c.x +ℤ c.x +ℤ pos 2) ≤ℤ ((box p).hi.x +ℤ pos 1)
last_children p c aligned first = let i = inside (box p) (child c 1) (four_of_first p c aligned first).second in omega (arith, ints, i.east)

-- ---- patches out of reach

-- those before a place have no cell in rows from `low` on
none_before : (ps : List Patch) (n : ℕ) (low : ℤ) (c : Cell) → ((k : ℕ) (p : Patch) → k < n → (box (slice_index_or ps k p)).hi.y <ℤ low) → n ≤ length ps → low ≤ℤ c.y → in_patches (take n ps) c ≡ false
none_before ps n low c below le from = list_any_none (λ (p : Patch). holds (box p) c) (take n ps) (λ k d lt.
    let less : k < n = omega (arith, lt, length-take-le n ps le) in
    ap (λ (p : Patch). holds (box p) c) (get_or-take n ps k d less)
    ∙ false_from_ne_true (holds (box (slice_index_or ps k d)) c) (λ h. let i = inside (box (slice_index_or ps k d)) c h in omega (arith, ints, i.north, below k d less, from)))

-- a cell is of a patch before a place or of one from it on
in_all : (ps : List Patch) (n : ℕ) (c : Cell) → in_patches ps c ≡ (in_patches (take n ps) c || in_patches (drop n ps) c)
in_all ps n c = ap (λ (qs : List Patch). in_patches qs c) (sym (take-append-drop n ps)) ∙ list_any-append (λ (p : Patch). holds (box p) c) (take n ps) (drop n ps)

-- those from a place on have none in rows up to `high`
none_after : (ps : List Patch) (n : ℕ) (high : ℤ) (c : Cell) → ((k : ℕ) (p : Patch) → n ≤ k → k < length ps → high <ℤ (box (slice_index_or ps k p)).lo.y) → c.y ≤ℤ high → in_patches (take n ps) c ≡ in_patches ps c
none_after ps n high c above to = sym (in_all ps n c ∙ ap (λ (t : Bool). in_patches (take n ps) c || t) none ∙ or-false (in_patches (take n ps) c))
  where
    none : in_patches (drop n ps) c ≡ false
    none = list_any_none (λ (p : Patch). holds (box p) c) (drop n ps) (λ k d lt.
        let there : n + k < length ps = omega (arith, lt, length-drop n ps) in
        ap (λ (p : Patch). holds (box p) c) (get_or-drop n ps k d)
        ∙ false_from_ne_true (holds (box (slice_index_or ps (n + k) d)) c) (λ h. let i = inside (box (slice_index_or ps (n + k) d)) c h in omega (arith, ints, i.south, above (n + k) d (omega arith) there, to)))

-- the rows of children
from_low : (b : Extent) (c : Cell) (k : ℕ) (low : ℤ) → k < 4 → low ≡ b.lo.y +ℤ b.lo.y → holds b c ≡ true → low ≤ℤ (child c k).y
from_low b c k low lt is h = let i = inside b c h in omega (arith, ints, i.south, is)

to_high : (b : Extent) (c : Cell) (k : ℕ) (high : ℤ) → k < 4 → high ≡ b.hi.y +ℤ b.hi.y +ℤ pos 1 → holds b c ≡ true → (child c k).y ≤ℤ high
to_high b c k high lt is h =
    let i = inside b c h in
    let bit : k / 2 ≤ 1 = omega arith in
    omega (arith, ints, i.north, is, bit)

-- no cell of a box has children in patches that end below its children
pub no_child_before : (b : Extent) (ps : List Patch) (n : ℕ) (low : ℤ) (c : Cell) → ((k : ℕ) (p : Patch) → k < n → (box (slice_index_or ps k p)).hi.y <ℤ low) → n ≤ length ps → low ≡ b.lo.y +ℤ b.lo.y → holds b c ≡ true → has_child_where (in_patches (take n ps)) c ≡ false
no_child_before b ps n low c below le is h = λ i. none 0 (omega arith) i || none 1 (omega arith) i || none 2 (omega arith) i || none 3 (omega arith) i
  where
    none : (k : ℕ) → k < 4 → in_patches (take n ps) (child c k) ≡ false
    none k lt = none_before ps n low (child c k) below le (from_low b c k low lt is h)

-- nor in those that start above them
pub child_in_reach : (b : Extent) (ps : List Patch) (n : ℕ) (high : ℤ) (c : Cell) → ((k : ℕ) (p : Patch) → n ≤ k → k < length ps → high <ℤ (box (slice_index_or ps k p)).lo.y) → high ≡ b.hi.y +ℤ b.hi.y +ℤ pos 1 → holds b c ≡ true → has_child_where (in_patches (take n ps)) c ≡ has_child_where (in_patches ps) c
child_in_reach b ps n high c above is h = λ i. same 0 (omega arith) i || same 1 (omega arith) i || same 2 (omega arith) i || same 3 (omega arith) i
  where
    same : (k : ℕ) → k < 4 → in_patches (take n ps) (child c k) ≡ in_patches ps (child c k)
    same k lt = none_after ps n high (child c k) above (to_high b c k high lt is h)
