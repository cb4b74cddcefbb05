-- The cells beside a box by their slots, side by side.
use Rattle.std.proofs.Common.{◌≡◌, ◌∙◌, ℕ, ◌+◌, ◌-◌, ◌*◌, ◌<◌, ◌≤◌, true, false, IsTrue, ℤ, pos, ◌+ℤ◌, ◌-ℤ◌, ◌≤ℤ◌, ◌<ℤ◌, refl, sym, ap, subst, arith}
use Rattle.std.specs.Prelude.{int_lt, ◌⊎◌}
use Rattle.std.proofs.Common.{inl, inr}
use Rattle.std.proofs.lemmas.Int.{ints}
use Rattle.std.proofs.lemmas.Bool.{cases_lt, le-ltb, lt-ltb}
use Rattle.amr_box.specs.declared.Cell.{Cell}
use Rattle.amr_box.specs.Cells.{Extent, IsProper, at_least_zero, height, width}
use Rattle.amr_box.proofs.CellLists.{in_range}
use Rattle.amr_ghost.specs.Frames.{is_beside}
use Rattle.amr_ghost.proofs.BoxSides.{above_out, below_out, by_sides, east_beside, north_beside, south_beside, west_beside}
use Rattle.amr_letters.specs.Beside.{beside_cell, beside_count, east_of, north_of, slot_of, south_of, west_of}

-- ---- the cell at a slot

pub at_west : (b : Extent) (n : ℕ) → n < height b → west_of b n ≡ beside_cell b n
unfolding beside_cell
at_west b n lt = rw (lt-ltb n (height b) lt) refl

pub at_east : (b : Extent) (n : ℕ) → height b ≤ n → n < 2 * height b → east_of b (n - height b) ≡ beside_cell b n
unfolding beside_cell
at_east b n le lt = rw (le-ltb n (height b) le, lt-ltb n (2 * height b) lt) refl

pub at_south : (b : Extent) (n : ℕ) → 2 * height b ≤ n → n < 2 * height b + width b → south_of b (n - 2 * height b) ≡ beside_cell b n
unfolding beside_cell
at_south b n le lt =
    let past : height b ≤ n = omega (arith, le) in
    rw (le-ltb n (height b) past, le-ltb n (2 * height b) le, lt-ltb n (2 * height b + width b) lt) refl

pub at_north : (b : Extent) (n : ℕ) → 2 * height b + width b ≤ n → north_of b (n - (2 * height b + width b)) ≡ beside_cell b n
unfolding beside_cell
at_north b n le =
    let past : height b ≤ n = omega (arith, le) in
    let next : 2 * height b ≤ n = omega (arith, le) in
    rw (le-ltb n (height b) past, le-ltb n (2 * height b) next, le-ltb n (2 * height b + width b) le) refl

-- ---- the slot of a cell

over : (z : ℤ) (k : ℕ) → at_least_zero (z +ℤ pos k -ℤ z) ≡ k
over z k = ap at_least_zero (let r : z +ℤ pos k -ℤ z ≡ pos k = omega (arith, ints) in r)

before : (z : ℤ) → (z -ℤ pos 1) <ℤ z
before z = omega (arith, ints)

after : (z : ℤ) → z <ℤ (z +ℤ pos 1)
after z = omega (arith, ints)

below : (a b : ℤ) → a <ℤ b → int_lt a b ≡ true
below a b h = grind (arith, ints)

not_below : (a b : ℤ) → b ≤ℤ a → int_lt a b ≡ false
not_below a b h = grind (arith, ints)

above_low : (low high : ℤ) → low ≤ℤ high → low ≤ℤ (high +ℤ pos 1)
above_low low high h = omega (arith, ints)

pub west_slot : (b : Extent) (k : ℕ) → k < height b → slot_of b (west_of b k) ≡ k
unfolding slot_of
west_slot b k lt = rw (in_range b.lo.y b.hi.y k lt, below (b.lo.x -ℤ pos 1) b.lo.x (before b.lo.x)) (over b.lo.y k)

pub east_slot : (b : Extent) (k : ℕ) → IsProper b → k < height b → slot_of b (east_of b k) ≡ height b + k
unfolding slot_of
east_slot b k proper lt =
    rw (in_range b.lo.y b.hi.y k lt, not_below (b.hi.x +ℤ pos 1) b.lo.x (above_low b.lo.x b.hi.x proper.wide)) (ap (λ n. height b + n) (over b.lo.y k))

pub south_slot : (b : Extent) (k : ℕ) → k < width b → slot_of b (south_of b k) ≡ 2 * height b + k
unfolding slot_of
south_slot b k lt =
    rw (below_out b.lo.y b.hi.y (b.lo.y -ℤ pos 1) (before b.lo.y), below (b.lo.y -ℤ pos 1) b.lo.y (before b.lo.y)) (ap (λ n. 2 * height b + n) (over b.lo.x k))

pub north_slot : (b : Extent) (k : ℕ) → IsProper b → k < width b → slot_of b (north_of b k) ≡ 2 * height b + width b + k
unfolding slot_of
north_slot b k proper lt =
    rw (above_out b.lo.y b.hi.y (b.hi.y +ℤ pos 1) (after b.hi.y), not_below (b.hi.y +ℤ pos 1) b.lo.y (above_low b.lo.y b.hi.y proper.high))
    (ap (λ n. 2 * height b + width b + n) (over b.lo.x k))

-- ---- all of them

-- what holds of the cells along each side holds of all
by_slots : (P : ℕ → Cell → Type 0) (b : Extent) → ((k : ℕ) → k < height b → P k (west_of b k)) → ((k : ℕ) → k < height b → P (height b + k) (east_of b k)) → ((k : ℕ) → k < width b → P (2 * height b + k) (south_of b k)) → ((k : ℕ) → k < width b → P (2 * height b + width b + k) (north_of b k)) → (n : ℕ) → n < beside_count b → P n (beside_cell b n)
by_slots P b west east south north n there = by_first (cases_lt n (height b))
  where
    moved : (m : ℕ) (c : Cell) → m ≡ n → c ≡ beside_cell b n → P m c → P n (beside_cell b n)
    moved m c e f h = subst (λ (x : Cell). P n x) f (subst (λ (i : ℕ). P i c) e h)

    by_third : 2 * height b ≤ n → (n < 2 * height b + width b) ⊎ (2 * height b + width b ≤ n) → P n (beside_cell b n)
    by_third past (inl lt) = moved (2 * height b + (n - 2 * height b)) (south_of b (n - 2 * height b)) (omega (arith, past)) (at_south b n past lt) (south (n - 2 * height b) (omega (arith, past, lt)))
    by_third past (inr le) =
        moved (2 * height b + width b + (n - (2 * height b + width b))) (north_of b (n - (2 * height b + width b))) (omega (arith, le)) (at_north b n le) (north (n - (2 * height b + width b)) (omega (arith, le, there)))

    by_second : height b ≤ n → (n < 2 * height b) ⊎ (2 * height b ≤ n) → P n (beside_cell b n)
    by_second past (inl lt) = moved (height b + (n - height b)) (east_of b (n - height b)) (omega (arith, past)) (at_east b n past lt) (east (n - height b) (omega (arith, past, lt)))
    by_second past (inr le) = by_third le (cases_lt n (2 * height b + width b))

    by_first : (n < height b) ⊎ (height b ≤ n) → P n (beside_cell b n)
    by_first (inl lt) = moved n (west_of b n) refl (at_west b n lt) (west n lt)
    by_first (inr le) = by_second le (cases_lt n (2 * height b))

pub all_beside : (b : Extent) (n : ℕ) → IsProper b → n < beside_count b → IsTrue (is_beside b (beside_cell b n))
all_beside b n proper there =
    by_slots (λ m c. IsTrue (is_beside b c)) b (λ k lt. west_beside b k proper.wide proper.high lt) (λ k lt. east_beside b k proper.wide proper.high lt)
    (λ k lt. south_beside b k proper.wide proper.high lt) (λ k lt. north_beside b k proper.wide proper.high lt) n there

pub slots_one : (b : Extent) (n : ℕ) → IsProper b → n < beside_count b → slot_of b (beside_cell b n) ≡ n
slots_one b n proper there =
    by_slots (λ m c. slot_of b c ≡ m) b (λ k lt. west_slot b k lt) (λ k lt. east_slot b k proper lt) (λ k lt. south_slot b k lt) (λ k lt. north_slot b k proper lt) n there

-- the same cell at another number
moved_to : (b : Extent) (c : Cell) (m n : ℕ) → c ≡ beside_cell b m → n ≡ m → beside_cell b n ≡ c
moved_to b c m n e f = ap (beside_cell b) f ∙ sym e

pub slots_held : (b : Extent) (c : Cell) → IsProper b → IsTrue (is_beside b c) → beside_cell b (slot_of b c) ≡ c
slots_held b c proper h = by_sides (λ d. beside_cell b (slot_of b d) ≡ d) b west east south north c h
  where
    west : (k : ℕ) → k < height b → beside_cell b (slot_of b (west_of b k)) ≡ west_of b k
    west k lt = moved_to b (west_of b k) k (slot_of b (west_of b k)) (at_west b k lt) (west_slot b k lt)

    east : (k : ℕ) → k < height b → beside_cell b (slot_of b (east_of b k)) ≡ east_of b k
    east k lt =
        let e : height b + k - height b ≡ k = omega arith in
        moved_to b (east_of b k) (height b + k) (slot_of b (east_of b k)) (ap (east_of b) (sym e) ∙ at_east b (height b + k) (omega arith) (omega (arith, lt))) (east_slot b k proper lt)

    south : (k : ℕ) → k < width b → beside_cell b (slot_of b (south_of b k)) ≡ south_of b k
    south k lt =
        let e : 2 * height b + k - 2 * height b ≡ k = omega arith in
        moved_to b (south_of b k) (2 * height b + k) (slot_of b (south_of b k)) (ap (south_of b) (sym e) ∙ at_south b (2 * height b + k) (omega arith) (omega (arith, lt))) (south_slot b k lt)

    north : (k : ℕ) → k < width b → beside_cell b (slot_of b (north_of b k)) ≡ north_of b k
    north k lt =
        let e : 2 * height b + width b + k - (2 * height b + width b) ≡ k = omega arith in
        moved_to b (north_of b k) (2 * height b + width b + k) (slot_of b (north_of b k)) (ap (north_of b) (sym e) ∙ at_north b (2 * height b + width b + k) (omega arith)) (north_slot b k proper lt)

pub slots_within : (b : Extent) (c : Cell) → IsProper b → IsTrue (is_beside b c) → slot_of b c < beside_count b
slots_within b c proper h =
    by_sides (λ d. slot_of b d < beside_count b) b (λ k lt. less (west_slot b k lt) (omega (arith, lt))) (λ k lt. less (east_slot b k proper lt) (omega (arith, lt)))
    (λ k lt. less (south_slot b k lt) (omega (arith, lt))) (λ k lt. less (north_slot b k proper lt) (omega (arith, lt))) c h
  where
    less : {n m : ℕ} → n ≡ m → m < beside_count b → n < beside_count b
    less e lt = subst (λ (i : ℕ). i < beside_count b) (sym e) lt
