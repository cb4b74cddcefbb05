-- The steep pairs in the two regions of a patch are those that the definition of its tagged cells compares.
use Rattle.std.proofs.Common.{◌≡◌, ℕ, ◌+◌, ◌-◌, ◌<◌, Bool, true, false, ◌&&◌, ◌||◌, ℤ, pos, negsuc, ◌+ℤ◌, ◌-ℤ◌, ◌≤ℤ◌, ◌<ℤ◌, refl, sym, ap, ◌∙◌, arith}
use Rattle.std.specs.Prelude.{nat_le}
use Rattle.std.proofs.lemmas.Int.{ints}
use Rattle.amr_box.specs.declared.Cell.{Cell}
use Rattle.amr_box.specs.declared.Axis.TheVariants.{X, Y}
use Rattle.amr_box.specs.Cells.{Extent, cell, holds, moved, within}
use Rattle.amr_box.proofs.CellEquality.{same_cell}
use Rattle.amr_box.proofs.Numbers.{is_between, less_and_more, minus_one, plus_zero}
use Rattle.amr_def.specs.Domain.{Domain, home_cell, in_domain, is_inside, wrapped}
use Rattle.std.specs.List.{list_any}
use Rattle.amr_def.specs.Tags.{differs_by, neighbours}
use Rattle.amr_ghost.specs.GhostCells.{LiesInDomain}
use Rattle.amr_patch.specs.declared.patches.Patch.{Patch}
use Rattle.amr_patch.specs.Patches.{box, value_in}
use Rattle.amr_patch.proofs.Rows.{IsIn, inside}
use Rattle.amr_criterion.specs.Pairs.{before, in_steep_pair, is_steep, region}
use Rattle.amr_criterion.specs.Tagged.{is_tagged_in, reach_high, reach_low}
use Rattle.amr_criterion.proofs.Compared.{is_home, last_compared, next_compared}

-- the pairs along the rows of a box, and those along its columns
pub record IsAcross (d : Domain) (b : Extent) (from : Cell) (columns rows : ℕ) : Type 0 where
  pub x : from.x ≡ reach_low d.wrap_x b.lo.x
  pub y : from.y ≡ b.lo.y
  pub wide : pos columns ≡ reach_high d.wrap_x d.columns b.hi.x -ℤ reach_low d.wrap_x b.lo.x
  pub high : pos rows ≡ b.hi.y +ℤ pos 1 -ℤ b.lo.y

pub record IsUpward (d : Domain) (b : Extent) (from : Cell) (columns rows : ℕ) : Type 0 where
  pub x : from.x ≡ b.lo.x
  pub y : from.y ≡ reach_low d.wrap_y b.lo.y
  pub wide : pos columns ≡ b.hi.x +ℤ pos 1 -ℤ b.lo.x
  pub high : pos rows ≡ reach_high d.wrap_y d.rows b.hi.y -ℤ reach_low d.wrap_y b.lo.y

-- ---- which neighbours are compared

both_are : (a b c e : Bool) → a ≡ b → c ≡ true → e ≡ true → (a && c) ≡ (b && e)
both_are a b c e f g h = λ i. f i && (g ∙ sym h) i

both_are_left : (a b c e : Bool) → a ≡ b → c ≡ true → e ≡ true → (c && a) ≡ (e && b)
both_are_left a b c e f g h = λ i. (g ∙ sym h) i && f i

some_cells : (z w : ℤ) (n : ℕ) → pos 0 ≤ℤ z → z <ℤ pos n → 0 < n
some_cells z w n l h = omega (arith, ints)

next_across : (d : Domain) (b : Extent) (from : Cell) (columns rows : ℕ) (c : Cell) → LiesInDomain d b → IsAcross d b from columns rows → IsIn b c → holds (region from columns rows) c ≡ in_domain d (home_cell d (moved c (cell (pos 1) (pos 0))))
unfolding in_domain
next_across d b from columns rows c lies is here =
    both_are _ _ _ _
    (ap (λ (z : ℤ). within z (z +ℤ pos columns -ℤ pos 1) c.x) is.x ∙ next_compared d.wrap_x d.columns columns b.lo.x b.hi.x c.x (some_cells b.hi.x b.hi.x d.columns (omega (arith, ints, lies.west, lies.wide)) lies.east) lies.west lies.east here.west here.east is.wide)
    (is_between from.y (from.y +ℤ pos rows -ℤ pos 1) c.y (omega (arith, ints, is.y, here.south)) (omega (arith, ints, is.y, is.high, here.north)))
    (is_home d.wrap_y d.rows c.y (c.y +ℤ pos 0) (omega (arith, ints)) (omega (arith, ints, lies.south, here.south)) (omega (arith, ints, lies.north, here.north)))

last_across : (d : Domain) (b : Extent) (from : Cell) (columns rows : ℕ) (c : Cell) → LiesInDomain d b → IsAcross d b from columns rows → IsIn b c → holds (region from columns rows) (before X c) ≡ in_domain d (home_cell d (moved c (cell (negsuc 0) (pos 0))))
unfolding in_domain
last_across d b from columns rows c lies is here =
    let back : c.x -ℤ pos 1 ≡ c.x +ℤ negsuc 0 = omega (arith, ints) in
    both_are _ _ _ _
    (ap (λ (z : ℤ). within z (z +ℤ pos columns -ℤ pos 1) (c.x -ℤ pos 1)) is.x
    ∙ last_compared d.wrap_x d.columns columns b.lo.x b.hi.x c.x (some_cells b.hi.x b.hi.x d.columns (omega (arith, ints, lies.west, lies.wide)) lies.east) lies.west lies.east here.west here.east is.wide
    ∙ ap (λ (z : ℤ). is_inside d.columns (wrapped d.wrap_x d.columns z)) back)
    (is_between from.y (from.y +ℤ pos rows -ℤ pos 1) c.y (omega (arith, ints, is.y, here.south)) (omega (arith, ints, is.y, is.high, here.north)))
    (is_home d.wrap_y d.rows c.y (c.y +ℤ pos 0) (omega (arith, ints)) (omega (arith, ints, lies.south, here.south)) (omega (arith, ints, lies.north, here.north)))

next_upward : (d : Domain) (b : Extent) (from : Cell) (columns rows : ℕ) (c : Cell) → LiesInDomain d b → IsUpward d b from columns rows → IsIn b c → holds (region from columns rows) c ≡ in_domain d (home_cell d (moved c (cell (pos 0) (pos 1))))
unfolding in_domain
next_upward d b from columns rows c lies is here =
    both_are_left _ _ _ _
    (ap (λ (z : ℤ). within z (z +ℤ pos rows -ℤ pos 1) c.y) is.y ∙ next_compared d.wrap_y d.rows rows b.lo.y b.hi.y c.y (some_cells b.hi.y b.hi.y d.rows (omega (arith, ints, lies.south, lies.high)) lies.north) lies.south lies.north here.south here.north is.high)
    (is_between from.x (from.x +ℤ pos columns -ℤ pos 1) c.x (omega (arith, ints, is.x, here.west)) (omega (arith, ints, is.x, is.wide, here.east)))
    (is_home d.wrap_x d.columns c.x (c.x +ℤ pos 0) (omega (arith, ints)) (omega (arith, ints, lies.west, here.west)) (omega (arith, ints, lies.east, here.east)))

last_upward : (d : Domain) (b : Extent) (from : Cell) (columns rows : ℕ) (c : Cell) → LiesInDomain d b → IsUpward d b from columns rows → IsIn b c → holds (region from columns rows) (before Y c) ≡ in_domain d (home_cell d (moved c (cell (pos 0) (negsuc 0))))
unfolding in_domain
last_upward d b from columns rows c lies is here =
    let back : c.y -ℤ pos 1 ≡ c.y +ℤ negsuc 0 = omega (arith, ints) in
    both_are_left _ _ _ _
    (ap (λ (z : ℤ). within z (z +ℤ pos rows -ℤ pos 1) (c.y -ℤ pos 1)) is.y
    ∙ last_compared d.wrap_y d.rows rows b.lo.y b.hi.y c.y (some_cells b.hi.y b.hi.y d.rows (omega (arith, ints, lies.south, lies.high)) lies.north) lies.south lies.north here.south here.north is.high
    ∙ ap (λ (z : ℤ). is_inside d.rows (wrapped d.wrap_y d.rows z)) back)
    (is_between from.x (from.x +ℤ pos columns -ℤ pos 1) c.x (omega (arith, ints, is.x, here.west)) (omega (arith, ints, is.x, is.wide, here.east)))
    (is_home d.wrap_x d.columns c.x (c.x +ℤ pos 0) (omega (arith, ints)) (omega (arith, ints, lies.west, here.west)) (omega (arith, ints, lies.east, here.east)))

-- ---- what is compared

either_way : (t a b : ℕ) → differs_by t a b ≡ differs_by t b a
either_way t a b = let e : (a - b) + (b - a) ≡ (b - a) + (a - b) = omega arith in ap (nat_le t) e

east_of : (t : ℕ) (v : Cell → ℕ) (c : Cell) → is_steep t v X c ≡ differs_by t (v c) (v (moved c (cell (pos 1) (pos 0))))
east_of t v c = ap (λ q. differs_by t (v c) (v q)) (same_cell refl (plus_zero c.y))

west_of : (t : ℕ) (v : Cell → ℕ) (c : Cell) → is_steep t v X (before X c) ≡ differs_by t (v c) (v (moved c (cell (negsuc 0) (pos 0))))
west_of t v c =
    ap (λ q. differs_by t (v (before X c)) (v q)) (same_cell (less_and_more c.x) refl)
    ∙ either_way t (v (before X c)) (v c)
    ∙ ap (λ q. differs_by t (v c) (v q)) (same_cell (minus_one c.x) (plus_zero c.y))

north_of : (t : ℕ) (v : Cell → ℕ) (c : Cell) → is_steep t v Y c ≡ differs_by t (v c) (v (moved c (cell (pos 0) (pos 1))))
north_of t v c = ap (λ q. differs_by t (v c) (v q)) (same_cell (plus_zero c.x) refl)

south_of : (t : ℕ) (v : Cell → ℕ) (c : Cell) → is_steep t v Y (before Y c) ≡ differs_by t (v c) (v (moved c (cell (pos 0) (negsuc 0))))
south_of t v c =
    ap (λ q. differs_by t (v (before Y c)) (v q)) (same_cell refl (less_and_more c.y))
    ∙ either_way t (v (before Y c)) (v c)
    ∙ ap (λ q. differs_by t (v c) (v q)) (same_cell (plus_zero c.x) (minus_one c.y))

in_order : (east west north south : Bool) → ((east || west) || (north || south)) ≡ (west || (east || (south || (north || false))))
in_order true true n s = refl
in_order true false n s = refl
in_order false true n s = refl
in_order false false true true = refl
in_order false false true false = refl
in_order false false false true = refl
in_order false false false false = refl

-- the tests of a cell's neighbours, in the order of the definition
abbrev compares_at : ℕ → Domain → Patch → Cell → Cell → Bool
compares_at t d q c o = in_domain d (home_cell d (moved c o)) && differs_by t (value_in q c) (value_in q (moved c o))

abbrev compares : ℕ → Domain → Patch → Cell → Bool
compares t d q c = list_any (compares_at t d q c) neighbours

abbrev pub pairs_of : ℕ → Patch → Extent → Extent → Cell → Bool
pairs_of t q across upward c = in_steep_pair t (value_in q) X across c || in_steep_pair t (value_in q) Y upward c

compared : (t : ℕ) (d : Domain) (q : Patch) (from up : Cell) (columns rows wide high : ℕ) → LiesInDomain d (box q) → IsAcross d (box q) from columns rows → IsUpward d (box q) up wide high → (c : Cell) → IsIn (box q) c → pairs_of t q (region from columns rows) (region up wide high) c ≡ compares t d q c
unfolding in_steep_pair
compared t d q from up columns rows wide high lies across upward c here =
    let east = next_across d (box q) from columns rows c lies across here in
    let west = last_across d (box q) from columns rows c lies across here in
    let north = next_upward d (box q) up wide high c lies upward here in
    let south = last_upward d (box q) up wide high c lies upward here in
    (λ i. ((east i && east_of t (value_in q) c i) || (west i && west_of t (value_in q) c i)) || ((north i && north_of t (value_in q) c i) || (south i && south_of t (value_in q) c i)))
    ∙ in_order (compares_at t d q c (cell (pos 1) (pos 0))) (compares_at t d q c (cell (negsuc 0) (pos 0))) (compares_at t d q c (cell (pos 0) (pos 1))) (compares_at t d q c (cell (pos 0) (negsuc 0)))

-- the cells of the box in a steep pair are the tagged ones
pub tagged_in_is : (t : ℕ) (d : Domain) (q : Patch) (from up : Cell) (columns rows wide high : ℕ) → LiesInDomain d (box q) → IsAcross d (box q) from columns rows → IsUpward d (box q) up wide high → (c : Cell) → is_tagged_in t d q c ≡ (holds (box q) c && pairs_of t q (region from columns rows) (region up wide high) c)
unfolding is_tagged_in
tagged_in_is t d q from up columns rows wide high lies across upward c = by_box (holds (box q) c) refl
  where
    by_box : (h : Bool) → holds (box q) c ≡ h → (h && compares t d q c) ≡ (h && pairs_of t q (region from columns rows) (region up wide high) c)
    by_box true e = sym (compared t d q from up columns rows wide high lies across upward c (inside (box q) c e))
    by_box false e = refl
