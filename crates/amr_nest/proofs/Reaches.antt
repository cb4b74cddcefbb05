-- The cells of a domain at most one away from a box are those that it reaches at one of its nine turns.
use Rattle.std.proofs.Common.{◌≡◌, ℕ, zero, suc, ◌+◌, ◌*◌, ◌/◌, ◌%◌, ◌<◌, Bool, true, false, ◌&&◌, ◌||◌, ℤ, pos, ◌-ℤ◌, ◌≤ℤ◌, ◌<ℤ◌, refl, sym, ap, subst, ◌∙◌, arith}
use Rattle.std.specs.Prelude.{◌==◌, IfNone, IfSome, IsNone, IsSome}
use Rattle.std.specs.declared.option.Option.{Option}
use Rattle.std.specs.declared.option.Option.TheVariants.{None, Some}
use Rattle.std.specs.List.{list_any}
use Rattle.std.proofs.lemmas.Int.{ints, clamps}
use Rattle.std.proofs.lemmas.Bool.Decides.{nat_tests, same_from_decides}
use Rattle.std.proofs.lemmas.Bool.{and_from, and_parts, eqb-true, or_left, or_right}
use Rattle.std.proofs.Math.Bool.{or-false}
use Rattle.amr_box.specs.declared.Cell.{Cell}
use Rattle.amr_box.specs.Cells.{Extent, HasCorners, IsBoxOf, IsNear, IsProper, cell, cells_of, common, extent, half, has_child_where, holds, moved, parent, parents_of}
use Rattle.amr_box.proofs.CellLists.{IsFound, any_in_box, found_in_box}
use Rattle.amr_box.proofs.Halves.{coarsened}
use Rattle.amr_box.proofs.Tests.{or_last}
use Rattle.amr_box.proofs.Numbers.{half_le as halves}
use Rattle.amr_def.proofs.Nesting.{odd_small}
use Rattle.amr_def.proofs.Nests.{half_and_odd}
use Rattle.amr_def.specs.Domain.{Domain, domain_box, home_cell, in_domain, is_near}
use Rattle.amr_def.proofs.Uncovered.{domain_box_cells}
use Rattle.amr_tags.specs.Stored.{IsIn}
use Rattle.amr_tags.proofs.Places.{in_holds, is_in}
use Rattle.amr_nest.specs.Reach.{IsInDomainBox, is_reached, is_reached_at, is_turn, moved_reach}
use Rattle.amr_nest.proofs.Turns.{SomeStep, SomeTurn, step_of, turn_of}

-- ---- the parents of a box's cells

pub parents_hold : (a : Extent) → IsProper a → IsBoxOf (parents_of a) (has_child_where (holds a))
parents_hold a p = coarsened a (parents_of a) p (record { west_is = refl; south_is = refl; east_is = refl; north_is = refl })

pub parents_proper : (a : Extent) → IsProper a → IsProper (parents_of a)
parents_proper a p = record { wide = halves a.lo.x a.hi.x p.wide; high = halves a.lo.y a.hi.y p.high }

pub parents_inside : (d : Domain) (a : Extent) → IsProper a → ((c : Cell) → holds a c ≡ true → in_domain d (parent c) ≡ true) → IsInDomainBox d (parents_of a)
parents_inside d a p inside =
    let low = is_in (domain_box d) (parent a.lo) (domain_box_cells d (parent a.lo) ∙ inside a.lo (in_holds a a.lo (omega (arith, ints)) (omega (arith, ints, p.wide)) (omega (arith, ints)) (omega (arith, ints, p.high)))) in
    let high = is_in (domain_box d) (parent a.hi) (domain_box_cells d (parent a.hi) ∙ inside a.hi (in_holds a a.hi (omega (arith, ints, p.wide)) (omega (arith, ints)) (omega (arith, ints, p.high)) (omega (arith, ints)))) in
    record { west = low.west; south = low.south; east = under (half a.hi.x) d.columns high.east; north = under (half a.hi.y) d.rows high.north }
  where
    under : (z : ℤ) (n : ℕ) → z ≤ℤ (pos n -ℤ pos 1) → z <ℤ pos n
    under z n h = omega (arith, ints)

-- ---- turns

pub record IsReachedSome (d : Domain) (b : Extent) (n : ℕ) (c : Cell) : Type 0 where
  pub turn : ℕ
  pub below : turn < n
  pub at : is_reached_at d b turn c ≡ true

pub reached_found : (d : Domain) (b : Extent) (n : ℕ) (c : Cell) → is_reached d b n c ≡ true → IsReachedSome d b n c
reached_found d b zero c h = absurd (cc)
reached_found d b (suc n) c h = choose (is_reached d b n c) refl (reached_found d b n c)
  where
    choose : (v : Bool) → is_reached d b n c ≡ v → (is_reached d b n c ≡ true → IsReachedSome d b n c) → IsReachedSome d b (suc n) c
    choose true e more = let k = more e in record { turn = k.turn; below = omega (arith, k.below); at = k.at }
    choose false e more = record { turn = n; below = omega arith; at = or_last (is_reached d b n c) (is_reached_at d b n c) h e }

pub reached_from : (d : Domain) (b : Extent) (n k : ℕ) (c : Cell) → k < n → is_reached_at d b k c ≡ true → is_reached d b n c ≡ true
reached_from d b zero k c below h = absurd (omega arith)
reached_from d b (suc n) k c below h = choose (k == n) refl (reached_from d b n k c)
  where
    less : (k n : ℕ) → k < suc n → (k == n) ≡ false → k < n
    less k n g e = grind (arith, nat_tests)

    choose : (v : Bool) → (k == n) ≡ v → (k < n → is_reached_at d b k c ≡ true → is_reached d b n c ≡ true) → is_reached d b (suc n) c ≡ true
    choose true e more = or_right (is_reached d b n c) (is_reached_at d b n c) (subst (λ (m : ℕ). is_reached_at d b m c ≡ true) (eqb-true k n e) h)
    choose false e more = or_left (is_reached d b n c) (is_reached_at d b n c) (more (less k n below e) h)

-- ---- a box of the domain and a cell of it

abbrev square_box : Extent
square_box = extent (cell (pos 0 -ℤ pos 1) (pos 0 -ℤ pos 1)) (cell (pos 1) (pos 1))

-- the test of a turn, by the turns of both axes
abbrev reached_by : Domain → Extent → Cell → ℕ → ℕ → Bool
reached_by d b c i j = (is_turn d.wrap_x i && is_turn d.wrap_y j) && (holds (domain_box d) c && holds (moved_reach d i j b) c)

of_turns : (i j : ℕ) → i < 3 → j < 3 → (i + 3 * j < 9) × ((i + 3 * j) % 3 ≡ i) × ((i + 3 * j) / 3 ≡ j)
of_turns i j h g = (omega arith, omega arith, omega arith)

module _ (d : Domain) (b : Extent) (in_dom : IsInDomainBox d b) (proper : IsProper b) (c : Cell) (here : holds (domain_box d) c ≡ true) where
  at : IsIn (domain_box d) c
  at = is_in (domain_box d) c here

  east_end : c.x <ℤ pos d.columns
  east_end = omega (arith, ints, at.east)

  north_end : c.y <ℤ pos d.rows
  north_end = omega (arith, ints, at.north)

  from_step : IsFound (λ o. holds b (home_cell d (moved c o))) square_box → is_reached d b 9 c ≡ true
  from_step f =
      let way = is_in square_box f.at f.inside in
      let end = is_in b (home_cell d (moved c f.at)) f.passes in
      let x : SomeTurn d.wrap_x d.columns b.lo.x b.hi.x c.x = turn_of d.columns b.lo.x b.hi.x c.x in_dom.west in_dom.east at.west east_end d.wrap_x f.at.x (record { short_low = way.west; short_high = way.east; low = end.west; high = end.east }) in
      let y : SomeTurn d.wrap_y d.rows b.lo.y b.hi.y c.y = turn_of d.rows b.lo.y b.hi.y c.y in_dom.south in_dom.north at.south north_end d.wrap_y f.at.y (record { short_low = way.south; short_high = way.north; low = end.south; high = end.north }) in
      let k = of_turns x.turn y.turn x.is.few y.is.few in
      let moved_here : holds (moved_reach d x.turn y.turn b) c ≡ true = in_holds (moved_reach d x.turn y.turn b) c x.is.low x.is.high y.is.low y.is.high in
      let turned : reached_by d b c x.turn y.turn ≡ true = and_from (is_turn d.wrap_x x.turn && is_turn d.wrap_y y.turn) (holds (domain_box d) c && holds (moved_reach d x.turn y.turn b) c) (and_from (is_turn d.wrap_x x.turn) (is_turn d.wrap_y y.turn) x.is.turn y.is.turn) (and_from (holds (domain_box d) c) (holds (moved_reach d x.turn y.turn b) c) here moved_here) in
      let column : (x.turn + 3 * y.turn) % 3 ≡ x.turn = k.1 in
      let row : (x.turn + 3 * y.turn) / 3 ≡ y.turn = k.2 in
      reached_from d b 9 (x.turn + 3 * y.turn) c k.0 ((λ i. reached_by d b c (column i) (row i)) ∙ turned)

  from_turn : IsReachedSome d b 9 c → list_any (λ o. holds b (home_cell d (moved c o))) (cells_of square_box) ≡ true
  from_turn r =
      let parts = and_parts (is_turn d.wrap_x (r.turn % 3) && is_turn d.wrap_y (r.turn / 3)) (holds (domain_box d) c && holds (moved_reach d (r.turn % 3) (r.turn / 3) b) c) r.at in
      let turns = and_parts (is_turn d.wrap_x (r.turn % 3)) (is_turn d.wrap_y (r.turn / 3)) parts.0 in
      let both = and_parts (holds (domain_box d) c) (holds (moved_reach d (r.turn % 3) (r.turn / 3) b) c) parts.1 in
      let there = is_in (moved_reach d (r.turn % 3) (r.turn / 3) b) c both.1 in
      let few_x : r.turn % 3 < 3 = omega arith in
      let few_y : r.turn / 3 < 3 = omega (arith, r.below) in
      let x : SomeStep d.wrap_x d.columns b.lo.x b.hi.x c.x = step_of d.columns b.lo.x b.hi.x c.x in_dom.west in_dom.east at.west east_end d.wrap_x (r.turn % 3) proper.wide (record { turn = turns.0; few = few_x; low = there.west; high = there.east }) in
      let y : SomeStep d.wrap_y d.rows b.lo.y b.hi.y c.y = step_of d.rows b.lo.y b.hi.y c.y in_dom.south in_dom.north at.south north_end d.wrap_y (r.turn / 3) proper.high (record { turn = turns.1; few = few_y; low = there.south; high = there.north }) in
      any_in_box (λ o. holds b (home_cell d (moved c o))) square_box (cell x.step y.step)
      (in_holds square_box (cell x.step y.step) x.is.short_low x.is.short_high y.is.short_low y.is.short_high)
      (in_holds b (home_cell d (moved c (cell x.step y.step))) x.is.low x.is.high y.is.low y.is.high)

  pub near_is_reached : is_near d 1 (holds b) c ≡ is_reached d b 9 c
  near_is_reached =
      same_from_decides {P = is_reached d b 9 c ≡ true} (is_near d 1 (holds b) c) (is_reached d b 9 c)
      ((λ h. from_step (found_in_box (λ o. holds b (home_cell d (moved c o))) square_box h)), (λ h. from_turn (reached_found d b 9 c h)))
      ((λ h. h), (λ h. h))

-- one box, by its corners
pub one_inside : (d : Domain) (b : Extent) (q : Cell) → pos 0 ≤ℤ b.lo.x → pos 0 ≤ℤ b.lo.y → b.hi.x <ℤ pos (2 * d.columns) → b.hi.y <ℤ pos (2 * d.rows) → (holds b q || false) ≡ true → in_domain d (parent q) ≡ true
one_inside d b q west south east north h =
    let i = is_in b q (sym (or-false (holds b q)) ∙ h) in
    sym (domain_box_cells d (parent q))
    ∙ in_holds (domain_box d) (parent q) (from_zero q.x (omega (arith, ints, i.west, west))) (to_end d.columns q.x (omega (arith, ints, i.east, east))) (from_zero q.y (omega (arith, ints, i.south, south))) (to_end d.rows q.y (omega (arith, ints, i.north, north)))
  where
    from_zero : (z : ℤ) → pos 0 ≤ℤ z → pos 0 ≤ℤ half z
    from_zero z h = omega (arith, ints, half_and_odd z, odd_small z)

    to_end : (n : ℕ) (z : ℤ) → z <ℤ pos (2 * n) → half z ≤ℤ (pos n -ℤ pos 1)
    to_end n z h = omega (arith, ints, half_and_odd z, odd_small z)

-- ---- what two boxes have in common, where there is anything

pub if_some_then : (o : Option Extent) (P Q : Extent → Type 0) → ((x : Extent) → P x → Q x) → IfSome o P → IfSome o Q
if_some_then None P Q f h = h
if_some_then (Some x) P Q f h = f x h

pub if_none_from : (o : Option Extent) (Q : Type 0) → (IsNone o → Q) → IfNone o Q
if_none_from None Q f = f refl
if_none_from (Some x) Q f = tt

near_common : (a m b : Extent) → IsNear a → IsProper (common a m) → b ≡ common a m → IsNear b
near_common a m b n p e =
    let w = ap (λ (t : Extent). t.lo.x) e in
    let s = ap (λ (t : Extent). t.lo.y) e in
    let x = ap (λ (t : Extent). t.hi.x) e in
    let y = ap (λ (t : Extent). t.hi.y) e in
    record {
      west = omega (arith, ints, clamps, w, n.west);
      east = omega (arith, ints, clamps, x, n.east);
      south = omega (arith, ints, clamps, s, n.south);
      north = omega (arith, ints, clamps, y, n.north);
      wide = omega (arith, ints, clamps, w, x, p.wide);
      high = omega (arith, ints, clamps, s, y, p.high);
    }

pub near_some : (o : Option Extent) (a m : Extent) → IsNear a → (IsSome o → IsProper (common a m)) → IfSome o (λ b. b ≡ common a m) → IfSome o IsNear
near_some None a m n p h = tt
near_some (Some x) a m n p h = near_common a m x n (p refl) h

pub corners_are : (b : Extent) (w s e n : ℤ) → HasCorners b w s e n → b ≡ extent (cell w s) (cell e n)
corners_are b w s e n h = λ i. extent (cell (h.west_is i) (h.south_is i)) (cell (h.east_is i) (h.north_is i))
