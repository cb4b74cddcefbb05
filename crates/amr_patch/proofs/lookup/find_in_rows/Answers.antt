use Rattle.std.proofs.Common.{◌≡◌, ◌∙◌, ℕ, ◌+◌, ◌-◌, ℤ, pos, ◌-ℤ◌, sym, ap, to_z, of_z, w32, w64, arith}
use Rattle.std.specs.Prelude.{slice_index_or}
use Rattle.std.proofs.lemmas.Int.{ints}
use Rattle.amr_box.specs.Cells.{Extent, cell, holds}
use Rattle.amr_patch.specs.Patches.{box}
use Rattle.amr_patch.specs.Orders.{comes_first}
use Rattle.amr_patch.proofs.Rows.{inside}
use Rattle.amr_patch.proofs.Lookups.{goes_down, going_down, holder, in_one, none_reaches, none_starts, shrinks}
use Rattle.amr_patch.proofs.lookup.find_in_rows.Goals as goal

pub loop-y-init : goal.loop-y-init
loop-y-init c = record {
  reach = λ k d lt h. let i = inside (box (slice_index_or c.args.patches.now k d)) c.args.c h in omega (arith, ints, i.south, c.from-y.ensures);
  high = omega (arith, ints, c.from-y.ensures);
}

pub returns-then-count-eq0-clause-some : goal.returns-then-count-eq0-clause-some
returns-then-count-eq0-clause-some c =
    let ps = c.args.patches.now in
    let y = to_z w64 c.loop-y.y-bits in
    let x : c.args.c.x ≡ to_z w32 (of_z w32 c.args.c.x) = omega (arith, ints) in
    let zero = c.if-count-eq0.true in
    sym (none_starts ps c.args.c y c.loop-y.invariant.reach (λ i d z lt. ap (λ (x : ℤ). comes_first (box (slice_index_or ps i d)).lo (cell x y)) x ∙ c.count_below-count.ensures.parts.1 i d (omega arith) lt))

pub returns-then-holds-clause-found : goal.returns-then-holds-clause-found
returns-then-holds-clause-found c =
    holder c.args.patches.now c.args.c (c.count_below-count.result - 1) c.index-patches-count.result (omega arith) c.index-patches-count.is (ap (λ (b : Extent). holds b c.args.c) (sym c.bx-b.ensures.value) ∙ sym c.holds.ensures ∙ c.if-holds.true)

pub returns-then-holds-clause-some : goal.returns-then-holds-clause-some
returns-then-holds-clause-some c = sym (in_one c.args.patches.now c.args.c (c.count_below-count.result - 1) (returns-then-holds-clause-found c))

pub loop-y-smaller : goal.loop-y-smaller
loop-y-smaller c =
    shrinks (to_z w64 c.loop-y.y-bits) (to_z w64 (of_z w64 c.min-y.result)) (to_z w64 (of_z w64 (to_z w64 (of_z w64 c.from-y.result) -ℤ to_z w64 (of_z w64 c.from.result)))) (grind (arith, ints, c.loop-y-test.true)) (omega (arith, ints, c.min-y.ensures.other_bound))

pub loop-y-preserved : goal.loop-y-preserved
loop-y-preserved c =
    let ps = c.args.patches.now in
    let y = to_z w64 c.loop-y.y-bits in
    let z = to_z w64 (of_z w64 c.min-y.result) in
    let q = c.index-patches-count.result in
    let n : ℕ = c.count_below-count.result - 1 in
    let some : n + 1 ≡ c.count_below-count.result = omega arith in
    let x : c.args.c.x ≡ to_z w32 (of_z w32 c.args.c.x) = omega (arith, ints) in
    let start : c.from-in-loop-y.result ≡ (box q).lo.y = omega (arith, ints, c.from-in-loop-y.ensures, c.lo.ensures.y, ap (λ (b : Extent). b.lo.y) c.bx-b.ensures.value) in
    let a : to_z w64 (of_z w64 c.from-in-loop-y.result) ≡ (box q).lo.y = omega (arith, ints, start) in
    let b : to_z w64 (of_z w64 (y -ℤ pos 1)) ≡ y -ℤ pos 1 = omega (arith, ints) in
    let least : z ≡ c.min-y.result = omega (arith, ints) in
    record {
      reach = goes_down ps c.args.c y z n q c.requires.sorted c.requires.apart c.loop-y.invariant.reach (omega arith) c.index-patches-count.is
          (λ i d g lt. ap (λ (x : ℤ). comes_first (box (slice_index_or ps i d)).lo (cell x y)) x ∙ c.count_below-count.ensures.parts.0 i d g (omega arith))
          (λ i d g lt. ap (λ (x : ℤ). comes_first (box (slice_index_or ps i d)).lo (cell x y)) x ∙ c.count_below-count.ensures.parts.1 i d (omega arith) lt)
          (ap (λ (e : Extent). holds e c.args.c) (sym c.bx-b.ensures.value) ∙ sym c.holds.ensures ∙ c.if-holds.false)
          (going_down (box q).lo.y y (to_z w64 (of_z w64 c.from-in-loop-y.result)) (to_z w64 (of_z w64 (y -ℤ pos 1))) z (least ∙ c.min-y.ensures.value) a b);
      high = omega (arith, ints, c.min-y.ensures.other_bound, c.loop-y.invariant.high);
    }

pub returns-clause-some : goal.returns-clause-some
returns-clause-some c =
    sym (none_reaches c.args.patches.now c.args.c (to_z w64 c.loop-y.y-bits) c.args.tallest c.loop-y.invariant.reach c.requires.tallest (grind (arith, ints, c.loop-y-test.false, c.from-y.ensures, c.from.ensures)))
