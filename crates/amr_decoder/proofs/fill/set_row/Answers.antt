use Rattle.std.proofs.Common.{◌≡◌, ◌∙◌, ◌-◌, ℕ, List, pos, ◌+ℤ◌, take, drop, length, length-drop, sym, ap, subst, arith}
use Rattle.std.specs.Prelude.{IsTrue}
use mir.Val.{to_z, of_z}
use mir.Syntax.{w32}
use Rattle.std.proofs.lemmas.Int.{ints}
use Rattle.std.proofs.lemmas.List.{take_all}
use Rattle.amr_decoder.specs.Filled.{IsSpanSet}
use Rattle.amr_box.specs.declared.Cell.{Cell}
use Rattle.amr_box.specs.Cells.{cell}
use Rattle.amr_patch.specs.Patches.{in_patches}
use Rattle.amr_patch.proofs.Standing.{order_of_boxes}
use Rattle.amr_patch.proofs.SameBoxes.{apart_alike, in_same_boxes}
use Rattle.amr_decoder.proofs.Filling.{span_more}
use Rattle.amr_decoder.proofs.fill.set_row.Goals as goal

pub set_span-first-requires-clause-order : goal.set_span-first-requires-clause-order
set_span-first-requires-clause-order c = order_of_boxes c.args.order c.args.patches.now c.loop-first.patches c.loop-first.invariant.set.boxes c.requires.order

pub set_span-first-requires-clause-apart : goal.set_span-first-requires-clause-apart
set_span-first-requires-clause-apart c = apart_alike c.args.patches.now c.loop-first.patches c.loop-first.invariant.set.boxes c.requires.apart

pub set_span-first-requires-clause-inside : goal.set_span-first-requires-clause-inside
set_span-first-requires-clause-inside c =
    let d = c.args.c in
    let n = c.loop-first.first in
    let x : to_z w32 (of_z w32 (to_z w32 (of_z w32 d.x) +ℤ to_z w32 n)) ≡ d.x +ℤ pos n = omega (arith, ints, c.requires.west, c.requires.east, c.loop-first-test.true) in
    let y : to_z w32 (of_z w32 d.y) ≡ d.y = omega (arith, ints, c.requires.south, c.requires.north) in
    let there : IsTrue (in_patches c.loop-first.patches (cell (d.x +ℤ pos n) d.y)) = in_same_boxes c.loop-first.patches c.args.patches.now (cell (d.x +ℤ pos n) d.y) c.loop-first.invariant.set.boxes ∙ c.requires.inside n c.loop-first-test.true in
    let same : cell (d.x +ℤ pos n) d.y ≡ cell (to_z w32 (of_z w32 (to_z w32 (of_z w32 d.x) +ℤ to_z w32 n))) (to_z w32 (of_z w32 d.y)) = λ i. cell (sym x i) (sym y i) in
    subst (λ (e : Cell). IsTrue (in_patches c.loop-first.patches e)) same there

pub loop-first-preserved : goal.loop-first-preserved
loop-first-preserved c =
    let d = c.args.c in
    let n = c.loop-first.first in
    let ms = c.args.masses.now in
    let x : to_z w32 (of_z w32 (to_z w32 (of_z w32 d.x) +ℤ to_z w32 n)) ≡ d.x +ℤ pos n = omega (arith, ints, c.requires.west, c.requires.east, c.loop-first-test.true) in
    let y : to_z w32 (of_z w32 d.y) ≡ d.y = omega (arith, ints, c.requires.south, c.requires.north) in
    let same : cell (to_z w32 (of_z w32 (to_z w32 (of_z w32 d.x) +ℤ to_z w32 n))) (to_z w32 (of_z w32 d.y)) ≡ cell (d.x +ℤ pos n) d.y = λ i. cell (x i) (y i) in
    let whole : take (length ms - n) (drop n ms) ≡ drop n ms = take_all (length ms - n) (drop n ms) (omega (arith, length-drop n ms)) in
    record {
      set = span_more d (cell (to_z w32 (of_z w32 (to_z w32 (of_z w32 d.x) +ℤ to_z w32 n))) (to_z w32 (of_z w32 d.y))) ms n c.set_span-first.result c.args.patches.now c.loop-first.patches c.set_span-first.new.patches same c.loop-first.invariant.set
          (subst (λ (rest : List ℕ). IsSpanSet (cell (to_z w32 (of_z w32 (to_z w32 (of_z w32 d.x) +ℤ to_z w32 n))) (to_z w32 (of_z w32 d.y))) rest c.set_span-first.result c.loop-first.patches c.set_span-first.new.patches) whole c.set_span-first.ensures.set);
      within = omega (arith, length-drop n ms, ap (λ (xs : List ℕ). length xs) whole, c.set_span-first.ensures.within, c.loop-first.invariant.within);
    }
