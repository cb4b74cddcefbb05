use Rattle.std.proofs.Common.{arith, of_z, subst, sym, to_z, w32, ℤ, List}
use Rattle.std.proofs.lemmas.Int.{ints}
use Rattle.amr_box.specs.Cells.{cell, extent}
use Rattle.amr_patch.specs.Gaps.{Ascends}
use Rattle.amr_patch.proofs.GapLaws.{gap_is, gap_of, same_none}
use Rattle.amr_patch.proofs.gaps.gap_from.Goals as goal

pub last_before-x-requires : goal.last_before-x-requires
last_before-x-requires c = subst (λ (zs : List ℤ). Ascends zs) (sym c.deref.ensures.value) c.requires.columns

pub last_before-y-requires : goal.last_before-y-requires
last_before-y-requires c = subst (λ (zs : List ℤ). Ascends zs) (sym c.deref-2.ensures.value) c.requires.rows

pub returns-clause-gap : goal.returns-clause-gap
returns-clause-gap c = λ ps starts none.
    let k = c.args.c in
    let x = to_z w32 (of_z w32 c.last_before-x.result) in
    let y = to_z w32 (of_z w32 c.last_before-y.result) in
    let columns = same_none (to_z w32 (of_z w32 k.x)) k.x c.last_before-x.result x c.deref.result.now c.args.starts.now.columns.items c.last_before-x.ensures.none (omega (arith, ints)) (omega (arith, ints)) c.deref.ensures.value in
    let rows = same_none (to_z w32 (of_z w32 k.y)) k.y c.last_before-y.result y c.deref-2.result.now c.args.starts.now.rows.items c.last_before-y.ensures.none (omega (arith, ints)) (omega (arith, ints)) c.deref-2.ensures.value in
    gap_of ps c.try_new.result (extent k (cell x y)) c.try_new.ensures.some (gap_is ps c.args.starts.now k x y starts none columns rows)
