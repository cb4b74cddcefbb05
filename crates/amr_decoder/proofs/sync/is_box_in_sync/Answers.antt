use Rattle.std.proofs.Common.{ℕ, ◌<◌, pos, ◌+ℤ◌, refl, sym, subst, arith, below_more}
use Rattle.std.proofs.lemmas.Bool.{both_ways}
use Rattle.std.proofs.lemmas.Int.{ints}
use Rattle.amr_box.specs.declared.Cell.{Cell}
use Rattle.amr_box.specs.Cells.{cell, height, width}
use Rattle.amr_patch.specs.Levels.{level_of}
use Rattle.amr_payload.proofs.Places.{cell_of}
use Rattle.amr_decoder.specs.Synced.{IsSum, IsSumAt}
use Rattle.amr_decoder.proofs.Filling.{held_at}
use Rattle.amr_decoder.proofs.sync.is_box_in_sync.Goals as goal

pub is_row_in_sync-requires-clause-row : goal.is_row_in_sync-requires-clause-row
is_row_in_sync-requires-clause-row c = omega (arith, ints, c.height-j-end.ensures.corners, c.loop-j-test.true)

pub loop-j-preserved : goal.loop-j-preserved
loop-j-preserved c =
    let b = c.args.parents.now in
    below_more (λ k. (i : ℕ) → i < width b → IsSumAt c.args.coarse.now c.args.fine.now b k i) c.loop-j.j c.loop-j.invariant (c.is_row_in_sync.ensures.0 c.if-not-is_row_in_sync.false)

pub returns-then-not-is_row_in_sync : goal.returns-then-not-is_row_in_sync
returns-then-not-is_row_in_sync c =
    let b = c.args.parents.now in
    let row : c.loop-j.j < height b = omega (arith, c.loop-j-test.true, c.height-j-end.ensures.value) in (
      λ h. absurd (cc),
      λ all. absurd (both_ways c.is_row_in_sync.result c.if-not-is_row_in_sync.true
          (c.is_row_in_sync.ensures.1 (λ i lt. all (cell (b.lo.x +ℤ pos i) (b.lo.y +ℤ pos c.loop-j.j)) (held_at b i c.loop-j.j c.requires.placed.near lt row)))),
    )

pub returns : goal.returns
returns c =
    let b = c.args.parents.now in
    let m = (level_of c.args.coarse.now).masses in
    let f = (level_of c.args.fine.now).masses in
    (λ h d held. let at = cell_of b d held in subst (λ (e : Cell). IsSum m f e) (sym at.is) (c.loop-j.invariant at.j (omega (arith, at.row, c.loop-j-test.false, c.height-j-end.ensures.value)) at.i at.column), λ all. refl)
