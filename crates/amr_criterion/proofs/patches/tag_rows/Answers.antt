use Rattle.std.proofs.Common.{◌≡◌, ◌+◌, ◌&&◌, ℕ, pos, ◌+ℤ◌, arith, subst}
use Rattle.amr_box.specs.Cells.{cell, holds}
use Rattle.amr_patch.specs.Patches.{box, value_in}
use Rattle.amr_criterion.specs.Pairs.{IsJoined, in_steep_pair, region}
use Rattle.amr_criterion.proofs.Regions.{no_rows, rows_parts}
use Rattle.amr_criterion.proofs.Joins.{joined_none_within, joined_within}
use Rattle.amr_criterion.proofs.Steeps.{steep_empty, steep_union}
use Rattle.amr_criterion.proofs.patches.tag_rows.Goals as goal

pub loop-k-init : goal.loop-k-init
loop-k-init c =
    let q = c.args.patch.now in
    let f = c.args.firsts.now in
    joined_none_within (box q) (in_steep_pair c.args.threshold (value_in q) f.axis (region f.from f.columns 0)) c.args.tags.now (steep_empty c.args.threshold (value_in q) f.axis (region f.from f.columns 0) (no_rows f.from f.columns))

pub loop-k-preserved : goal.loop-k-preserved
loop-k-preserved c =
    let q = c.args.patch.now in
    let f = c.args.firsts.now in
    let k = c.loop-k.k in
    let row = region (cell f.from.x (f.from.y +ℤ pos k)) f.columns 1 in
    joined_within (box q) (in_steep_pair c.args.threshold (value_in q) f.axis (region f.from f.columns k)) (in_steep_pair c.args.threshold (value_in q) f.axis row) (in_steep_pair c.args.threshold (value_in q) f.axis (region f.from f.columns (k + 1))) c.args.tags.now c.loop-k.tags c.tag_row.new.tags
    (steep_union c.args.threshold (value_in q) f.axis (region f.from f.columns k) row (region f.from f.columns (k + 1)) (λ d. rows_parts f.from f.columns k 1 (k + 1) d (omega arith)))
    c.loop-k.invariant
    c.tag_row.ensures

pub returns : goal.returns
returns c =
    let q = c.args.patch.now in
    let f = c.args.firsts.now in
    let all : c.loop-k.k ≡ f.rows = omega arith in
    subst (λ (n : ℕ). IsJoined (λ d. holds (box q) d && in_steep_pair c.args.threshold (value_in q) f.axis (region f.from f.columns n) d) c.args.tags.now c.loop-k.tags) all c.loop-k.invariant
