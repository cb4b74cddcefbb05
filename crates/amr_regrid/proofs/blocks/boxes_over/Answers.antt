use Rattle.std.proofs.Common.{◌∙◌, ◌≤◌, map, sym, ap, subst, arith}
use Rattle.std.specs.List.{All}
use Rattle.std.proofs.lemmas.Result.{IfOk-weaker}
use Rattle.amr_def.specs.Cluster.{cluster}
use Rattle.amr_def.specs.Domain.{has_cell_where, refined}
use Rattle.amr_def.specs.NewBoxes.{block_side, is_wanted}
use Rattle.amr_def.proofs.Nesting.{blocking_cases}
use Rattle.amr_tags.specs.TagSets.{has}
use Rattle.amr_regrid.specs.Blocks.{IsLow, blocks_of}
use Rattle.amr_regrid.proofs.BlockPlaces.{clusters_low, columns_few, rows_few}
use Rattle.amr_regrid.proofs.blocks.boxes_over.Goals as goal

pub cluster-requires : goal.cluster-requires
cluster-requires c = c.args.p.now.limits.least_min_width

pub all_refined-requires-clause-blocking : goal.all_refined-requires-clause-blocking
all_refined-requires-clause-blocking c = blocking_cases c.args.p.now.blocking c.args.p.now.limits.blocking_factor

pub all_refined-requires-clause-low : goal.all_refined-requires-clause-low
all_refined-requires-clause-low c =
    let p = c.args.p.now in
    let l = c.args.l in
    let test = has_cell_where (block_side p) (is_wanted p (λ k. has c.args.tags) l c.args.finer.now) in
    let is = c.list.ensures.boxes ∙ c.in_ok-clusters.ensures ∙ ap (cluster p.efficiency p.min_width) c.in_ok-blocks.ensures.cells in
    let known : l ≤ 4 = omega (arith, c.requires.below, p.limits.greatest_max_level) in
    subst (All IsLow) (sym is) (clusters_low p.efficiency p.min_width (blocks_of p l) test (columns_few p l known) (rows_few p l known))

pub returns : goal.returns
returns c =
    let p = c.args.p.now in
    let is = c.list.ensures.boxes ∙ c.in_ok-clusters.ensures ∙ ap (cluster p.efficiency p.min_width) c.in_ok-blocks.ensures.cells in
    IfOk-weaker c.all_refined.result _ _ (λ r e. e ∙ ap (map (refined p.blocking)) is) c.all_refined.ensures
