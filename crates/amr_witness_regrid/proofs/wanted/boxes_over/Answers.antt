use Rattle.std.proofs.Common.{◌∙◌, ◌&&◌, Bool, map, sym, ap, subst}
use Rattle.std.specs.List.{All, filter}
use Rattle.std.proofs.lemmas.Result.{IfOk-weaker}
use Rattle.amr_box.specs.Cells.{cells_of, Extent}
use Rattle.amr_def.specs.Domain.{domain_box, refined}
use Rattle.amr_def.specs.Cluster.{cluster}
use Rattle.amr_tags.specs.TagSets.{has}
use Rattle.amr_witness.specs.Maps.{masses_of, old_of}
use Rattle.amr_witness_regrid.specs.Wanted.{is_wanted_block}
use Rattle.amr_regrid.proofs.BlockPlaces.{clusters_low, columns_few, rows_few}
use Rattle.amr_witness_regrid.proofs.BlockPlaces.{blocking_few, blocking_some, fine}
use Rattle.amr_regrid.proofs.CellBlocks.{filter_box}
use Rattle.amr_regrid.specs.Blocks.{IsLow, blocks_of}
use Rattle.amr_witness_regrid.proofs.wanted.boxes_over.Goals as goal

pub all_refined-requires-clause-some : goal.all_refined-requires-clause-some
all_refined-requires-clause-some c = blocking_some c.args.p.now

pub all_refined-requires-clause-few : goal.all_refined-requires-clause-few
all_refined-requires-clause-few c = blocking_few c.args.p.now

pub all_refined-requires-clause-low : goal.all_refined-requires-clause-low
all_refined-requires-clause-low c =
    let p = c.args.p.now in
    let l = c.args.here.level in
    let f = is_wanted_block p l (masses_of c.args.here.masses.now) (old_of c.args.here.coarse) c.args.finer.now in
    let t = c.in_ok-tags.tags in
    let d = blocks_of p l in
    let cells = ap (λ (b : Extent). filter (has t) (cells_of b)) c.in_ok-tags.ensures.bx ∙ filter_box (has t) f (domain_box d) (λ k h. c.in_ok-tags.ensures.cells k ∙ ap (λ (b : Bool). b && f k) h) in
    let is = c.list.ensures.boxes ∙ c.in_ok-clusters.ensures ∙ ap (cluster p.efficiency p.min_width) cells in
    let few = fine p l c.requires.known in
    subst (All IsLow) (sym is) (clusters_low p.efficiency p.min_width d f (columns_few p l few) (rows_few p l few))

pub returns-clause-boxes : goal.returns-clause-boxes
returns-clause-boxes c =
    let p = c.args.p.now in
    let l = c.args.here.level in
    let f = is_wanted_block p l (masses_of c.args.here.masses.now) (old_of c.args.here.coarse) c.args.finer.now in
    let t = c.in_ok-tags.tags in
    let d = blocks_of p l in
    let cells = ap (λ (b : Extent). filter (has t) (cells_of b)) c.in_ok-tags.ensures.bx ∙ filter_box (has t) f (domain_box d) (λ k h. c.in_ok-tags.ensures.cells k ∙ ap (λ (b : Bool). b && f k) h) in
    let is = c.list.ensures.boxes ∙ c.in_ok-clusters.ensures ∙ ap (cluster p.efficiency p.min_width) cells in
    IfOk-weaker c.all_refined.result _ _ (λ r e. e ∙ ap (map (refined p.blocking)) is) c.all_refined.ensures.boxes

pub returns-clause-near : goal.returns-clause-near
returns-clause-near c = c.all_refined.ensures.near
