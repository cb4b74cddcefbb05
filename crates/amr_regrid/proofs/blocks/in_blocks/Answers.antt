use Rattle.std.proofs.Common.{◌≡◌, ◌≢◌, ◌⊎◌, ◌∙◌, ℕ, Bool, inl, inr, ap}
use Rattle.std.proofs.lemmas.Result.{IfOk-weaker}
use Rattle.amr_box.specs.declared.Cell.{Cell}
use Rattle.amr_box.specs.Cells.{has_child_where, parents_of}
use Rattle.amr_def.proofs.Nesting.{blocking_cases}
use Rattle.amr_tags.specs.TagSets.{has}
use Rattle.amr_regrid.proofs.CellBlocks.{has_cell_2, has_cell_4}
use Rattle.amr_regrid.proofs.Gathered.{blocks_2, blocks_4, cells_1, cells_by, pairs_4}
use Rattle.amr_regrid.proofs.blocks.in_blocks.Goals as goal

pub returns-then-blocking-eq2-clause-cells : goal.returns-then-blocking-eq2-clause-cells
returns-then-blocking-eq2-clause-cells c = cells_1 c.args.p.now c.args.l c.if-blocking-eq2.true (has c.args.tags)

pub returns-then-blocking-eq4-clause-in_box : goal.returns-then-blocking-eq4-clause-in_box
returns-then-blocking-eq4-clause-in_box c = IfOk-weaker c.coarsened.result _ _ (λ t e. e ∙ ap parents_of c.requires.over ∙ blocks_2 c.args.p.now c.args.l c.if-blocking-eq4.true) c.coarsened.ensures.in_box

pub returns-then-blocking-eq4-clause-cells : goal.returns-then-blocking-eq4-clause-cells
returns-then-blocking-eq4-clause-cells c =
    IfOk-weaker c.coarsened.result _ _ (λ t e q. e q ∙ cells_by c.args.p.now c.args.l 4 (has c.args.tags) (has_child_where (has c.args.tags)) c.if-blocking-eq4.true (has_cell_2 (has c.args.tags)) q) c.coarsened.ensures.cells

eight : (b : ℕ) → (b ≡ 2) ⊎ ((b ≡ 4) ⊎ (b ≡ 8)) → b ≢ 2 → b ≢ 4 → b ≡ 8
eight b (inl e) h k = absurd (h e)
eight b (inr (inl e)) h k = absurd (k e)
eight b (inr (inr e)) h k = e

pub returns-clause-in_box : goal.returns-clause-in_box
returns-clause-in_box c =
    let p = c.args.p.now in
    let is : p.blocking ≡ 8 = eight p.blocking (blocking_cases p.blocking p.limits.blocking_factor) c.if-blocking-eq2.false c.if-blocking-eq4.false in
    let first = c.in_ok-pairs.ensures.in_box ∙ ap parents_of c.requires.over ∙ pairs_4 p c.args.l is in
    IfOk-weaker c.coarsened-3.result _ _ (λ t e. e ∙ ap parents_of first ∙ blocks_4 p c.args.l is) c.coarsened-3.ensures.in_box

pub returns-clause-cells : goal.returns-clause-cells
returns-clause-cells c =
    let p = c.args.p.now in
    let f = has c.args.tags in
    let is : p.blocking ≡ 8 = eight p.blocking (blocking_cases p.blocking p.limits.blocking_factor) c.if-blocking-eq2.false c.if-blocking-eq4.false in
    let pairs : has c.in_ok-pairs.pairs ≡ has_child_where f = λ i q. c.in_ok-pairs.ensures.cells q i in
    IfOk-weaker c.coarsened-3.result _ _ (λ t e q. e q ∙ ap (λ (g : Cell → Bool). has_child_where g q) pairs ∙ cells_by p c.args.l 8 f (has_child_where (has_child_where f)) is (has_cell_4 f) q) c.coarsened-3.ensures.cells
