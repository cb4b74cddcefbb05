use Rattle.std.proofs.Common.{◌≡◌, ◌∙◌, List, length, get_or, sym, ap, arith}
use Rattle.std.specs.Prelude.{slice_index}
use Rattle.std.specs.Option.{unwrap_or}
use Rattle.std.proofs.lemmas.List.{get_or_past, length-map}
use Rattle.amr_def.specs.State.{Level, no_level}
use Rattle.amr_patch.specs.Levels.{level_of}
use Rattle.amr_patch.specs.Meshes.{state_of}
use Rattle.amr_patch.proofs.Items.{level_item}
use Rattle.amr_view.specs.Rows.{cell_at}
use Rattle.amr_view.proofs.laid.lay.Goals as goal

pub returns-then-at-levels : goal.returns-then-at-levels
returns-then-at-levels c k lt =
    let s = state_of c.args.mesh.now in
    let count : length c.levels-levels.result.now ≡ length s.levels = sym (length-map c.levels-levels.result.now level_of) ∙ ap length c.levels-levels.ensures.levels in
    let none : get_or s.levels c.args.l no_level ≡ no_level = get_or_past s.levels c.args.l no_level (omega (arith, count, c.if-at-levels.true)) in
    ap (λ (n : Level). unwrap_or (n.masses (cell_at c.args.row.now k)) (slice_index c.args.masses.now k)) (sym none)

pub returns : goal.returns
returns c k lt =
    let levels = c.levels-levels.result.now in
    let here = level_item levels c.args.l c.index-levels-at.result (omega (arith, c.if-at-levels.false)) c.index-levels-at.is in
    let at = here ∙ ap (λ (ks : List Level). get_or ks c.args.l no_level) c.levels-levels.ensures.levels in
    c.lay_level.ensures k lt ∙ ap (λ (n : Level). unwrap_or (n.masses (cell_at c.args.row.now k)) (slice_index c.args.masses.now k)) at
