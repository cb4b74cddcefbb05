use Rattle.std.proofs.Common.{◌≡◌, ◌++◌, ◌∙◌, ℕ, List, length, map, ap}
use Rattle.std.specs.Prelude.{codes}
use Rattle.amr_def.specs.Facts.{row_at}
use Rattle.amr_def.specs.Plot.{head_text, ledger_lines, level_text, line, names_species, numbered, plot_all}
use Rattle.amr_def.specs.Species.{by_place, first_state, step_of}
use Rattle.amr_def.specs.State.{State, level_at}
use Rattle.amr_patch.specs.Meshes.{state_of}
use Rattle.amr_plot.proofs.Meshes.{mesh_at}
use Rattle.amr_plot.proofs.Pens.{puts_first, puts_same, puts_then}
use Rattle.amr_plot.proofs.plots.put_plot.Goals as goal

pub returns-in_err-put_fragments : goal.returns-in_err-put_fragments
unfolding plot_all
returns-in_err-put_fragments g c =
    let ss : List State = map state_of c.args.meshes.now in
    let named = names_species c.args.p.now in
    let tables = numbered (level_text named) 0 (by_place level_at (length (first_state ss).levels) ss) ++ line (codes "end") in
    let rest = numbered (ledger_lines named) 0 (by_place row_at (length (first_state ss).rows) ss) ++ tables in
    let first = mesh_at c.args.meshes.now 0 c.index-meshes-0.result c.requires.plotted.some c.index-meshes-0.is in
    puts_same g.met.P.Pen.laws c.args.pen.now c.put_fragments.new.self _ _ c.from_residual.result
    (ap (λ (t : List ℕ). t ++ rest) (c.head.ensures ∙ ap (head_text c.args.p.now) (c.step.ensures ∙ ap (λ (s : State). s.step) first)))
    (puts_first g.met.P.Pen.laws c.args.pen.now c.put_fragments.new.self _ rest c.from_residual.result c.from_residual.ensures.0 c.in_err-put_fragments.ensures.part)

pub returns : goal.returns
unfolding plot_all
returns g c =
    let ss : List State = map state_of c.args.meshes.now in
    let named = names_species c.args.p.now in
    let first = mesh_at c.args.meshes.now 0 c.index-meshes-0.result c.requires.plotted.some c.index-meshes-0.is in
    let head = c.head.ensures ∙ ap (head_text c.args.p.now) (c.step.ensures ∙ ap (λ (s : State). s.step) first) in
    let ledger = numbered (ledger_lines named) 0 (by_place row_at (length (first_state ss).rows) ss) in
    let tables = numbered (level_text named) 0 (by_place level_at (length (first_state ss).levels) ss) in
    let laws = g.met.P.Pen.laws in
    puts_same laws c.args.pen.now c.put_fragments-2.new.self _ _ c.put_fragments-2.result
    (ap (λ (t : List ℕ). t ++ (ledger ++ (tables ++ line (codes "end")))) head)
    (puts_then laws c.args.pen.now c.put_fragments.new.self c.put_fragments-2.new.self _ _ c.put_fragments-2.result c.in_ok-put_fragments.ensures.whole
    (puts_then laws c.put_fragments.new.self c.put_ledger.new.pen c.put_fragments-2.new.self ledger _ c.put_fragments-2.result c.in_ok-put_ledger.ensures.whole
    (puts_then laws c.put_ledger.new.pen c.put_levels.new.pen c.put_fragments-2.new.self tables _ c.put_fragments-2.result c.in_ok-put_levels.ensures.whole c.put_fragments-2.ensures)))

pub returns-in_err-put_ledger : goal.returns-in_err-put_ledger
unfolding plot_all
returns-in_err-put_ledger g c =
    let ss : List State = map state_of c.args.meshes.now in
    let named = names_species c.args.p.now in
    let first = mesh_at c.args.meshes.now 0 c.index-meshes-0.result c.requires.plotted.some c.index-meshes-0.is in
    let head = c.head.ensures ∙ ap (head_text c.args.p.now) (c.step.ensures ∙ ap (λ (s : State). s.step) first) in
    let ledger = numbered (ledger_lines named) 0 (by_place row_at (length (first_state ss).rows) ss) in
    let tables = numbered (level_text named) 0 (by_place level_at (length (first_state ss).levels) ss) ++ line (codes "end") in
    let laws = g.met.P.Pen.laws in
    let r = c.from_residual-in_err-put_ledger.result in
    puts_same laws c.args.pen.now c.put_ledger.new.pen _ _ r (ap (λ (t : List ℕ). t ++ (ledger ++ tables)) head)
    (puts_then laws c.args.pen.now c.put_fragments.new.self c.put_ledger.new.pen _ _ r c.in_ok-put_fragments.ensures.whole
    (puts_first laws c.put_fragments.new.self c.put_ledger.new.pen ledger tables r c.from_residual-in_err-put_ledger.ensures.0 c.in_err-put_ledger.ensures.part))

pub returns-in_err-put_levels : goal.returns-in_err-put_levels
unfolding plot_all
returns-in_err-put_levels g c =
    let ss : List State = map state_of c.args.meshes.now in
    let named = names_species c.args.p.now in
    let first = mesh_at c.args.meshes.now 0 c.index-meshes-0.result c.requires.plotted.some c.index-meshes-0.is in
    let head = c.head.ensures ∙ ap (head_text c.args.p.now) (c.step.ensures ∙ ap (λ (s : State). s.step) first) in
    let ledger = numbered (ledger_lines named) 0 (by_place row_at (length (first_state ss).rows) ss) in
    let tables = numbered (level_text named) 0 (by_place level_at (length (first_state ss).levels) ss) in
    let end = line (codes "end") in
    let laws = g.met.P.Pen.laws in
    let r = c.from_residual-in_err-put_levels.result in
    puts_same laws c.args.pen.now c.put_levels.new.pen _ _ r (ap (λ (t : List ℕ). t ++ (ledger ++ (tables ++ end))) head)
    (puts_then laws c.args.pen.now c.put_fragments.new.self c.put_levels.new.pen _ _ r c.in_ok-put_fragments.ensures.whole
    (puts_then laws c.put_fragments.new.self c.put_ledger.new.pen c.put_levels.new.pen ledger _ r c.in_ok-put_ledger.ensures.whole
    (puts_first laws c.put_ledger.new.pen c.put_levels.new.pen tables end r c.from_residual-in_err-put_levels.ensures.0 c.in_err-put_levels.ensures.part)))
