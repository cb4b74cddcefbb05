use Rattle.std.proofs.Common.{◌∙◌, ℕ, Bool, cond, ap, pos}
use Rattle.std.specs.declared.option.Option.{Option}
use Rattle.std.specs.declared.option.Option.TheVariants.{Some}
use Rattle.std.specs.Option.{unwrap_or}
use Rattle.std.proofs.lemmas.List.{take_all}
use Rattle.amr_box.specs.declared.Cell.{Cell}
use Rattle.amr_box.specs.Cells.{cell}
use Rattle.amr_box.proofs.CellLists.{among_cells_of}
use Rattle.amr_def.specs.State.{mass_of}
use Rattle.amr_patch.specs.Levels.{level_of}
use Rattle.amr_witness.specs.Maps.{masses_of}
use Rattle.amr_witness_regrid.proofs.Filled.{among, cell_more}
use Rattle.amr_witness_regrid.proofs.mesh.copy_box.Goals as goal

pub loop-c-preserved : goal.loop-c-preserved
loop-c-preserved c =
    let f : Cell → ℕ = λ q. mass_of (level_of c.args.level.now).masses q in
    let mass = c.unwrap_or.ensures ∙ ap (λ (o : Option ℕ). unwrap_or o 0) c.get.ensures in
    cell_more f (masses_of c.args.masses.now) (masses_of c.loop-c.masses) _ c.as_slice-c-items.result.now c.loop-c.c-index (cell (pos 0) (pos 0)) c.unwrap_or.result c.loop-c-test.true c.loop-c.invariant c.in_ok-insert.ensures.updates.0 mass

pub returns : goal.returns
returns c =
    let f : Cell → ℕ = λ q. mass_of (level_of c.args.level.now).masses q in
    let is = take_all c.loop-c.c-index c.as_slice-c-items.result.now c.loop-c-test.false ∙ c.as_slice-c-items.ensures.value ∙ c.in_ok-cells.ensures in
    λ q. c.loop-c.invariant q ∙ ap (λ (t : Bool). cond t (Some (f q)) (masses_of c.args.masses.now q)) (ap (among q) is ∙ among_cells_of c.args.b.now q)
