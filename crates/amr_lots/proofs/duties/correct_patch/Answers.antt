use Rattle.std.proofs.Common.{◌∙◌, ◌^◌, pos, ◌+ℤ◌, ◌<ℤ◌, List, ap, sym, subst}
use Rattle.std.specs.Prelude.{IsTrue}
use Rattle.std.specs.List.{Contains}
use Rattle.std.specs.Global.{Vec}
use Rattle.amr_box.specs.declared.Cell.{Cell}
use Rattle.amr_box.specs.Cells.{holds}
use Rattle.amr_patch.specs.declared.patches.Patch.{Patch}
use Rattle.amr_patch.specs.Patches.{box, mass_in, masses_in}
use Rattle.amr_register.specs.declared.register.Register.{Register}
use Rattle.amr_register.specs.Fields.{cells_in, entry_in}
use Rattle.amr_lots.specs.Corrections.{IsCorrected, finer_in}
use Rattle.amr_lots.proofs.CorrectedPatches.{corrected}
use Rattle.amr_lots.proofs.duties.correct_patch.Goals as goal

pub reflux_patch-requires-clause-fits : goal.reflux_patch-requires-clause-fits
reflux_patch-requires-clause-fits c =
    let q = c.args.patch.now in
    subst (λ (r : Register). (d : Cell) → Contains (cells_in r) d → IsTrue (holds (box q) d) → (pos (mass_in q d) +ℤ entry_in r d) <ℤ pos (2 ^ 32)) (sym c.deref.ensures) c.requires.fits.fits

pub returns : goal.returns
returns c =
    let x = c.args.correction.now in
    let p = c.args.patch.now in
    let r = c.cover_patch.new.patch in
    subst (λ (g : Register). IsCorrected (masses_in (finer_in x)) (entry_in g) p r) c.deref.ensures
    (subst (λ (fs : List Patch). IsCorrected (masses_in fs) (entry_in c.deref.result.now) p r) (c.deref-3.ensures.value ∙ ap (λ (v : Vec Patch). v.items) c.deref-2.ensures)
    (corrected (masses_in c.deref-3.result.now) (entry_in c.deref.result.now) p c.reflux_patch.new.patch r c.reflux_patch.ensures.kept c.reflux_patch.ensures.masses c.cover_patch.ensures))
