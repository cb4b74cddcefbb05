use Rattle.std.proofs.Common.{◌≡◌, List, length, subst, arith}
use Rattle.std.specs.List.{AllZip}
use Rattle.std.proofs.lemmas.List.Elements.{All-same, length_all_zip}
use Rattle.amr_patch.specs.Patches.{SameFluxes}
use Rattle.amr_ghost.specs.GhostCells.{KeepsCells}
use Rattle.amr_ghost.specs.Frames.{KeepsCorners, SameMasses}
use Rattle.amr_ghost.specs.Messages.{HasFilled, IsFrameCopy}
use Rattle.amr_ghost.specs.declared.parts.FrameCopy.{FrameCopy}
use Rattle.amr_ghost.proofs.Zips.{zip_boxes, zip_map}
use Rattle.amr_ghost.proofs.fills.fill.Goals as goal

pub fill_run-requires-clause-outer : goal.fill_run-requires-clause-outer
fill_run-requires-clause-outer c = c.requires.outer

pub fill_run-requires-clause-copies : goal.fill_run-requires-clause-copies
fill_run-requires-clause-copies c = All-same (IsFrameCopy c.args.patches.now) c.deref.result.now c.args.sources.now.copies.items c.deref.ensures.value c.requires.copies

pub fill_run-requires-clause-messages : goal.fill_run-requires-clause-messages
fill_run-requires-clause-messages c = c.requires.inbox

pub returns-clause-filled : goal.returns-clause-filled
returns-clause-filled c = λ p l old fills k q lt e h.
    let s = c.args.sources.now in
    let ps = c.args.patches.now in
    let fs = c.fill_run.new.patches in
    let has : HasFilled s.outer s.copies.items s.inbox ps fs = subst (λ (cs : List FrameCopy). HasFilled s.outer cs s.inbox ps fs) c.deref.ensures.value c.fill_run.ensures in
    let same : length ps ≡ length fs = length_all_zip KeepsCells ps fs c.fill_run.ensures.kept in
    ((fills.frames fs has k q (omega (arith, lt, same))).at e h).valued

pub returns-clause-marked : goal.returns-clause-marked
returns-clause-marked c = λ p l old fills k q lt e h.
    let s = c.args.sources.now in
    let ps = c.args.patches.now in
    let fs = c.fill_run.new.patches in
    let has : HasFilled s.outer s.copies.items s.inbox ps fs = subst (λ (cs : List FrameCopy). HasFilled s.outer cs s.inbox ps fs) c.deref.ensures.value c.fill_run.ensures in
    let same : length ps ≡ length fs = length_all_zip KeepsCells ps fs c.fill_run.ensures.kept in
    ((fills.frames fs has k q (omega (arith, lt, same))).at e h).marked

pub returns-clause-masses : goal.returns-clause-masses
returns-clause-masses c = zip_map KeepsCells SameMasses (λ q r k. k.masses) c.args.patches.now c.fill_run.new.patches c.fill_run.ensures.kept

pub returns-clause-fluxes : goal.returns-clause-fluxes
returns-clause-fluxes c = zip_map KeepsCells SameFluxes (λ q r k. k.fluxes) c.args.patches.now c.fill_run.new.patches c.fill_run.ensures.kept

pub returns-clause-corners : goal.returns-clause-corners
returns-clause-corners c = zip_map KeepsCells KeepsCorners (λ q r k. k.corners) c.args.patches.now c.fill_run.new.patches c.fill_run.ensures.kept

pub returns-clause-boxes : goal.returns-clause-boxes
returns-clause-boxes c = zip_boxes c.args.patches.now c.fill_run.new.patches c.fill_run.ensures.kept
