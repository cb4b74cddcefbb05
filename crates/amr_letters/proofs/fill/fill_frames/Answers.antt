use Rattle.std.proofs.Common.{◌<◌, length, slice_index_or, arith}
use Rattle.std.specs.Prelude.{slice_index}
use Rattle.amr_patch.specs.Patches.{SameFluxes}
use Rattle.amr_ghost.specs.Frames.{KeepsCorners, SameMasses}
use Rattle.amr_ghost.proofs.Zips.{boxes_of_zip, zip_map}
use Rattle.amr_letters.specs.Filled.{KeepsAllButValues, SameFrameMarks}
use Rattle.amr_letters.proofs.Patches.{all_kept, first_there, one_filled, one_kept}
use Rattle.amr_letters.proofs.fill.fill_frames.Goals as goal

pub loop-k-init : goal.loop-k-init
loop-k-init c = record { kept = all_kept c.args.patches.now; filled = λ m old tells j q lt. absurd (omega (arith, lt)) }

pub loop-k-preserved : goal.loop-k-preserved
loop-k-preserved c =
    let ps = c.args.patches.now in
    let qs = c.loop-k.patches in
    let k = c.loop-k.k in
    let q = c.index-patches-k.result in
    let r = c.fill_frame.new.patch in
    let s = c.fill_frame.ensures in
    let p = c.args.p.now in
    let rank = c.index-ranks-owners.result in
    let test = c.loop-k-test.true in
    let size = c.loop-k.auto.patches in
    let there : k < length qs = omega (arith, test, size) in
    let kept = c.loop-k.invariant.kept in
    record {
      kept = one_kept ps qs k q r there kept
          (record { cells = record { of_box = s.of_box; masses = s.masses; fluxes = s.fluxes; corners = s.corners }; marks = s.marks });
      filled = λ m old tells.
          one_filled ps qs k q r there kept p c.args.l m old (slice_index_or c.args.ranks.now (slice_index c.args.owners.now k) rank).node
          (tells.at k q rank (first_there ps qs k q r there kept))
          (c.loop-k.invariant.filled m old tells) (s.filled m old);
    }

pub returns-clause-marks : goal.returns-clause-marks
returns-clause-marks c = zip_map KeepsAllButValues SameFrameMarks (λ q r h. h.marks) c.args.patches.now c.loop-k.patches c.loop-k.invariant.kept

pub returns-clause-masses : goal.returns-clause-masses
returns-clause-masses c = zip_map KeepsAllButValues SameMasses (λ q r h. h.cells.masses) c.args.patches.now c.loop-k.patches c.loop-k.invariant.kept

pub returns-clause-corners : goal.returns-clause-corners
returns-clause-corners c = zip_map KeepsAllButValues KeepsCorners (λ q r h. h.cells.corners) c.args.patches.now c.loop-k.patches c.loop-k.invariant.kept

pub returns-clause-fluxes : goal.returns-clause-fluxes
returns-clause-fluxes c = zip_map KeepsAllButValues SameFluxes (λ q r h. h.cells.fluxes) c.args.patches.now c.loop-k.patches c.loop-k.invariant.kept

pub returns-clause-boxes : goal.returns-clause-boxes
returns-clause-boxes c = boxes_of_zip KeepsAllButValues (λ q r h. h.cells.of_box) c.args.patches.now c.loop-k.patches c.loop-k.invariant.kept
