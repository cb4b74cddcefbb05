use Rattle.std.proofs.Common.{◌<◌, length, arith}
use Rattle.std.specs.List.{AllZip}
use Rattle.amr_patch.specs.declared.patches.Patch.{Patch}
use Rattle.amr_ghost.specs.GhostCells.{KeepsCells, KeepsGhosts}
use Rattle.amr_ghost.proofs.Zips.{keeps_refl, keeps_trans, zip_ghosts, zip_refl, zip_trans}
use Rattle.amr_ghost.proofs.Steps.{ghosts_refl}
use Rattle.amr_ghost.proofs.Levels.{some_patch}
use Rattle.amr_ghost.proofs.Copies.{copies_set, still_copied, still_received, still_taken}
use Rattle.amr_ghost.proofs.messages.fill_within.Goals as goal

pub loop-k-init : goal.loop-k-init
loop-k-init c = record {
  kept = zip_refl KeepsCells keeps_refl c.args.patches.now;
  ghosts = λ V M all. zip_refl (KeepsGhosts V M) (ghosts_refl V M) c.args.patches.now;
  set = λ V M all j d lt. absurd (omega arith);
}

pub copy_strip-requires-clause-ghost_cells : goal.copy_strip-requires-clause-ghost_cells
copy_strip-requires-clause-ghost_cells c = (still_received c.args.patches.now c.loop-k.patches c.loop-k.invariant.kept _ (c.requires c.loop-k.k _ c.loop-k-test.true).1).ghosts

pub copy_strip-requires-clause-beside : goal.copy_strip-requires-clause-beside
copy_strip-requires-clause-beside c = (still_received c.args.patches.now c.loop-k.patches c.loop-k.invariant.kept _ (c.requires c.loop-k.k _ c.loop-k-test.true).1).beside

pub copy_strip-requires-clause-masses : goal.copy_strip-requires-clause-masses
copy_strip-requires-clause-masses c = (still_taken c.args.patches.now c.loop-k.patches c.loop-k.invariant.kept _ (c.requires c.loop-k.k _ c.loop-k-test.true).0).held

pub loop-k-preserved : goal.loop-k-preserved
loop-k-preserved c =
    let ps = c.args.patches.now in
    let qs = c.loop-k.patches in
    let rs = c.copy_strip.new.patches in
    let cs = c.args.copies.now in
    let k = c.loop-k.k in
    let kept : AllZip KeepsCells ps qs = c.loop-k.invariant.kept in
    let lt : k < length cs = c.loop-k-test.true in
    let is = c.requires k _ lt in
    let q : Patch = some_patch ps _ is.0.there in
    record {
      kept = zip_trans KeepsCells keeps_trans ps qs rs kept c.copy_strip.ensures.kept;
      ghosts = λ V M all. zip_ghosts V M ps qs rs kept (c.loop-k.invariant.ghosts V M all) (c.copy_strip.ensures.ghosts V M q (still_copied ps qs kept V M _ is.0 (all k _ lt) q));
      set = λ V M all. copies_set ps qs kept rs V M (c.copy_strip.ensures.ghosts V M q (still_copied ps qs kept V M _ is.0 (all k _ lt) q)) cs k _ lt (λ j d t. (c.requires j d t).1) (c.loop-k.invariant.set V M all)
          (λ o. c.copy_strip.ensures.set V M o o (still_copied ps qs kept V M _ is.0 (all k _ lt) o));
    }
