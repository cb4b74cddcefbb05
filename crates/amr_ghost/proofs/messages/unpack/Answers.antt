use Rattle.std.proofs.Common.{◌<◌, length, arith, refl}
use Rattle.std.specs.List.{AllZip}
use Rattle.amr_ghost.specs.GhostCells.{KeepsCells, KeepsGhosts}
use Rattle.amr_ghost.proofs.Zips.{keeps_refl, keeps_trans, zip_ghosts, zip_refl, zip_trans}
use Rattle.amr_ghost.proofs.Steps.{ghosts_refl}
use Rattle.amr_ghost.proofs.Copies.{copies_set, still_received}
use Rattle.amr_ghost.proofs.Counts.{copies_counted, counted_next, end_small, end_within, start_within}
use Rattle.amr_ghost.proofs.Packing.{given_part}
use Rattle.amr_ghost.proofs.messages.unpack.Goals as goal

pub loop-k-init : goal.loop-k-init
loop-k-init c = record {
  done = refl;
  kept = zip_refl KeepsCells keeps_refl c.args.patches.now;
  ghosts = λ V M all. zip_refl (KeepsGhosts V M) (ghosts_refl V M) c.args.patches.now;
  set = λ V M all j d lt. absurd (omega arith);
}

pub overflow_add-end : goal.overflow_add-end
overflow_add-end c = end_small copies_counted c.args.copies.now c.loop-k.k _ c.loop-k.done (length c.args.masses.now) c.loop-k-test.true c.loop-k.invariant.done c.requires.places (omega arith)

pub offset_bounds-masses-done : goal.offset_bounds-masses-done
offset_bounds-masses-done c =
    let within = start_within copies_counted c.args.copies.now c.loop-k.k c.loop-k.done (length c.args.masses.now) c.loop-k.invariant.done c.requires.places in
    omega (arith, within)

pub slice_bounds-given-end : goal.slice_bounds-given-end
slice_bounds-given-end c = end_within copies_counted c.args.copies.now c.loop-k.k _ c.loop-k.done (length c.args.masses.now) c.loop-k-test.true c.loop-k.invariant.done c.requires.places

pub give_strip-requires-clause-ghost_cells : goal.give_strip-requires-clause-ghost_cells
give_strip-requires-clause-ghost_cells c = (still_received c.args.patches.now c.loop-k.patches c.loop-k.invariant.kept _ (c.requires.copies c.loop-k.k _ c.loop-k-test.true)).ghosts

pub give_strip-requires-clause-beside : goal.give_strip-requires-clause-beside
give_strip-requires-clause-beside c = (still_received c.args.patches.now c.loop-k.patches c.loop-k.invariant.kept _ (c.requires.copies c.loop-k.k _ c.loop-k-test.true)).beside

pub loop-k-preserved : goal.loop-k-preserved
loop-k-preserved c =
    let ps = c.args.patches.now in
    let qs = c.loop-k.patches in
    let rs = c.give_strip.new.patches in
    let cs = c.args.copies.now in
    let ms = c.args.masses.now in
    let k = c.loop-k.k in
    let kept : AllZip KeepsCells ps qs = c.loop-k.invariant.kept in
    let lt : k < length cs = c.loop-k-test.true in
    record {
      done = counted_next copies_counted cs k _ c.loop-k.done lt c.loop-k.invariant.done;
      kept = zip_trans KeepsCells keeps_trans ps qs rs kept c.give_strip.ensures.kept;
      ghosts = λ V M all. zip_ghosts V M ps qs rs kept (c.loop-k.invariant.ghosts V M all) (c.give_strip.ensures.ghosts V M (given_part V M cs k _ ms c.loop-k.done lt c.loop-k.invariant.done all));
      set = λ V M all. copies_set ps qs kept rs V M (c.give_strip.ensures.ghosts V M (given_part V M cs k _ ms c.loop-k.done lt c.loop-k.invariant.done all)) cs k _ lt c.requires.copies (c.loop-k.invariant.set V M all)
          (λ q. c.give_strip.ensures.set V M q (given_part V M cs k _ ms c.loop-k.done lt c.loop-k.invariant.done all));
    }
