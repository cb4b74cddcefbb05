use Rattle.std.proofs.Common.{arith}
use Rattle.std.specs.List.{AllZip}
use Rattle.std.proofs.lemmas.List.Elements.{All-same}
use Rattle.amr_ghost.specs.GhostCells.{KeepsCells}
use Rattle.amr_ghost.specs.Outer.{HasOuterGiven, IsSpanBeside}
use Rattle.amr_ghost.proofs.Zips.{keeps_trans, zip_ghosts, zip_trans}
use Rattle.amr_ghost.proofs.Copies.{all_still_set}
use Rattle.amr_ghost.proofs.OuterGiven.{all_still_outer, given_in, own_ghosts, own_kept, own_outer, own_set, still_copies}
use Rattle.amr_ghost.proofs.Unpacking.{messages_set, received_here, unpacked_keeps}
use Rattle.amr_ghost.proofs.messages.fill_run.Goals as goal

pub give_outer-requires-clause-spans : goal.give_outer-requires-clause-spans
give_outer-requires-clause-spans c = All-same (IsSpanBeside c.args.patches.now) c.deref.result.now c.args.outer.now.spans.items c.deref.ensures.value c.requires.outer.0

pub fill_within-requires : goal.fill_within-requires
fill_within-requires c = still_copies c.args.copies.now c.args.patches.now c.give_outer.new.patches c.give_outer.ensures.kept c.requires.copies

pub loop-k-init : goal.loop-k-init
loop-k-init c =
    let x = c.args.outer.now in
    let cs = c.args.copies.now in
    let ps = c.args.patches.now in
    let qs = c.give_outer.new.patches in
    let rs = c.fill_within.new.patches in
    let given : HasOuterGiven x.spans.items x.values.items ps qs = given_in x c.deref.result.now c.deref-2.result.now ps qs c.deref.ensures.value c.deref-2.ensures.value c.give_outer.ensures in
    let made = c.fill_within.ensures in
    record {
      kept = own_kept x cs ps qs rs given made c.requires.outer.0 c.requires.copies;
      ghosts = λ V M valued copied bring. own_ghosts x cs ps qs rs given made c.requires.outer.0 c.requires.copies V M valued copied;
      outer = λ V M valued copied bring. own_outer x cs ps qs rs given made c.requires.outer.0 c.requires.copies V M valued copied;
      set = λ V M valued copied bring. own_set x cs ps qs rs given made c.requires.outer.0 c.requires.copies V M valued copied;
      received = λ V M valued copied bring j m lt. absurd (omega arith);
    }

pub unpack-requires-clause-copies : goal.unpack-requires-clause-copies
unpack-requires-clause-copies c =
    received_here c.args.messages.now c.loop-k.k c.index-messages-k.result c.deref-in-loop-k.result.now c.deref-in-loop-k-2.result.now c.loop-k-test.true c.index-messages-k.is c.deref-in-loop-k.ensures.value c.deref-in-loop-k-2.ensures.value c.args.patches.now c.loop-k.patches c.loop-k.invariant.kept c.requires.messages

pub loop-k-preserved : goal.loop-k-preserved
loop-k-preserved c =
    let ps = c.args.patches.now in
    let qs = c.loop-k.patches in
    let rs = c.unpack.new.patches in
    let cs = c.args.copies.now in
    let kept : AllZip KeepsCells ps qs = c.loop-k.invariant.kept in
    let more = unpacked_keeps c.args.messages.now c.loop-k.k c.index-messages-k.result c.deref-in-loop-k.result.now c.deref-in-loop-k-2.result.now c.loop-k-test.true c.index-messages-k.is c.deref-in-loop-k.ensures.value c.deref-in-loop-k-2.ensures.value ps qs kept c.requires.messages rs c.unpack.ensures in
    let all = messages_set c.args.messages.now c.loop-k.k c.index-messages-k.result c.deref-in-loop-k.result.now c.deref-in-loop-k-2.result.now c.loop-k-test.true c.index-messages-k.is c.deref-in-loop-k.ensures.value c.deref-in-loop-k-2.ensures.value ps qs kept c.requires.messages rs c.unpack.ensures in
    record {
      kept = zip_trans KeepsCells keeps_trans ps qs rs kept c.unpack.ensures.kept;
      ghosts = λ V M valued copied bring. zip_ghosts V M ps qs rs kept (c.loop-k.invariant.ghosts V M valued copied bring) (more V M bring);
      outer = λ V M valued copied bring. all_still_outer ps qs kept rs V M (more V M bring) c.args.outer.now.spans.items c.requires.outer.0 (c.loop-k.invariant.outer V M valued copied bring);
      set = λ V M valued copied bring. all_still_set ps qs kept rs V M (more V M bring) cs (λ j d lt. (c.requires.copies j d lt).1) (c.loop-k.invariant.set V M valued copied bring);
      received = λ V M valued copied bring. all V M bring (c.loop-k.invariant.received V M valued copied bring);
    }

pub returns : goal.returns
returns c = record {
  kept = c.loop-k.invariant.kept;
  ghosts = c.loop-k.invariant.ghosts;
  outer = c.loop-k.invariant.outer;
  set = c.loop-k.invariant.set;
  received = λ V M valued copied bring j x lt. c.loop-k.invariant.received V M valued copied bring j x (omega (arith, lt, c.loop-k-test.false));
}
