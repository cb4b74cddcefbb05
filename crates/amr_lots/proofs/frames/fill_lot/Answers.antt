use Rattle.std.proofs.Common.{List, sym, subst}
use Rattle.std.specs.Global.{Vec}
use Rattle.std.specs.List.{All}
use Rattle.amr_ghost.specs.Messages.{HasFilled, IsFrameCopy, IsMessageTo}
use Rattle.amr_ghost.specs.Outer.{IsSpanBeside}
use Rattle.amr_ghost.specs.declared.messages.Message.{Message}
use Rattle.amr_ghost.specs.declared.parts.FrameCopy.{FrameCopy}
use Rattle.amr_ghost.specs.declared.sources.GhostSpan.{GhostSpan}
use Rattle.amr_lots.proofs.frames.fill_lot.Goals as goal

pub find_values-requires-clause-places : goal.find_values-requires-clause-places
find_values-requires-clause-places c = c.requires.outer.1

pub fill_run-requires-clause-outer : goal.fill_run-requires-clause-outer
fill_run-requires-clause-outer c =
    let found = c.find_values.ensures in
    (subst (λ (v : Vec GhostSpan). All (IsSpanBeside c.args.patches.now) v.items) (sym found.spans) c.requires.outer.0, found.places)

pub fill_run-requires-clause-copies : goal.fill_run-requires-clause-copies
fill_run-requires-clause-copies c = subst (λ (xs : List FrameCopy). All (IsFrameCopy c.args.patches.now) xs) (sym c.deref.ensures.value) c.requires.copies

pub fill_run-requires-clause-messages : goal.fill_run-requires-clause-messages
fill_run-requires-clause-messages c = subst (λ (xs : List Message). All (IsMessageTo c.args.patches.now) xs) (sym c.deref-2.ensures.value) c.requires.messages

pub returns-clause-filled : goal.returns-clause-filled
returns-clause-filled c =
    subst (λ (xs : List FrameCopy). HasFilled c.find_values.new.outer xs c.args.workspace.now.inbox.items c.args.patches.now c.fill_run.new.patches) c.deref.ensures.value
    (subst (λ (xs : List Message). HasFilled c.find_values.new.outer c.deref.result.now xs c.args.patches.now c.fill_run.new.patches) c.deref-2.ensures.value c.fill_run.ensures)
