use Rattle.std.proofs.Common.{◌≡◌, ◌∙◌, ◌≤◌, List, ap, subst, sym, arith}
use Rattle.std.specs.Global.{Vec}
use Rattle.std.specs.List.{All}
use Rattle.std.proofs.lemmas.List.{get_or_default}
use Rattle.amr_box.specs.Cells.{width}
use Rattle.amr_ghost.specs.declared.parts.FrameCopy.{FrameCopy}
use Rattle.amr_ghost.specs.declared.sources.GhostSpan.{GhostSpan}
use Rattle.amr_layout.specs.Arounds.{around_of}
use Rattle.amr_layout.proofs.LevelFlowLists.{has_flows_at}
use Rattle.amr_layout.proofs.Planned.{nth}
use Rattle.amr_lots.specs.Ready.{HasFlowsIn}
use Rattle.amr_lots.specs.Runs.{run}
use Rattle.amr_patch.specs.declared.patches.Patch.{Patch}
use Rattle.amr_patch.specs.Patches.{box}
use Rattle.amr_advance.proofs.WholeRun.{whole_run}
use Rattle.amr_advance.proofs.workspaces.whole_workspace.Goals as goal

pub sides_of_run-requires : goal.sides_of_run-requires
sides_of_run-requires c = λ k lt. has_flows_at (around_of c.args.s) c.args.flows c.requires.flows.flows k lt (nth c.args.s.patches.now k lt)

pub messages_of_run-requires-clause-copies : goal.messages_of_run-requires-clause-copies
messages_of_run-requires-clause-copies c = c.requires.copies

pub returns : goal.returns
returns c = λ each le.
    let qs : List Patch = c.args.s.patches.now in
    let whole : run each 0 qs ≡ qs = whole_run each qs le in
    record {
      serves = record {
        copies = λ v. ap (λ (u : Vec FrameCopy). u.items) (c.replace.ensures.value ∙ c.index_mut-2.ensures.value ∙ get_or_default c.args.parts.copies.items 0 c.index_mut-2.result.now v (omega (arith, c.requires.copies)));
        outer = λ v. ap (λ (u : Vec GhostSpan). u.items) (c.in_ok-make.ensures.spans ∙ c.replace-outer.ensures.value ∙ c.index_mut.ensures.value ∙ get_or_default c.args.parts.outer.items 0 c.index_mut.result.now v (omega (arith, c.requires.outer)));
        outer_places = c.in_ok-make.ensures.places;
        outbox = c.in_ok-outbox.ensures.outbox;
        inbox = c.in_ok-outbox.ensures.inbox;
        room = subst (λ n. All (λ q. width (box q) ≤ n) (run each 0 qs)) (sym c.in_ok-make-2.ensures) (subst (All (λ q. width (box q) ≤ c.widest_of.result)) (sym whole) c.widest_of.ensures);
        flows = subst (HasFlowsIn c.args.flows c.in_ok-sides.sides.items) (sym whole) c.in_ok-sides.ensures.flows;
      };
      flows = c.requires.flows.flows;
      words = c.requires.flows.words;
      totals = omega (arith, c.in_ok-vec.ensures.len, c.in_ok-vec.field-0.ok.0);
    }
