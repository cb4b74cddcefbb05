use Rattle.std.proofs.Common.{sym, ap, ◌∙◌}
use Rattle.amr_ranks.specs.Items.{mass_at}
use Rattle.amr_ranks.specs.Nodes.{NodeOf}
use Rattle.amr_ranks.proofs.Looked.{there, not_there, next_start}
use Rattle.amr_ranks.proofs.node.Node.cell.Goals as goal

pub returns-then-is_some : goal.returns-then-is_some
returns-then-is_some c =
    there _ c.self.inside.cells.items c.self.inside.filled c.self.inside.runs.items c.self.inside.count c.self.invariant c.args.patch c.args.slot c.deref.result.now c.deref.ensures.value c.loop-run.start c.loop-run.run-index _ c.loop-run-test.true
    c.loop-run.invariant.start c.loop-run.invariant.none c.deref-in-loop-run.result.now c.deref-in-loop-run.ensures.value c.find-found.result c.find-found.ensures (sym c.is_some.ensures ∙ c.if-is_some.true)
    ∙ ap (λ (d : NodeOf). mass_at c.args.patch c.args.slot d.cells) c.self.view_is

pub loop-run-preserved : goal.loop-run-preserved
loop-run-preserved c = record {
  start = next_start _ c.self.inside.cells.items c.self.inside.filled c.self.inside.runs.items c.self.inside.count c.self.invariant c.args.patch c.args.slot c.deref.result.now c.deref.ensures.value c.loop-run.start c.loop-run.run-index _ c.loop-run-test.true
      c.loop-run.invariant.start c.loop-run.invariant.none c.deref-in-loop-run.result.now c.deref-in-loop-run.ensures.value c.find-found.result c.find-found.ensures;
  none = not_there _ c.self.inside.cells.items c.self.inside.filled c.self.inside.runs.items c.self.inside.count c.self.invariant c.args.patch c.args.slot c.deref.result.now c.deref.ensures.value c.loop-run.start c.loop-run.run-index _ c.loop-run-test.true
      c.loop-run.invariant.start c.loop-run.invariant.none c.deref-in-loop-run.result.now c.deref-in-loop-run.ensures.value c.find-found.result c.find-found.ensures (sym c.is_some.ensures ∙ c.if-is_some.false);
}
