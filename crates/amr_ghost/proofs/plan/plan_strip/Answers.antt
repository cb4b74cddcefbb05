use Rattle.std.proofs.Common.{◌+◌, List, get_or, refl, sym, subst, arith}
use Rattle.std.specs.List.{All}
use Rattle.std.proofs.lemmas.List.Elements.{All-push}
use Rattle.amr_def.specs.Domain.{domain}
use Rattle.amr_patch.specs.Patches.{box}
use Rattle.amr_ghost.specs.Strips.{HasRoom}
use Rattle.amr_ghost.specs.Plans.{HaveStrip, IsSpan, KeepSpans}
use Rattle.amr_ghost.specs.declared.sources.GhostSpan.{GhostSpan}
use Rattle.amr_ghost.proofs.Levels.{few_along, some_patch}
use Rattle.amr_ghost.proofs.PlannedSpans.{keep_push, keep_refl, keep_trans, no_strip, strip_push}
use Rattle.amr_ghost.proofs.Spans.{rest_of_strip, room_ahead}
use Rattle.amr_ghost.proofs.plan.plan_strip.Goals as goal

pub loop-done-init : goal.loop-done-init
loop-done-init c = record {
  within = omega arith;
  spans = c.requires.spans;
  kept = keep_refl c.args.spans.now.items;
  made = no_strip c.args.spans.now.items c.args.target.patch c.args.strip.axis c.args.strip.from;
}

pub span_ahead-span-requires-clause-room : goal.span_ahead-span-requires-clause-room
span_ahead-span-requires-clause-room c = subst (λ s. HasRoom s) (sym c.step.ensures) (room_ahead (domain c.args.p.now c.args.target.level) c.args.strip.axis c.args.strip.from c.loop-done.done c.requires.room (few_along c.args.p.now c.args.target.level c.args.strip.axis c.requires.level) ((c.requires.ghost_strip (some_patch c.args.patches.now c.args.target.patch c.requires.there)).inside c.loop-done.done (omega arith)))

pub span_ahead-span-requires-clause-ghost_strip : goal.span_ahead-span-requires-clause-ghost_strip
span_ahead-span-requires-clause-ghost_strip c q = rest_of_strip (domain c.args.p.now c.args.target.level) (box (get_or c.args.patches.now c.args.target.patch q)) (box (get_or c.args.patches.now c.args.target.patch q)) c.args.strip.axis c.args.strip.from c.step.result c.args.strip.count c.loop-done.done refl c.step.ensures (c.requires.ghost_strip q)

pub loop-done-preserved : goal.loop-done-preserved
loop-done-preserved c =
    let ss = c.loop-done.spans.items in
    let s = c.span_ahead-span.result in
    let items = sym c.in_ok-push.ensures.items in
    let strip = c.args.strip in
    record {
      within = omega (arith, c.span_ahead-span.ensures.within);
      spans = subst (All (IsSpan (domain c.args.p.now c.args.target.level) c.args.patches.now)) items (All-push (IsSpan (domain c.args.p.now c.args.target.level) c.args.patches.now) ss s c.loop-done.invariant.spans c.span_ahead-span.ensures.span);
      kept = subst (KeepSpans c.args.spans.now.items) items (keep_trans c.args.spans.now.items ss _ c.loop-done.invariant.kept (keep_push ss s));
      made = subst (λ (ts : List GhostSpan). HaveStrip ts c.args.target.patch strip.axis strip.from (c.loop-done.done + s.strip.count)) items
          (strip_push ss s c.args.target.patch strip.axis strip.from c.step.result c.loop-done.done c.span_ahead-span.ensures.patch c.span_ahead-span.ensures.axis c.span_ahead-span.ensures.from c.step.ensures c.loop-done.invariant.made);
    }
