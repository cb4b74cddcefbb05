use Rattle.std.proofs.Common.{◌≡◌, ◌∙◌, ◌+◌, ◌-◌, ◌*◌, ◌<◌, ◌≤◌, List, length, take, drop, ap, subst, sym, arith}
use Rattle.std.specs.Global.{Vec}
use Rattle.std.specs.List.{All}
use Rattle.std.proofs.lemmas.List.{get_or_default, length-drop, length-take}
use Rattle.amr_box.specs.Cells.{width}
use Rattle.amr_ghost.specs.declared.parts.FrameCopy.{FrameCopy}
use Rattle.amr_ghost.specs.declared.sources.GhostSpan.{GhostSpan}
use Rattle.amr_layout.specs.declared.PatchLayout.{PatchLayout}
use Rattle.amr_layout.specs.Arounds.{around_of}
use Rattle.amr_lots.specs.Ready.{HasFlowsIn}
use Rattle.amr_lots.specs.Runs.{run}
use Rattle.amr_lots.specs.Works.{places_read}
use Rattle.amr_patch.specs.declared.patches.Patch.{Patch}
use Rattle.amr_patch.specs.Patches.{box}
use Rattle.amr_patch.proofs.Rows.{place_within}
use Rattle.amr_advance.proofs.MadeWorkspaces.{few_places, has_flows, numbered_run, run_is, sides_there}
use Rattle.amr_advance.proofs.workspaces.workspace_for.Goals as goal

pub flows_of_part-requires-clause-there : goal.flows_of_part-requires-clause-there
flows_of_part-requires-clause-there c = has_flows (around_of c.args.s) c.args.cut.each c.args.k c.args.count c.requires.count c.args.cut.flows.now c.requires.cut.flows_are.flows

pub flows_of_part-requires-clause-words : goal.flows_of_part-requires-clause-words
flows_of_part-requires-clause-words c = c.requires.cut.flows_are.words

pub sides_of_run-requires : goal.sides_of_run-requires
sides_of_run-requires c = λ i lt. c.in_ok-flows.ensures.bounds i
    (let first = c.args.k * c.args.cut.each in omega (arith, lt, length-take (first + c.args.count - first) (drop first c.args.s.patches.now), length-drop first c.args.s.patches.now))

pub messages_of_run-requires-clause-copies : goal.messages_of_run-requires-clause-copies
messages_of_run-requires-clause-copies c = c.requires.cut.copies

pub count_reads-requires : goal.count_reads-requires
count_reads-requires c = let few = c.requires.layouts.few in omega (arith, few, ap (λ (ts : List PatchLayout). length (places_read ts)) c.deref-3.ensures.value)

pub overflow_mul-k : goal.overflow_mul-k
overflow_mul-k c = omega (arith, few_places c.args.k c.args.cut.runs c.requires.there c.requires.cut.many)

pub overflow_add-k : goal.overflow_add-k
overflow_add-k c = omega (arith, few_places c.args.k c.args.cut.runs c.requires.there c.requires.cut.many)

pub index-requires-2 : goal.index-requires-2
index-requires-2 c = let k = c.args.k in let runs = c.args.cut.runs in omega (arith, place_within k k runs runs c.requires.there c.requires.there, c.requires.cut.copies)

pub returns : goal.returns
returns c =
    let s = around_of c.args.s in
    let parts = c.args.cut.parts.now in
    let each = c.args.cut.each in
    let runs = c.args.cut.runs in
    let k = c.args.k in
    let count = c.args.count in
    let of = c.requires.count in
    let qs : List Patch = take (k * each + count - k * each) (drop (k * each) c.args.s.patches.now) in
    let flows = c.in_ok-flows.field-0.flows in
    let sides = c.in_ok-sides.sides.items in
    let patches : qs ≡ run each k c.args.s.patches.now = run_is s each k count of (k * each + count - k * each) (omega arith) in
    let below : k * runs + k < length parts.copies.items = omega (arith, place_within k k runs runs c.requires.there c.requires.there, c.requires.cut.copies) in
    let here : k < length parts.outer.items = omega (arith, c.requires.there, c.requires.cut.outer) in
    let wide : All (λ q. width (box q) ≤ c.widest_of.result) (run each k c.args.s.patches.now) = subst (All (λ q. width (box q) ≤ c.widest_of.result)) patches c.widest_of.ensures in
    record {
      serves = record {
        copies = λ v. c.in_ok-from_slice.ensures.items ∙ c.deref-4.ensures.value ∙ ap (λ (u : Vec FrameCopy). u.items) (c.index-2.ensures ∙ get_or_default parts.copies.items (k * runs + k) c.index-2.result.now v below);
        outer = λ v. ap (λ (u : Vec GhostSpan). u.items) c.in_ok-make.ensures.spans ∙ c.in_ok-outer.ensures.items ∙ c.deref-2.ensures.value ∙ ap (λ (u : Vec GhostSpan). u.items) (c.index.ensures ∙ get_or_default parts.outer.items k c.index.result.now v here);
        outer_places = c.in_ok-make.ensures.places;
        outbox = c.in_ok-outbox.ensures.outbox;
        inbox = c.in_ok-outbox.ensures.inbox;
        room = subst (λ n. All (λ q. width (box q) ≤ n) (run each k c.args.s.patches.now)) (sym c.in_ok-make-2.ensures) wide;
        flows = subst (HasFlowsIn flows sides) patches c.in_ok-sides.ensures.flows;
      };
      words = record {
        numbered = numbered_run s each k count of c.args.cut.flows.now c.requires.cut.flows_are.flows c.in_ok-flows.field-0.words.items flows c.in_ok-flows.ensures.flows;
        once = c.in_ok-flows.ensures.once;
        within = c.in_ok-flows.ensures.words;
        totals = omega (arith, c.in_ok-vec-2.ensures.len, c.in_ok-vec-2.field-0.ok.0, c.len.ensures, c.in_ok-flows.field-0.words.ok.0);
      };
      layouts = record {
        puts = c.requires.layouts.puts;
        borders = c.requires.layouts.borders;
        masks = c.requires.layouts.masks;
        sides = sides_there s each k count of qs c.args.layouts.items c.deref.result.now sides c.requires.layouts patches c.deref.ensures.value c.in_ok-sides.ensures.puts;
        sizes = omega (arith, c.in_ok-vec.ensures.len, c.in_ok-vec.field-0.ok.0, c.count_reads.ensures, ap (λ (ts : List PatchLayout). length (places_read ts)) c.deref-3.ensures.value);
      };
    }
