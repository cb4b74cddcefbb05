use Rattle.amr_advance.proofs.FilledFrames.{spans_of, none_carry}
use Rattle.std.proofs.Common.{◌≡◌, ◌∙◌, ◌+◌, ◌*◌, ◌<◌, ◌≤◌, false, List, length, get_or, refl, sym, subst, arith, Bool, []}
use Rattle.std.specs.Global.{Box}
use Rattle.std.proofs.lemmas.Bool.{false≢true}
use Rattle.amr_def.specs.Domain.{domain}
use Rattle.amr_ghost.specs.Parts.{IsParted}
use Rattle.amr_ghost.proofs.PartLaws.{plan_small}
use Rattle.amr_layout.specs.Arounds.{around_of}
use Rattle.amr_lots.specs.declared.lot.Lot.{Lot}
use Rattle.amr_advance.specs.declared.lots.Lots.{Lots}
use Rattle.amr_advance.specs.Cuts.{AreLayoutsFrom}
use Rattle.amr_advance.specs.Lots.{IsLotOf, PlansUnlessFilled}
use Rattle.amr_advance.proofs.InDomain.{all_lie}
use Rattle.amr_advance.proofs.MadeLots.{layouts_made, several_are}
use Rattle.amr_advance.proofs.lots.several_lots.Goals as goal

pub part_frames-requires-clause-enough : goal.part_frames-requires-clause-enough
part_frames-requires-clause-enough c = plan_small (domain c.args.s.problem.now c.args.s.level) c.args.s.patches.now c.args.frames.now c.lot_size-each.result c.lot_count-runs.result (spans_of c.args.s.filled (domain c.args.s.problem.now c.args.s.level) c.args.s.patches.now c.args.frames.now c.requires.frames)
    (subst (λ e. length c.args.s.patches.now ≤ c.lot_count-runs.result * e) (sym c.lot_size-each.ensures.size) c.lot_count-runs.ensures.enough)

pub plan-requires-clause-inside : goal.plan-requires-clause-inside
plan-requires-clause-inside c = all_lie c.args.s.problem.now c.args.s.level c.args.s.patches.now c.requires.level.inside

pub lots_for-requires-clause-cut : goal.lots_for-requires-clause-cut
lots_for-requires-clause-cut c = record {
  short = omega (arith, c.requires.small, c.lot_size-each.ensures.few);
  many = omega (arith, c.requires.small, c.lot_count-runs.ensures.few);
  tight = subst (λ e. c.lot_count-runs.result * e < length c.args.s.patches.now + e) (sym c.lot_size-each.ensures.size) c.lot_count-runs.ensures.tight;
  small = c.requires.small;
  few = c.requires.few;
  flows_are = c.requires.flows;
  copies = c.in_ok-parts.ensures.count;
  outer = c.in_ok-parts.ensures.outer_count;
}

pub lots_for-requires-clause-layouts : goal.lots_for-requires-clause-layouts
lots_for-requires-clause-layouts c =
    let made = c.in_ok-places.ensures in
    subst (AreLayoutsFrom (around_of c.args.s) c.lot_size-each.result 0) (sym c.deref_mut.ensures.value)
    (layouts_made (around_of c.args.s) c.lot_size-each.result c.in_ok-places.field-0.patches.items c.requires.edges made.puts made.border made.masks)

pub returns-clause-lots : goal.returns-clause-lots
returns-clause-lots c =
    let s = around_of c.args.s in
    let each = c.lot_size-each.result in
    let runs = c.lot_count-runs.result in
    let parts = c.in_ok-parts.parts in
    let xs : List (Box Lot) = c.in_ok-lots.lots.items in
    let count : length xs ≡ runs = c.in_ok-lots.ensures.count in
    let t : Lots = record { level = c.args.s.level; wanted = c.args.wanted; each = each; shape = record { places = c.in_ok-places.field-0.places; words = 2 + 2 * length c.args.s.cells.now }; packed = c.args.s.filled; valued = false; lots = c.in_ok-lots.lots; totals = c.in_ok-vec.field-0 } in
    record {
      of_level = refl;
      some = c.lot_size-each.ensures.some;
      enough = subst (λ n. length c.args.s.patches.now ≤ n * each) (sym count) (subst (λ e. length c.args.s.patches.now ≤ runs * e) (sym c.lot_size-each.ensures.size) c.lot_count-runs.ensures.enough);
      count = λ _. count ∙ c.lot_count-runs.ensures.count;
      small = c.requires.small;
      many = omega (arith, count, c.lot_count-runs.ensures.few, c.requires.small);
      edges = c.requires.edges;
      plan = c.args.frames.now;
      planned = c.requires.frames;
      parts = parts;
      parted = subst (λ n. IsParted c.args.frames.now each n parts) (sym count) c.in_ok-parts.ensures;
      made = several_are s t parts c.requires.several (record {
        tight = subst (λ n. n * each < length c.args.s.patches.now + each) (sym count) (subst (λ e. runs * e < length c.args.s.patches.now + e) (sym c.lot_size-each.ensures.size) c.lot_count-runs.ensures.tight);
        places = c.in_ok-places.ensures.places;
        words = refl;
        totals = omega (arith, c.in_ok-vec.ensures.len, c.in_ok-vec.field-0.ok.0);
        plan = c.plan.ensures.plan;
        lots = λ k x lt. subst (λ n. IsLotOf s each k n parts (get_or xs k x).value) (sym count) (c.in_ok-lots.ensures.lots k x (omega (arith, lt, count)));
      });
    }

pub returns-clause-masses : goal.returns-clause-masses
returns-clause-masses c = λ p l own old.
    let count = c.in_ok-lots.ensures.count in
    record {
      packed = λ is. λ k x lt.
          let none : c.args.frames.now.spans.items ≡ [] = subst (λ (b : Bool). PlansUnlessFilled b (domain c.args.s.problem.now c.args.s.level) c.args.s.patches.now c.args.frames.now) is c.requires.frames in
          let lot = c.in_ok-lots.ensures.lots k x (omega (arith, lt, count)) in
          none_carry c.args.frames.now c.lot_size-each.result c.lot_count-runs.result c.in_ok-parts.parts none c.in_ok-parts.ensures own k (get_or c.in_ok-lots.lots.items k x).value.workspace.copies
          (get_or c.in_ok-lots.lots.items k x).value.workspace.outbox.items (omega (arith, lt, count)) lot.serves.outbox;
      valued = λ is. absurd (false≢true is);
    }

pub returns-clause-count : goal.returns-clause-count
returns-clause-count c = c.in_ok-lots.ensures.count ∙ c.lot_count-runs.ensures.count
