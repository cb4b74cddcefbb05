use Rattle.std.proofs.Common.{sym, subst}
use Rattle.std.specs.Global.{Box}
use Rattle.std.specs.List.{All, AllZip}
use Rattle.std.specs.Option.{option_copied}
use Rattle.std.specs.Vec.{with_items}
use Rattle.std.proofs.lemmas.List.Elements.{length_all_zip}
use Rattle.amr_def.specs.Domain.{domain}
use Rattle.amr_ghost.specs.Frames.{old_masses}
use Rattle.amr_ghost.specs.Outer.{HasOuterPlaces, IsOuterSpan}
use Rattle.amr_lots.specs.declared.lot.Lot.{Lot}
use Rattle.amr_patch.specs.Patches.{masses_in}
use Rattle.amr_advance.specs.Outer.{IsReadied}
use Rattle.amr_advance.proofs.LotsHanded.{when_lent}
use Rattle.amr_advance.proofs.OuterLots.{all_places, all_readied, all_spans, carry_kept, lots_kept, readied_values, values_or}
use Rattle.amr_advance.proofs.level.ready_lots.Goals as goal
use Rattle.amr_advance.specs.Steps.{around_of}

pub returns-then-lots : goal.returns-then-lots
returns-then-lots c = record {
  lots = c.requires.lots;
  packed = c.requires.masses.packed;
  values = values_or c.args.given.problem.now c.args.given.level (old_masses (option_copied c.args.given.old)) c.args.lots.now.lots.items (c.requires.masses.valued c.if-lots.true);
}

pub ready_outer-requires-clause-level : goal.ready_outer-requires-clause-level
ready_outer-requires-clause-level c = c.requires.step.level.level

pub ready_outer-requires-clause-spans : goal.ready_outer-requires-clause-spans
ready_outer-requires-clause-spans c =
    subst (All (λ (x : Box Lot). All (IsOuterSpan (domain c.args.given.problem.now c.args.given.level)) x.value.workspace.outer.spans.items)) (sym c.deref_mut.ensures.value)
    (all_spans (around_of c.args.given c.args.patches.now) (old_masses (option_copied c.args.given.old)) c.args.lots.now c.requires.step.level c.requires.lots)

pub ready_outer-requires-clause-places : goal.ready_outer-requires-clause-places
ready_outer-requires-clause-places c =
    subst (All (λ (x : Box Lot). HasOuterPlaces x.value.workspace.outer)) (sym c.deref_mut.ensures.value)
    (all_places (around_of c.args.given c.args.patches.now) (old_masses (option_copied c.args.given.old)) c.args.lots.now c.requires.step.level c.requires.lots)

pub returns : goal.returns
returns c =
    let p = c.args.given.problem.now in
    let l = c.args.given.level in
    let m = old_masses (option_copied c.args.given.old) in
    let s = around_of c.args.given c.args.patches.now in
    let t = c.args.lots.now in
    let v = t.lots in
    let w = with_items v c.ready_outer.new.lots in
    let readied : AllZip (IsReadied p l m) v.items w.items = when_lent (AllZip (IsReadied p l m)) v c.deref_mut.result.now c.ready_outer.new.lots c.deref_mut.ensures.value (length_all_zip (IsReadied p l m) c.deref_mut.result.now c.ready_outer.new.lots c.ready_outer.ensures) c.ready_outer.ensures in
    let kept = all_readied p l m v.items w.items readied in
    record {
      lots = lots_kept s t w t.packed t.valued kept c.requires.lots;
      packed = λ packed. carry_kept s t w t.packed t.valued kept (masses_in c.args.patches.now) (c.requires.masses.packed packed);
      values = readied_values p l m v.items w.items readied;
    }
