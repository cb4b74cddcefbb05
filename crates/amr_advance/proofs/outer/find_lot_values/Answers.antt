use Rattle.std.proofs.Common.{◌∙◌, ap, sym, subst}
use Rattle.std.specs.List.{All}
use Rattle.amr_def.specs.Domain.{domain}
use Rattle.amr_ghost.specs.Outer.{HasOuterPlaces, IsOuterSpan}
use Rattle.amr_lots.specs.declared.lot.Lot.{Lot}
use Rattle.amr_advance.specs.Outer.{lot_with_outer}
use Rattle.amr_advance.proofs.outer.find_lot_values.Goals as goal

pub find_values-requires-clause-spans : goal.find_values-requires-clause-spans
find_values-requires-clause-spans c = subst (λ (x : Lot). All (IsOuterSpan (domain c.args.p.now c.args.l)) x.workspace.outer.spans.items) (sym c.deref_mut.ensures.value) c.requires.spans

pub find_values-requires-clause-places : goal.find_values-requires-clause-places
find_values-requires-clause-places c = subst (λ (x : Lot). HasOuterPlaces x.workspace.outer) (sym c.deref_mut.ensures.value) c.requires.places

pub returns : goal.returns
returns c = record {
  spans = c.find_values.ensures.spans ∙ (λ i. (c.deref_mut.ensures.value i).workspace.outer.spans);
  coarser = c.find_values.ensures.coarser ∙ (λ i. (c.deref_mut.ensures.value i).workspace.outer.coarser);
  places = c.find_values.ensures.places;
  values = c.find_values.ensures.found;
  others = ap (lot_with_outer c.find_values.new.self) c.deref_mut.ensures.value;
}
