use Rattle.std.proofs.Common.{◌+◌, ◌^◌, ◌<◌, ◌≡◌, false, length, refl, sym, ap, ◌∙◌, subst, arith}
use Rattle.std.specs.Prelude.{slice_index, unsigned_abs}
use Rattle.amr_box.specs.declared.Face.{Face}
use Rattle.amr_patch.specs.Patches.{box, flux_in}
use Rattle.amr_faces.specs.Faces.{flux_beside}
use Rattle.amr_flux.specs.PatchSides.{Side, includes, side_of}
use Rattle.amr_lots.proofs.Adding.{flows_alike, none_added, none_lie}
use Rattle.amr_lots.proofs.SweptPatch.{edges_on}
use Rattle.amr_lots.proofs.patches.sweep_patch.Goals as goal

pub returns-then-are_none-clause-swept : goal.returns-then-are_none-clause-swept
returns-then-are_none-clause-swept c =
    let none : (x : Side) → includes c.args.sides x ≡ false = c.are_none.ensures.0 c.if-are_none.true in
    record {
      of_box = refl;
      values = λ k. refl;
      marks = λ k. refl;
      fluxes = λ f edge on. absurd (let wrong = sym on ∙ none (side_of (box c.args.patch.now) f) in cc);
    }

pub returns-then-are_none-clause-added : goal.returns-then-are_none-clause-added
returns-then-are_none-clause-added c =
    let none : (x : Side) → includes c.args.sides x ≡ false = c.are_none.ensures.0 c.if-are_none.true in
    let few : length c.args.flows.now ≡ 0 = none_lie c.args.sides (box c.args.patch.now) c.args.flows.now none c.requires.adds.lie in
    record { count = refl; adds = λ word. omega (arith, none_added (λ (f : Face). unsigned_abs (flux_beside c.args.p.now c.args.l c.args.patch.now f)) word c.args.flows.now few) }

pub add_through-requires-clause-edges : goal.add_through-requires-clause-edges
add_through-requires-clause-edges c = edges_on c.args.p.now c.args.l c.args.patch.now c.sweep.new.patch c.sweep.ensures.of_box c.args.flows.now c.requires.adds.edges

pub add_through-requires-clause-fits : goal.add_through-requires-clause-fits
add_through-requires-clause-fits c = λ word.
    let same = flows_alike c.args.patch.now c.args.sides (flux_in c.sweep.new.patch) (flux_beside c.args.p.now c.args.l c.args.patch.now) word c.args.flows.now c.requires.adds.edges c.requires.adds.lie c.sweep.ensures.fluxes in
    subst (λ n. slice_index c.args.totals.now word + n < 2 ^ 63) (sym same) (c.requires.adds.fits word)

pub returns-clause-swept : goal.returns-clause-swept
returns-clause-swept c = record { of_box = c.sweep.ensures.of_box; values = c.sweep.ensures.values; marks = c.sweep.ensures.marks; fluxes = c.sweep.ensures.fluxes }

pub returns-clause-added : goal.returns-clause-added
returns-clause-added c = record {
  count = c.add_through.ensures.count;
  adds = λ word.
      c.add_through.ensures.totals word
      ∙ ap (λ n. slice_index c.args.totals.now word + n) (flows_alike c.args.patch.now c.args.sides (flux_in c.sweep.new.patch) (flux_beside c.args.p.now c.args.l c.args.patch.now) word c.args.flows.now c.requires.adds.edges c.requires.adds.lie c.sweep.ensures.fluxes);
}
