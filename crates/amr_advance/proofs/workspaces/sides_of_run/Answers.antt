use Rattle.std.proofs.Common.{◌≡◌, ◌∙◌, ◌<◌, List, [], ◌∷◌, ◌++◌, length, length-append, get_or, ap, subst, arith}
use Rattle.std.proofs.lemmas.List.{get_or_default}
use Rattle.amr_box.specs.Cells.{Extent}
use Rattle.amr_flux.specs.declared.fluxes.PatchSides.{PatchSides}
use Rattle.amr_layout.specs.declared.PatchLayout.{PatchLayout}
use Rattle.amr_layout.specs.LevelFlowLists.{flows_at}
use Rattle.amr_lots.specs.Lots.{LieOn}
use Rattle.amr_patch.specs.declared.patches.Patch.{Patch}
use Rattle.amr_patch.specs.Patches.{box}
use Rattle.amr_advance.specs.Lots.{PutsLieOn}
use Rattle.amr_advance.proofs.MadeMessages.{one_more}
use Rattle.amr_advance.proofs.workspaces.sides_of_run.Goals as goal

pub loop-k-preserved : goal.loop-k-preserved
loop-k-preserved c =
    let k = c.loop-k.k in
    let done = c.loop-k.invariant in
    let qs : List Patch = c.args.patches.now in
    let ts : List PatchLayout = c.args.layouts.now in
    let ds : List PatchSides = c.loop-k.sides.items in
    let d : PatchSides = c.sides_of.result in
    let pushed : c.push_reserved.new.self.items ≡ ds ++ d ∷ [] = c.push_reserved.ensures.items in
    let of_box : (q : Patch) → c.bx.result ≡ box (get_or qs k q) = λ q. c.bx.ensures.value ∙ ap box (c.index-patches-k.is ∙ get_or_default qs k c.index-patches-k.result q c.loop-k-test.true) in
    record {
      count = omega (arith, ap length pushed, length-append ds (d ∷ []), done.count);
      room = omega (arith, done.room, c.push_reserved.ensures.capacity);
      flows = one_more (λ j (x : PatchSides). (q : Patch) → LieOn x (box (get_or qs j q)) (flows_at c.args.flows.now j)) ds c.push_reserved.new.self.items d k done.count pushed done.flows
          (λ q. subst (LieOn d (box (get_or qs k q))) c.of.ensures (subst (λ (b : Extent). LieOn d b c.of.result.now) (of_box q) c.sides_of.ensures.flows));
      puts = one_more (λ j (x : PatchSides). (q : Patch) (t : PatchLayout) → j < length ts → PutsLieOn x (box (get_or qs j q)) (get_or ts j t).puts.items) ds c.push_reserved.new.self.items d k done.count pushed done.puts
          (λ q t lt. subst (PutsLieOn d (box (get_or qs k q))) (c.puts_at.ensures t lt) (subst (λ (b : Extent). PutsLieOn d b c.puts_at.result.now) (of_box q) c.sides_of.ensures.puts));
    }

pub returns-clause-flows : goal.returns-clause-flows
returns-clause-flows c = record {
  there = c.requires;
  count = omega (arith, c.loop-k.invariant.count, c.loop-k-test.false);
  lie = λ k q d lt. c.loop-k.invariant.flows k d (omega (arith, lt, c.loop-k-test.false)) q;
}

pub returns-clause-puts : goal.returns-clause-puts
returns-clause-puts c = λ k q t d lt there. c.loop-k.invariant.puts k d (omega (arith, lt, c.loop-k-test.false)) q t there
