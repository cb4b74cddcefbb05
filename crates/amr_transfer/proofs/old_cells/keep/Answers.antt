use Rattle.std.proofs.Common.{◌∙◌, ◌+◌, take, ℕ, List, IsTrue, refl, sym, ap, subst}
use Rattle.std.specs.Prelude.{is_some}
use Rattle.std.specs.declared.option.Option.{Option}
use Rattle.std.specs.Option.{unwrap_or}
use Rattle.std.proofs.lemmas.List.{take_all}
use Rattle.amr_box.specs.Cells.{Extent, holds}
use Rattle.amr_def.specs.State.{mass_of}
use Rattle.amr_patch.proofs.Lookups.{some_mass}
use Rattle.amr_patch.specs.declared.patches.Patch.{Patch}
use Rattle.amr_patch.specs.Patches.{box, in_patches, mass_in, masses_in}
use Rattle.amr_transfer.proofs.GivenCells.{given_as, given_more, given_none}
use Rattle.amr_transfer.proofs.PatchLists.{in_more, mass_there}
use Rattle.amr_transfer.proofs.old_cells.keep.Goals as goal

pub loop-q-init : goal.loop-q-init
loop-q-init c =
    let qs = c.reaching-q-items.result.now in
    given_none (in_patches (take 0 qs)) (mass_of (masses_in qs)) c.args.patch.now (λ d h. refl)

pub loop-q-preserved : goal.loop-q-preserved
loop-q-preserved c =
    let qs = c.reaching-q-items.result.now in
    let k = c.loop-q.q-index in
    let q = c.q-item.result in
    let m = mass_of (masses_in qs) in
    let same = given_as (holds (box q)) (holds (box q)) (mass_in q) m c.loop-q.patch c.keep_patch.new.patch (λ d h. refl) (λ d h on. mass_there qs k q d c.reaching-q-items.ensures.apart c.loop-q-test.true c.q-item.is on) c.keep_patch.ensures in
    given_more (in_patches (take k qs)) (holds (box q)) (in_patches (take (k + 1) qs)) m c.args.patch.now c.loop-q.patch c.keep_patch.new.patch c.loop-q.invariant same (λ d. in_more qs k q d c.loop-q-test.true c.q-item.is)

pub returns : goal.returns
returns c =
    let old = c.args.old.now in
    let qs = c.reaching-q-items.result.now in
    let k = c.loop-q.q-index in
    given_as (in_patches (take k qs)) (λ d. is_some (masses_in old d)) (mass_of (masses_in qs)) (mass_of (masses_in old)) c.args.patch.now c.loop-q.patch
    (λ d h.
    let there = subst (λ (b : Extent). IsTrue (holds b d)) (sym c.bx.ensures.value) h in
    ap (λ (o : Option ℕ). is_some o) (sym (c.reaching-q-items.ensures.masses d there)) ∙ some_mass qs d ∙ ap (λ (ps : List Patch). in_patches ps d) (sym (take_all k qs c.loop-q-test.false)))
    (λ d h on.
    let there = subst (λ (b : Extent). IsTrue (holds b d)) (sym c.bx.ensures.value) h in
    ap (λ (o : Option ℕ). unwrap_or o 0) (c.reaching-q-items.ensures.masses d there))
    c.loop-q.invariant
