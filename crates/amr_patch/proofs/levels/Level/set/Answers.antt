use Rattle.std.proofs.Common.{◌≡◌, ◌∙◌, ℕ, true, List, sym, ap, subst}
use Rattle.std.specs.declared.option.Option.TheVariants.{Some}
use Rattle.amr_box.specs.Cells.{Extent, holds}
use Rattle.amr_patch.specs.declared.patches.Patch.{Patch}
use Rattle.amr_patch.specs.Patches.{KeepsFrameAndFluxes, SameOtherValues, box, in_patches}
use Rattle.amr_patch.specs.Orders.{IsHolder}
use Rattle.amr_patch.specs.Levels.{level_of, patches_of}
use Rattle.amr_patch.proofs.LevelLaws.{apart_set, frames_set, ghosts_stay, masses_set_other, masses_set_same, none_here, order_set}
use Rattle.amr_patch.proofs.Lookups.{same_default}
use Rattle.amr_patch.proofs.levels.Level.set.Goals as goal

pub unreachable-requires : goal.unreachable-requires
unfolding level_of
unreachable-requires c =
    none_here c.args.self.now.patches.items c.args.c c.requires.of_level (ap (λ (ps : List Patch). in_patches ps c.args.c) (sym c.deref.ensures.value) ∙ sym c.in-None.ensures.some)

pub invariant_of-self-clause-apart : goal.invariant_of-self-clause-apart
invariant_of-self-clause-apart c =
    let self = c.args.self.now in
    let ps = self.patches.items in
    let k = c.in-Some.k in
    let p = c.set_mass.new.self in
    let found = subst (λ (qs : List Patch). IsHolder qs c.args.c k) c.deref.ensures.value c.in-Some.ensures.found in
    let e = c.set_mass.ensures.of_box ∙ ap (λ (q : Patch). box q) (c.index_mut.ensures.value ∙ same_default ps k c.index_mut.result.now p found.inside) in
    apart_set ps k p found.inside e self.apart

pub invariant_of-self-clause-ordered : goal.invariant_of-self-clause-ordered
invariant_of-self-clause-ordered c =
    let self = c.args.self.now in
    let ps = self.patches.items in
    let k = c.in-Some.k in
    let p = c.set_mass.new.self in
    let found = subst (λ (qs : List Patch). IsHolder qs c.args.c k) c.deref.ensures.value c.in-Some.ensures.found in
    let e = c.set_mass.ensures.of_box ∙ ap (λ (q : Patch). box q) (c.index_mut.ensures.value ∙ same_default ps k c.index_mut.result.now p found.inside) in
    order_set self.order ps k p found.inside e self.ordered

pub returns-clause-set : goal.returns-clause-set
unfolding level_of
returns-clause-set c =
    let self = c.args.self.now in
    let ps = self.patches.items in
    let k = c.in-Some.k in
    let p = c.set_mass.new.self in
    let found = subst (λ (qs : List Patch). IsHolder qs c.args.c k) c.deref.ensures.value c.in-Some.ensures.found in
    let e = c.set_mass.ensures.of_box ∙ ap (λ (q : Patch). box q) (c.index_mut.ensures.value ∙ same_default ps k c.index_mut.result.now p found.inside) in
    masses_set_same ps k c.args.c p found.inside e self.apart (ap (λ (b : Extent). holds b c.args.c) e ∙ found.holds_it p) ∙ ap (λ (m : ℕ). Some m) c.set_mass.ensures.set

pub returns-clause-others : goal.returns-clause-others
unfolding level_of
returns-clause-others c =
    λ d n.
    let self = c.args.self.now in
    let ps = self.patches.items in
    let k = c.in-Some.k in
    let p = c.set_mass.new.self in
    let found = subst (λ (qs : List Patch). IsHolder qs c.args.c k) c.deref.ensures.value c.in-Some.ensures.found in
    let old = c.index_mut.ensures.value ∙ same_default ps k c.index_mut.result.now p found.inside in
    let e = c.set_mass.ensures.of_box ∙ ap (λ (q : Patch). box q) old in
    let others = subst (λ (q : Patch). SameOtherValues c.args.c q p) old c.set_mass.ensures.others in
    masses_set_other ps k c.args.c d p found.inside e others n

pub returns-clause-patches : goal.returns-clause-patches
unfolding patches_of
returns-clause-patches c =
    let self = c.args.self.now in
    let ps = self.patches.items in
    let k = c.in-Some.k in
    let p = c.set_mass.new.self in
    let q = c.index_mut.result.now in
    let found = subst (λ (qs : List Patch). IsHolder qs c.args.c k) c.deref.ensures.value c.in-Some.ensures.found in
    let holds_it : holds (box q) c.args.c ≡ true = ap (λ (r : Patch). holds (box r) c.args.c) c.index_mut.ensures.value ∙ found.holds_it q in
    let kept : KeepsFrameAndFluxes q p = record {
      of_box = c.set_mass.ensures.of_box;
      ghosts = ghosts_stay c.args.c q p holds_it c.set_mass.ensures.others;
      marks = c.set_mass.ensures.marks;
      fluxes = c.set_mass.ensures.fluxes;
    } in
    frames_set ps k p q found.inside c.index_mut.ensures.value kept
