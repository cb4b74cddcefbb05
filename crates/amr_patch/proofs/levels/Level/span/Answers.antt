use Rattle.std.proofs.Common.{◌∙◌, List, length, sym, ap, subst}
use Rattle.amr_patch.specs.declared.patches.Patch.{Patch}
use Rattle.std.specs.Prelude.{pos, ◌+ℤ◌, ◌-ℤ◌, slice_index}
use Rattle.amr_patch.specs.Patches.{box, in_patches}
use Rattle.amr_patch.specs.Orders.{IsHolder}
use Rattle.amr_patch.specs.Levels.{level_of, patches_of}
use Rattle.amr_patch.proofs.LevelLaws.{along_span, none_here, one_holder_here}
use Rattle.amr_patch.proofs.levels.Level.span.Goals as goal

pub unreachable-requires : goal.unreachable-requires
unfolding level_of
unreachable-requires c =
    none_here c.args.self.now.patches.items c.args.c c.requires (ap (λ (ps : List Patch). in_patches ps c.args.c) (sym c.deref.ensures.value) ∙ sym c.in-None.ensures.some)

pub returns-clause-masses : goal.returns-clause-masses
unfolding level_of
returns-clause-masses c =
    λ k lt.
    let self = c.args.self.now in
    let found = subst (λ (qs : List Patch). IsHolder qs c.args.c c.in-Some.k) c.deref.ensures.value c.in-Some.ensures.found in
    along_span self.patches.items c.args.c c.in-Some.k k (slice_index c.masses_from.result.now k) (length c.masses_from.result.now) c.index.result.now self.apart found c.index.ensures c.masses_from.ensures.count lt (c.masses_from.ensures.masses k lt)

pub returns-clause-reach : goal.returns-clause-reach
unfolding patches_of
returns-clause-reach c =
    λ j d lt h.
    let self = c.args.self.now in
    let found = subst (λ (qs : List Patch). IsHolder qs c.args.c c.in-Some.k) c.deref.ensures.value c.in-Some.ensures.found in
    let e = one_holder_here self.patches.items c.args.c c.in-Some.k j c.index.result.now d self.apart found c.index.ensures lt h in
    c.masses_from.ensures.count ∙ ap (λ (q : Patch). (box q).hi.x +ℤ pos 1 -ℤ c.args.c.x) e
