use Rattle.std.proofs.Common.{◌∙◌, List, subst}
use Rattle.amr_patch.specs.declared.patches.Patch.{Patch}
use Rattle.amr_patch.specs.Pairwise.{Pairwise}
use Rattle.amr_patch.specs.Patches.{IsCopy}
use Rattle.amr_patch.specs.Levels.{level_of, patches_of}
use Rattle.amr_patch.proofs.Standing.{order_of_boxes}
use Rattle.amr_patch.proofs.LevelLaws.{copy_apart, copy_boxes, copy_masses}
use Rattle.amr_patch.proofs.levels.Level.copy.Goals as goal

pub invariant_of-result-clause-apart : goal.invariant_of-result-clause-apart
invariant_of-result-clause-apart c =
    let self = c.args.self.now in
    let copies = subst (λ (ps : List Patch). Pairwise IsCopy ps c.in_ok-patches.patches.items) c.deref.ensures.value c.in_ok-patches.ensures in
    copy_apart self.patches.items c.in_ok-patches.patches.items copies self.apart

pub invariant_of-result-clause-ordered : goal.invariant_of-result-clause-ordered
invariant_of-result-clause-ordered c =
    let self = c.args.self.now in
    let copies = subst (λ (ps : List Patch). Pairwise IsCopy ps c.in_ok-patches.patches.items) c.deref.ensures.value c.in_ok-patches.ensures in
    order_of_boxes self.order self.patches.items c.in_ok-patches.patches.items (copy_boxes self.patches.items c.in_ok-patches.patches.items copies) self.ordered

pub returns-clause-level : goal.returns-clause-level
unfolding level_of
returns-clause-level c =
    let self = c.args.self.now in
    let copies = subst (λ (ps : List Patch). Pairwise IsCopy ps c.in_ok-patches.patches.items) c.deref.ensures.value c.in_ok-patches.ensures in
    let boxes = c.in_ok-boxes.ensures.items ∙ c.deref-2.ensures.value in
    let masses = copy_masses self.patches.items c.in_ok-patches.patches.items copies in
    λ i. record { boxes = boxes i; masses = masses i }

pub returns-clause-patches : goal.returns-clause-patches
unfolding patches_of
returns-clause-patches c = subst (λ (ps : List Patch). Pairwise IsCopy ps c.in_ok-patches.patches.items) c.deref.ensures.value c.in_ok-patches.ensures
