use Rattle.std.proofs.Common.{◌+◌, ◌||◌, ◌∙◌, List, ap, take, subst, sym}
use Rattle.std.specs.List.{list_any}
use Rattle.std.proofs.lemmas.List.{take_all}
use Rattle.std.proofs.lemmas.List.Folds.{list_any_more}
use Rattle.amr_def.specs.Domain.{domain_of}
use Rattle.amr_patch.specs.declared.patches.Patch.{Patch}
use Rattle.amr_ghost.proofs.BoxSides.{lies_in}
use Rattle.amr_criterion.specs.Pairs.{IsJoined}
use Rattle.amr_criterion.specs.Tagged.{is_tagged_in}
use Rattle.amr_criterion.proofs.Joins.{joined_twice}
use Rattle.amr_criterion.proofs.patches.tag_patches.Goals as goal

pub tag_patch-requires : goal.tag_patch-requires
tag_patch-requires c = lies_in (domain_of c.args.dom.now) c.args.patches.now c.loop-k.k c.index-patches-k.result c.requires c.loop-k-test.true c.index-patches-k.is c.index-patches-k.result.near.wide c.index-patches-k.result.near.high

pub loop-k-preserved : goal.loop-k-preserved
loop-k-preserved c =
    let d = domain_of c.args.dom.now in
    let t = c.args.threshold in
    let ps = c.args.patches.now in
    let k = c.loop-k.k in
    let q = c.index-patches-k.result in
    joined_twice (λ a. list_any (λ r. is_tagged_in t d r a) (take k ps)) (is_tagged_in t d q) (λ a. list_any (λ r. is_tagged_in t d r a) (take (k + 1) ps)) c.args.tags.now c.loop-k.tags c.tag_patch.new.tags
    (λ a. list_any_more (λ r. is_tagged_in t d r a) ps k q c.loop-k-test.true ∙ ap (λ r. list_any (λ r. is_tagged_in t d r a) (take k ps) || is_tagged_in t d r a) (sym c.index-patches-k.is))
    c.loop-k.invariant
    c.tag_patch.ensures

pub returns : goal.returns
returns c =
    let d = domain_of c.args.dom.now in
    subst (λ (ps : List Patch). IsJoined (λ a. list_any (λ r. is_tagged_in c.args.threshold d r a) ps) c.args.tags.now c.loop-k.tags) (take_all c.loop-k.k c.args.patches.now c.loop-k-test.false) c.loop-k.invariant
