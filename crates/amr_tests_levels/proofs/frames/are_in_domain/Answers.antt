use Rattle.std.proofs.Common.{◌≡◌, ◌<◌, length, IsTrue, get_or, below_more, sym, subst, ◌∙◌, arith}
use Rattle.amr_box.specs.Cells.{holds}
use Rattle.amr_def.specs.Domain.{Domain, domain_of, in_domain}
use Rattle.amr_patch.specs.declared.patches.Patch.{Patch}
use Rattle.amr_patch.specs.Patches.{box}
use Rattle.amr_patch.proofs.Lookups.{same_default}
use Rattle.amr_ghost.specs.Frames.{AreInDomain}
use Rattle.amr_tests_levels.proofs.ApartPatches.{patches_in_domain}
use Rattle.amr_tests_levels.proofs.frames.are_in_domain.Goals as goal

pub loop-patch-preserved : goal.loop-patch-preserved
loop-patch-preserved c i q t k s =
    let ps = c.args.patches.now in
    let n = c.loop-patch.patch-index in
    let there : n < length ps = omega arith in
    let a : get_or ps n q ≡ c.patch-item.result = same_default ps n q c.patch-item.result there ∙ sym c.patch-item.is in
    below_more (λ m. IsTrue (holds (box (get_or ps m q)) k) → IsTrue (in_domain (domain_of c.domain-dom.result) k)) n (λ m h w. c.loop-patch.invariant m q h k w) (λ w. c.is_in_domain.ensures c.if-not-is_in_domain.false k (subst (λ (e : Patch). IsTrue (holds (box e) k)) a w)) i t s

pub returns : goal.returns
returns c yes_all =
    let ps = c.args.patches.now in
    subst (λ (d : Domain). AreInDomain d ps) c.domain-dom.ensures (patches_in_domain (domain_of c.domain-dom.result) ps (λ i q t. c.loop-patch.invariant i q (omega arith)))
