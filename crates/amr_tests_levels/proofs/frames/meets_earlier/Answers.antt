use Rattle.std.proofs.Common.{◌≡◌, ◌<◌, length, IsTrue, get_or, below_more, sym, subst, ◌∙◌, arith}
use Rattle.amr_box.specs.Cells.{holds}
use Rattle.amr_patch.specs.declared.patches.Patch.{Patch}
use Rattle.amr_patch.specs.Patches.{box}
use Rattle.amr_patch.proofs.Lookups.{same_default}
use Rattle.amr_tests_levels.proofs.frames.meets_earlier.Goals as goal

pub loop-j-preserved : goal.loop-j-preserved
loop-j-preserved c i d t k s u =
    let ps = c.args.patches.now in
    let last : c.args.k < length ps = c.requires in
    let earlier : c.loop-j.j < length ps = omega arith in
    let a : get_or ps c.loop-j.j d ≡ c.index-patches-j.result = same_default ps c.loop-j.j d c.index-patches-j.result earlier ∙ sym c.index-patches-j.is in
    let b : get_or ps c.args.k d ≡ c.index-patches-k.result = same_default ps c.args.k d c.index-patches-k.result last ∙ sym c.index-patches-k.is in
    let P = λ (q : Patch). IsTrue (holds (box q) k) in
    below_more (λ m. IsTrue (holds (box (get_or ps m d)) k) → ⊥) c.loop-j.j (λ m h w. c.loop-j.invariant m d h k w u) (λ w. c.meet.ensures c.if-meet.false k (subst P a w) (subst P b u)) i t s
