use Rattle.std.proofs.Common.{◌≡◌, ◌∙◌, ℕ, ◌<◌, ◌≤◌, cond, get_or, ap, below_more, refl, arith}
use Rattle.std.specs.Ordering.{MatchOrdering, is_lt, nat_cmp, ord_max}
use Rattle.std.specs.declared.cmp.Ordering.{Ordering}
use Rattle.std.specs.declared.cmp.Ordering.TheVariants.{Equal, Greater, Less}
use Rattle.std.proofs.lemmas.Cmp.{ranked}
use Rattle.std.proofs.lemmas.List.{get_or_default}
use Rattle.amr_box.specs.Cells.{width}
use Rattle.amr_patch.specs.declared.patches.Patch.{Patch}
use Rattle.amr_patch.specs.Patches.{box}
use Rattle.amr_advance.proofs.workspaces.widest_of.Goals as goal

by_order : (a b : ℕ) (o : Ordering) → MatchOrdering o (b < a) (b ≡ a) (a < b) → (a ≤ cond (is_lt o) a b) × (b ≤ cond (is_lt o) a b)
by_order a b Less h = (omega arith, omega (arith, h))
by_order a b Equal h = (omega (arith, h), omega arith)
by_order a b Greater h = (omega (arith, h), omega arith)

most : (a b : ℕ) → (a ≤ ord_max nat_cmp a b) × (b ≤ ord_max nat_cmp a b)
most a b = by_order a b (nat_cmp b a) (ranked b a (nat_cmp b a) refl)

pub loop-patch-preserved : goal.loop-patch-preserved
loop-patch-preserved c = λ j q lt.
    let qs = c.args.patches.now in
    let i = c.loop-patch.patch-index in
    let m = most c.loop-patch.widest c.width.result in
    below_more (λ n. (r : Patch) → width (box (get_or qs n r)) ≤ c.max-widest.result) i
    (λ n low r. let h = c.loop-patch.invariant n r low in omega (arith, h, m.0, c.max-widest.ensures))
    (λ r. let at = ap width (c.bx.ensures.value ∙ ap box (c.patch-item.is ∙ get_or_default qs i c.patch-item.result r c.loop-patch-test.true)) in omega (arith, at, m.1, c.width.ensures.value, c.max-widest.ensures))
    j lt q

pub returns : goal.returns
returns c = λ j q lt. c.loop-patch.invariant j q (omega (arith, lt, c.loop-patch-test.false))
