use Rattle.std.proofs.Common.{◌≡◌, ◌∙◌, ◌+◌, ◌++◌, ◌∷◌, [], List, sym, subst, take, arith, get_or}
use Rattle.std.proofs.lemmas.List.{take_all, take_more}
use Rattle.amr_patch.specs.declared.levels.Level.{Level}
use Rattle.amr_patch.specs.Levels.{IsLevelCopy}
use Rattle.amr_patch.specs.Pairwise.{Pairwise}
use Rattle.amr_patch.proofs.CopiedLevels.{copy_of, same_levels}
use Rattle.amr_patch.proofs.LevelLaws.{pairwise_push}
use Rattle.amr_patch.proofs.level_copies.copied_levels.Goals as goal

pub loop-level-preserved : goal.loop-level-preserved
loop-level-preserved c =
    let ks = c.args.levels.now in
    let k = c.loop-level.level-index in
    let x = c.level-item.result in
    let y = c.in_ok-copy.field-0 in
    let more = pairwise_push IsLevelCopy (take k ks) c.loop-level.copies.items (get_or ks k x) y c.loop-level.invariant
    (copy_of x (get_or ks k x) y c.level-item.is (record { level = c.in_ok-copy.ensures.level; patches = c.in_ok-copy.ensures.patches })) in
    let items : c.push.new.self.items ≡ c.loop-level.copies.items ++ y ∷ [] = c.in_ok-push.ensures.items in
    subst (λ (ls : List Level). Pairwise IsLevelCopy (take (k + 1) ks) ls) (sym items)
    (subst (λ (xs : List Level). Pairwise IsLevelCopy xs (c.loop-level.copies.items ++ y ∷ [])) (sym (take_more ks k x (omega arith))) more)

pub returns-clause-copies : goal.returns-clause-copies
returns-clause-copies c =
    subst (λ (xs : List Level). Pairwise IsLevelCopy xs c.loop-level.copies.items) (take_all c.loop-level.level-index c.args.levels.now c.loop-level-test.false) c.loop-level.invariant

pub returns-clause-levels : goal.returns-clause-levels
returns-clause-levels c =
    same_levels c.args.levels.now c.loop-level.copies.items
    (subst (λ (xs : List Level). Pairwise IsLevelCopy xs c.loop-level.copies.items) (take_all c.loop-level.level-index c.args.levels.now c.loop-level-test.false) c.loop-level.invariant)
