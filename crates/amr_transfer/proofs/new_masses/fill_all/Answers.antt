use Rattle.std.proofs.Common.{◌∙◌, ◌<◌, get_or, get_or-set_other, get_or-set_same, set, below_more, length, sym, subst, arith}
use Rattle.amr_patch.specs.declared.patches.Patch.{Patch}
use Rattle.amr_patch.specs.Levels.{level_of}
use Rattle.std.proofs.lemmas.List.Folds.{list_any_at}
use Rattle.amr_box.specs.Cells.{holds}
use Rattle.amr_patch.specs.Patches.{KeepsFrameAndFluxes, box, masses_in}
use Rattle.amr_patch.proofs.LevelLaws.{itself}
use Rattle.amr_patch.proofs.Keeping.{kept_twice}
use Rattle.amr_transfer.specs.Given.{HasMasses}
use Rattle.amr_transfer.specs.Shares.{kept_or_split}
use Rattle.amr_transfer.proofs.PatchLists.{kept_in, pairwise_join, pairwise_same, pairwise_set}
use Rattle.amr_transfer.proofs.new_masses.fill_all.Goals as goal

pub loop-i-init : goal.loop-i-init
loop-i-init c = record { kept = pairwise_same KeepsFrameAndFluxes itself c.args.patches.now; made = λ j d h. absurd (omega (arith, h)) }

pub fill_patch-requires-clause-parents : goal.fill_patch-requires-clause-parents
fill_patch-requires-clause-parents c d h =
    let qs = c.loop-i.patches in
    let there : c.loop-i.i < length qs = omega (arith, c.loop-i.auto.patches, c.loop-i.auto.i-end, c.loop-i-test.true) in
    c.requires.parents d (sym (kept_in c.args.patches.now qs d c.loop-i.invariant.kept) ∙ list_any_at (λ (q : Patch). holds (box q) d) qs c.loop-i.i c.index-patches-i.result there h)

pub loop-i-preserved : goal.loop-i-preserved
loop-i-preserved c =
    let qs = c.loop-i.patches in
    let i = c.loop-i.i in
    let r = c.fill_patch.new.patch in
    let m = kept_or_split (level_of c.args.coarse.now).masses (masses_in c.args.old.now) in
    let there : i < length qs = omega (arith, c.loop-i.auto.patches, c.loop-i.auto.i-end, c.loop-i-test.true) in
    record {
      kept = pairwise_join KeepsFrameAndFluxes KeepsFrameAndFluxes KeepsFrameAndFluxes kept_twice c.args.patches.now qs (set qs i r) c.loop-i.invariant.kept (pairwise_set KeepsFrameAndFluxes qs i c.index-patches-i.result r c.fill_patch.ensures.kept (λ j lt n. itself _));
      made = λ j e less. below_more (λ n. HasMasses m (get_or (set qs i r) n e)) i
          (λ n t. subst (λ (p : Patch). HasMasses m p) (sym (get_or-set_other qs i n r e (λ f. omega (arith, t, f)))) (c.loop-i.invariant.made n e t))
          (subst (λ (p : Patch). HasMasses m p) (sym (get_or-set_same qs i r e there)) c.fill_patch.ensures.masses)
          j
          less;
    }

pub returns-clause-kept : goal.returns-clause-kept
returns-clause-kept c = c.loop-i.invariant.kept

pub returns-clause-masses : goal.returns-clause-masses
returns-clause-masses c k d h = c.loop-i.invariant.made k d (omega (arith, h, c.loop-i.auto.patches, c.loop-i.auto.i-end, c.loop-i-test.false))
