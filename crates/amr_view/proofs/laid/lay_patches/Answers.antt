use Rattle.std.proofs.Common.{◌≡◌, ◌∙◌, ℕ, ◌+◌, ◌-◌, ◌∷◌, List, drop, refl, sym, subst, arith}
use Rattle.std.proofs.lemmas.List.{drop_all, drop_more}
use Rattle.amr_patch.specs.declared.patches.Patch.{Patch}
use Rattle.amr_patch.specs.Patches.{masses_in}
use Rattle.amr_view.specs.Rows.{AreLaid}
use Rattle.amr_view.proofs.Laying.{laid_more}
use Rattle.amr_view.proofs.laid.lay_patches.Goals as goal

pub loop-left-init : goal.loop-left-init
loop-left-init c = record {
  within = omega arith;
  laid = let ps = c.args.patches.now in subst (λ (qs : List Patch). AreLaid (masses_in qs) c.args.row.now c.args.masses.now c.args.masses.now) (sym (drop_all _ ps (omega arith))) (λ k lt. refl);
}

pub loop-left-preserved : goal.loop-left-preserved
loop-left-preserved c =
    let ps = c.args.patches.now in
    let l = c.loop-left in
    let n : ℕ = l.left - 1 in
    let p = c.index-patches-left.result in
    let next : n + 1 ≡ l.left = omega (arith, c.loop-left-test.true) in
    let list : drop n ps ≡ p ∷ drop l.left ps = drop_more ps n p (omega (arith, l.invariant.within, c.loop-left-test.true)) ∙ (λ i. sym c.index-patches-left.is i ∷ drop (next i) ps) in
    record {
      within = omega (arith, l.invariant.within);
      laid = subst (λ (qs : List Patch). AreLaid (masses_in qs) c.args.row.now c.args.masses.now c.lay_patch.new.masses) (sym list)
          (laid_more p (drop l.left ps) c.args.row.now c.args.masses.now l.masses c.lay_patch.new.masses (sym c.lay_patch.auto.masses) l.invariant.laid c.lay_patch.ensures);
    }

pub returns : goal.returns
returns c =
    let ps = c.args.patches.now in
    let done : c.loop-left.left ≡ 0 = omega (arith, c.loop-left-test.false) in
    subst (λ (k : ℕ). AreLaid (masses_in (drop k ps)) c.args.row.now c.args.masses.now c.loop-left.masses) done c.loop-left.invariant.laid
