use Rattle.std.proofs.Common.{◌≡◌, ◌∙◌, ℕ, ◌+◌, ◌<◌, ◌≤◌, ◌⊎◌, inl, inr, length, get_or, set, refl, sym, ap, subst, arith}
use Rattle.std.proofs.lemmas.Bool.{cases_lt}
use Rattle.std.proofs.lemmas.List.{get_or-set_other, get_or-set_same, length-set}
use Rattle.amr_patch.specs.declared.patches.Patch.{Patch}
use Rattle.amr_patch.specs.Patches.{box}
use Rattle.amr_patch.proofs.Lookups.{same_default}
use Rattle.amr_alike.specs.Copied.{IsCopied}
use Rattle.amr_alike.proofs.Copying.{same_boxes, same_masses, zip_copied}
use Rattle.amr_patch.proofs.SameBoxes.{box_at, same_length}
use Rattle.amr_alike.proofs.copies.copy_patches.Goals as goal

pub loop-k-init : goal.loop-k-init
loop-k-init c = record { count = same_length c.args.to.now c.args.from.now c.requires; copied = λ j d e lt. absurd (omega arith); boxes = λ j d e le. refl }

pub copy_values-requires : goal.copy_values-requires
copy_values-requires c =
    let k = c.loop-k.k in
    let r = c.index-to-k.result in
    c.loop-k.invariant.boxes k r r (omega arith) ∙ box_at c.args.to.now c.args.from.now k r c.requires ∙ ap box (same_default c.args.from.now k r c.index-from-k.result (omega (arith, same_length c.args.to.now c.args.from.now c.requires, c.loop-k-test.true)) ∙ sym c.index-from-k.is)

pub loop-k-preserved : goal.loop-k-preserved
loop-k-preserved c =
    let inv = c.loop-k.invariant in
    let k = c.loop-k.k in
    let to = c.loop-k.to in
    let q = c.copy_values.new.to in
    record {
      count = length-set to k q ∙ inv.count;
      copied = λ j d e lt. from c j d e (cases_lt j k) lt;
      boxes = λ j d e le. ap box (get_or-set_other to k j q e (λ same. let s : j ≡ k = same in omega (arith, s, le))) ∙ inv.boxes j d e (omega (arith, le));
    }
  where
    from : (c : goal.After-copy_values) (j : ℕ) (d e : Patch) → ((j < c.loop-k.k) ⊎ (c.loop-k.k ≤ j)) → j < c.loop-k.k + 1 → IsCopied (get_or c.args.from.now j d) (get_or (set c.loop-k.to c.loop-k.k c.copy_values.new.to) j e)
    from c j d e (inl l) lt = subst (IsCopied (get_or c.args.from.now j d)) (sym (get_or-set_other c.loop-k.to c.loop-k.k j c.copy_values.new.to e (λ same. let s : j ≡ c.loop-k.k = same in omega (arith, s, l)))) (c.loop-k.invariant.copied j d e l)
    from c j d e (inr g) lt =
        let at : c.loop-k.k ≡ j = omega (arith, g, lt) in
        let there : c.loop-k.k < length c.args.from.now = omega (arith, same_length c.args.to.now c.args.from.now c.requires, c.loop-k-test.true) in
        subst (λ i. IsCopied (get_or c.args.from.now i d) (get_or (set c.loop-k.to c.loop-k.k c.copy_values.new.to) i e)) at
        (subst (IsCopied (get_or c.args.from.now c.loop-k.k d)) (sym (get_or-set_same c.loop-k.to c.loop-k.k c.copy_values.new.to e (omega (arith, c.loop-k.invariant.count, there))))
        (subst (λ (x : Patch). IsCopied x c.copy_values.new.to) (c.index-from-k.is ∙ same_default c.args.from.now c.loop-k.k c.index-from-k.result d there) c.copy_values.ensures))

pub returns-clause-boxes : goal.returns-clause-boxes
returns-clause-boxes c =
    let inv = c.loop-k.invariant in
    same_boxes c.args.from.now c.loop-k.to (sym inv.count) (λ j d e lt. inv.copied j d e (omega (arith, lt, same_length c.args.to.now c.args.from.now c.requires, c.loop-k-test.false))) ∙ sym c.requires

pub returns-clause-masses : goal.returns-clause-masses
returns-clause-masses c =
    let inv = c.loop-k.invariant in
    same_masses c.args.from.now c.loop-k.to (sym inv.count) (λ j d e lt. inv.copied j d e (omega (arith, lt, same_length c.args.to.now c.args.from.now c.requires, c.loop-k-test.false)))

pub returns-clause-copied : goal.returns-clause-copied
returns-clause-copied c =
    let inv = c.loop-k.invariant in
    zip_copied c.args.from.now c.loop-k.to (sym inv.count) (λ j d e lt. inv.copied j d e (omega (arith, lt, same_length c.args.to.now c.args.from.now c.requires, c.loop-k-test.false)))
