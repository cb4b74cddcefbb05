use Rattle.std.proofs.Common.{◌≡◌, ◌∙◌, ◌+◌, ◌++◌, ◌∷◌, [], List, sym, ap, subst, take, arith, get_or}
use Rattle.std.proofs.lemmas.List.{take_more}
use Rattle.amr_patch.specs.declared.patches.Patch.{Patch}
use Rattle.amr_patch.specs.Pairwise.{Pairwise}
use Rattle.amr_patch.specs.Patches.{IsCopy, box, mark_in, value_in}
use Rattle.amr_patch.proofs.LevelLaws.{pairwise_push}
use Rattle.amr_patch.proofs.copies.copied_patches.Goals as goal

pub loop-p-preserved : goal.loop-p-preserved
loop-p-preserved c =
    let ps = c.args.patches.now in
    let k = c.loop-p.p-index in
    let p = c.p-item.result in
    let q = c.in_ok-copy.field-0 in
    let more = pairwise_push IsCopy (take k ps) c.loop-p.copies.items (get_or ps k p) q c.loop-p.invariant (record {
      of_box = c.in_ok-copy.ensures.of_box ∙ ap (λ (r : Patch). box r) c.p-item.is;
      values = λ d. c.in_ok-copy.ensures.values d ∙ ap (λ (r : Patch). value_in r d) c.p-item.is;
      marks = λ d. c.in_ok-copy.ensures.marks d ∙ ap (λ (r : Patch). mark_in r d) c.p-item.is;
      fluxes = c.in_ok-copy.ensures.fluxes;
    }) in
    let items : c.push.new.self.items ≡ c.loop-p.copies.items ++ q ∷ [] = c.in_ok-push.ensures.items in
    subst (λ (qs : List Patch). Pairwise IsCopy (take (k + 1) ps) qs) (sym items)
    (subst (λ (xs : List Patch). Pairwise IsCopy xs (c.loop-p.copies.items ++ q ∷ [])) (sym (take_more ps k p (omega arith))) more)
