use Rattle.std.proofs.Common.{◌≡◌, ◌∙◌, ◌+◌, ◌++◌, ◌∷◌, [], List, sym, subst, take, arith, get_or}
use Rattle.std.proofs.lemmas.List.{take_more}
use Rattle.amr_box.specs.Cells.{Extent}
use Rattle.amr_patch.specs.declared.patches.Patch.{Patch}
use Rattle.amr_patch.specs.Pairwise.{Pairwise}
use Rattle.amr_patch.specs.Patches.{IsBlank}
use Rattle.amr_patch.proofs.Apart.{near_box}
use Rattle.amr_patch.proofs.LevelLaws.{pairwise_push}
use Rattle.amr_patch.proofs.copies.blank_patches.Goals as goal

pub make-requires : goal.make-requires
make-requires c = near_box c.args.boxes.now c.loop-b.b-index c.b-item.result (omega arith) c.b-item.is c.lo-low.ensures.proper c.requires

pub loop-b-preserved : goal.loop-b-preserved
loop-b-preserved c =
    let bs = c.args.boxes.now in
    let k = c.loop-b.b-index in
    let b = c.b-item.result in
    let p = c.in_ok-make.field-0 in
    let more = pairwise_push IsBlank (take k bs) c.loop-b.patches.items (get_or bs k b) p c.loop-b.invariant (record { of_box = c.in_ok-make.ensures.of_box ∙ c.b-item.is; empty = c.in_ok-make.ensures.values; marks = c.in_ok-make.ensures.marks; fluxes = c.in_ok-make.ensures.fluxes }) in
    let items : c.push.new.self.items ≡ c.loop-b.patches.items ++ p ∷ [] = c.in_ok-push.ensures.items in
    subst (λ (ps : List Patch). Pairwise IsBlank (take (k + 1) bs) ps) (sym items)
    (subst (λ (xs : List Extent). Pairwise IsBlank xs (c.loop-b.patches.items ++ p ∷ [])) (sym (take_more bs k b (omega arith))) more)
