use Rattle.std.proofs.Common.{◌≡◌, ◌∙◌, true, ℕ, List, add-one, sym, ap, subst}
use Rattle.std.proofs.lemmas.Result.{IfOk-weaker}
use Rattle.amr_box.specs.Cells.{Extent, in_boxes, parent}
use Rattle.amr_def.specs.Domain.{Domain, domain, domain_of, in_domain}
use Rattle.amr_def.specs.Facts.{IsLevel, IsNestedIn}
use Rattle.amr_patch.specs.Levels.{level_of}
use Rattle.amr_payload.specs.Tests.{surrounds}
use Rattle.amr_payload.proofs.ReadStates.{surrounds_at}
use Rattle.amr_payload.proofs.WriteLevels.{surrounds_from}
use Rattle.amr_box.proofs.Tests.{same_test}
use Rattle.amr_decoder.proofs.BoxTests.{blocking_some}
use Rattle.amr_decoder.proofs.Stacked.{parents_inside}
use Rattle.amr_decoder.proofs.stands.surrounds.Goals as goal

pub nested-requires-clause-some : goal.nested-requires-clause-some
nested-requires-clause-some c = blocking_some c.args.p.now

pub nested-requires-clause-inside : goal.nested-requires-clause-inside
nested-requires-clause-inside c d h =
    let p = c.args.p.now in
    let l = c.args.l in
    let f = level_of c.args.fine.now in
    subst (λ (e : Domain). in_domain e (parent d) ≡ true) (sym c.domain-dom.ensures)
    (parents_inside p l f (subst (λ (n : ℕ). IsLevel p n f) (add-one l) c.requires.fine) d (ap (λ (bs : List Extent). in_boxes bs d) (sym c.boxes-fine_boxes.ensures) ∙ h))

pub returns : goal.returns
returns c =
    let p = c.args.p.now in
    let d = domain p c.args.l in
    let k = (level_of c.args.coarse.now).boxes in
    let f = (level_of c.args.fine.now).boxes in
    let there : IsNestedIn d p.blocking f k → IsNestedIn (domain_of c.domain-dom.result) p.blocking c.boxes-fine_boxes.result.now c.boxes-coarse_boxes.result.now =
    λ n. subst (λ (e : Domain). IsNestedIn e p.blocking c.boxes-fine_boxes.result.now c.boxes-coarse_boxes.result.now) (sym c.domain-dom.ensures)
    (subst (λ (bs : List Extent). IsNestedIn d p.blocking bs c.boxes-coarse_boxes.result.now) (sym c.boxes-fine_boxes.ensures) (subst (λ (bs : List Extent). IsNestedIn d p.blocking f bs) (sym c.boxes-coarse_boxes.ensures) n)) in
    let back : IsNestedIn (domain_of c.domain-dom.result) p.blocking c.boxes-fine_boxes.result.now c.boxes-coarse_boxes.result.now → IsNestedIn d p.blocking f k =
    λ n. subst (λ (bs : List Extent). IsNestedIn d p.blocking f bs) c.boxes-coarse_boxes.ensures
    (subst (λ (bs : List Extent). IsNestedIn d p.blocking bs c.boxes-coarse_boxes.result.now) c.boxes-fine_boxes.ensures (subst (λ (e : Domain). IsNestedIn e p.blocking c.boxes-fine_boxes.result.now c.boxes-coarse_boxes.result.now) c.domain-dom.ensures n)) in
    IfOk-weaker c.nested.result _ (λ yes. yes ≡ surrounds d k f)
    (λ yes n. same_test yes (surrounds d k f)
    (λ h. surrounds_from d k f (λ e inside near. (back (n.0 h)).around e inside near))
    (λ h. n.1 (there (record { aligned = c.requires.aligned; around = λ e inside near. surrounds_at d k f e h inside near })))) c.nested.ensures
