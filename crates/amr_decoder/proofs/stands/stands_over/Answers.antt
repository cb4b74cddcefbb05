use Rattle.std.proofs.Common.{◌≡◌, ◌∙◌, ◌&&◌, Bool, true, ℕ, suc, add-one, sym, ap, subst}
use Rattle.amr_box.specs.declared.Cell.{Cell}
use Rattle.amr_def.specs.Domain.{domain}
use Rattle.amr_def.specs.Facts.{IsLevel, IsNestedLevel}
use Rattle.amr_def.proofs.Nesting.{covered_boxes, covered_there}
use Rattle.amr_patch.specs.Levels.{level_of}
use Rattle.amr_payload.specs.Tests.{is_in_sync, surrounds}
use Rattle.amr_payload.proofs.ReadStates.{surrounds_at}
use Rattle.amr_box.proofs.Tests.{same_test}
use Rattle.amr_decoder.proofs.Stacked.{sync_at, sync_from}
use Rattle.amr_decoder.proofs.stands.stands_over.Goals as goal

pub returns-then-not-nested : goal.returns-then-not-nested
returns-then-not-nested c =
    let p = c.args.p.now in
    let d = domain p c.args.l in
    let k = level_of c.args.coarse.now in
    let f = level_of c.args.fine.now in
    sym (ap (λ t. t && is_in_sync d k.masses f.masses) (sym c.in_ok-nested.ensures ∙ c.if-not-nested.true))

pub are_boxes_in_sync-requires-clause-parents : goal.are_boxes_in_sync-requires-clause-parents
are_boxes_in_sync-requires-clause-parents c e covered =
    let p = c.args.p.now in
    let l = c.args.l in
    let k = level_of c.args.coarse.now in
    let f = level_of c.args.fine.now in
    let around : surrounds (domain p l) k.boxes f.boxes ≡ true = sym c.in_ok-nested.ensures ∙ c.if-not-nested.false in
    let over : IsLevel p (suc l) f = subst (λ (n : ℕ). IsLevel p n f) (add-one l) c.requires.fine in
    let nested : IsNestedLevel p l k f = record { aligned = c.requires.aligned; around = λ e inside near. surrounds_at (domain p l) k.boxes f.boxes e around inside near } in
    covered_there p l k f c.requires.coarse over nested e (ap (λ (test : Cell → Bool). test e) (covered_boxes f.masses f.boxes over.filled) ∙ covered)

pub returns : goal.returns
returns c =
    let p = c.args.p.now in
    let l = c.args.l in
    let d = domain p l in
    let k = level_of c.args.coarse.now in
    let f = level_of c.args.fine.now in
    let around : surrounds d k.boxes f.boxes ≡ true = sym c.in_ok-nested.ensures ∙ c.if-not-nested.false in
    let over : IsLevel p (suc l) f = subst (λ (n : ℕ). IsLevel p n f) (add-one l) c.requires.fine in
    let nested : IsNestedLevel p l k f = record { aligned = c.requires.aligned; around = λ e inside near. surrounds_at d k.boxes f.boxes e around inside near } in
    same_test c.are_boxes_in_sync.result (is_in_sync d k.masses f.masses)
    (λ h. sync_from p l k f c.requires.coarse over (c.are_boxes_in_sync.ensures.0 h))
    (λ h. c.are_boxes_in_sync.ensures.1 (sync_at p l k f c.requires.coarse over nested h))
    ∙ sym (ap (λ t. t && is_in_sync d k.masses f.masses) around)
