use Rattle.std.proofs.Common.{◌≡◌, ◌<◌, ◌≤◌, ◌++◌, ℕ, List, length, get_or, sym, ap, subst, ◌∙◌, arith}
use Rattle.std.specs.Prelude.{IsTrue}
use Rattle.amr_box.specs.declared.Cell.{Cell}
use Rattle.amr_box.specs.Cells.{Extent, holds}
use Rattle.amr_def.specs.Domain.{domain, in_domain}
use Rattle.amr_patch.specs.Levels.{level_of}
use Rattle.amr_payload.specs.Payload.{box_bytes}
use Rattle.amr_codec.specs.Forms.{form_of}
use Rattle.amr_patch.specs.BoxRows.{HasCellsOf}
use Rattle.amr_codec.proofs.Appending.{entries_all, entry_more}
use Rattle.amr_patch.proofs.BoxEntries.{box_cells, box_inside, no_box}
use Rattle.amr_patch.proofs.Items.{item}
use Rattle.amr_codec.proofs.levels.put_boxes.Goals as goal

pub put_box-requires-clause-inside : goal.put_box-requires-clause-inside
put_box-requires-clause-inside c =
    let k = level_of c.args.level.now in
    let i = c.loop-b.b-index in
    let inside : i < length k.boxes = subst (λ (bs : List Extent). i < length bs) c.boxes-b-items.ensures c.loop-b-test.true in
    let here : c.b-item.result ≡ get_or k.boxes i no_box = item c.boxes-b-items.result.now i c.b-item.result no_box c.loop-b-test.true c.b-item.is ∙ ap (λ (bs : List Extent). get_or bs i no_box) c.boxes-b-items.ensures in
    subst (λ (b : Extent). (d : Cell) → IsTrue (holds b d) → IsTrue (in_domain (domain c.args.p.now c.args.l) d)) (sym here) (box_inside c.args.p.now c.args.l c.args.level.now c.requires.level i inside)

pub put_box-requires-clause-cells : goal.put_box-requires-clause-cells
put_box-requires-clause-cells c =
    let k = level_of c.args.level.now in
    let i = c.loop-b.b-index in
    let inside : i < length k.boxes = subst (λ (bs : List Extent). i < length bs) c.boxes-b-items.ensures c.loop-b-test.true in
    let here : c.b-item.result ≡ get_or k.boxes i no_box = item c.boxes-b-items.result.now i c.b-item.result no_box c.loop-b-test.true c.b-item.is ∙ ap (λ (bs : List Extent). get_or bs i no_box) c.boxes-b-items.ensures in
    subst (λ (b : Extent). HasCellsOf c.args.level.now b) (sym here) (box_cells c.args.p.now c.args.l c.args.level.now c.requires.level i inside)

pub loop-b-preserved : goal.loop-b-preserved
loop-b-preserved c =
    let k = level_of c.args.level.now in
    let f : Extent → List ℕ = box_bytes (form_of c.args.form.now) k.masses in
    let l = c.loop-b in
    let i = l.b-index in
    let inside : i < length k.boxes = subst (λ (bs : List Extent). i < length bs) c.boxes-b-items.ensures c.loop-b-test.true in
    let here : c.b-item.result ≡ get_or k.boxes i no_box = item c.boxes-b-items.result.now i c.b-item.result no_box c.loop-b-test.true c.b-item.is ∙ ap (λ (bs : List Extent). get_or bs i no_box) c.boxes-b-items.ensures in
    c.in_ok-put_box.ensures ∙ ap (λ (o : List ℕ). o ++ f c.b-item.result) l.invariant ∙ entry_more f c.args.out.now.items k.boxes i c.b-item.result no_box inside here

pub returns : goal.returns
returns c =
    let k = level_of c.args.level.now in
    let l = c.loop-b in
    let all : length k.boxes ≤ l.b-index = omega (arith, l.auto.b-index-end, c.loop-b-test.false, ap length c.boxes-b-items.ensures) in
    l.invariant ∙ entries_all (box_bytes (form_of c.args.form.now) k.masses) c.args.out.now.items k.boxes l.b-index all
