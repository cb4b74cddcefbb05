use Rattle.std.proofs.Common.{◌≡◌, ◌+◌, ◌-◌, ◌*◌, sym, ap, ◌∙◌, arith}
use Rattle.amr_box.specs.Cells.{height, width}
use Rattle.amr_faces.specs.Faces.{x_end, y_end}
use Rattle.amr_layout.specs.Surroundings.{y_start}
use Rattle.amr_layout.proofs.Edges.{edge_east, edge_north, edge_south, edge_west}
use Rattle.amr_layout.proofs.faces.edge_face.Goals as goal

pub returns-then-n-h : goal.returns-then-n-h
returns-then-n-h c = c.x_start.ensures ∙ sym (edge_west c.args.b.now c.args.n (omega (arith, c.height-h.ensures.value)))

pub returns-then-n-h-2 : goal.returns-then-n-h-2
returns-then-n-h-2 c =
    let b = c.args.b.now in
    let h : c.height-h.result ≡ height b = c.height-h.ensures.value in
    c.x_end.ensures ∙ ap (λ k. x_end b (c.args.n - k)) h ∙ sym (edge_east b c.args.n (omega arith) (omega arith))

pub returns-then-n-h-3 : goal.returns-then-n-h-3
returns-then-n-h-3 c =
    let b = c.args.b.now in
    let h : c.height-h.result ≡ height b = c.height-h.ensures.value in
    let w : c.width-w.result ≡ width b = c.width-w.ensures.value in
    c.y_start.ensures ∙ ap (λ k. y_start b (c.args.n - 2 * k)) h ∙ sym (edge_south b c.args.n (omega arith) (omega arith))

pub returns : goal.returns
returns c =
    let b = c.args.b.now in
    let h : c.height-h.result ≡ height b = c.height-h.ensures.value in
    let w : c.width-w.result ≡ width b = c.width-w.ensures.value in
    let past : 2 * c.height-h.result + c.width-w.result ≡ 2 * height b + width b = omega arith in
    c.y_end.ensures ∙ ap (λ k. y_end b (c.args.n - k)) past ∙ sym (edge_north b c.args.n (omega arith))
