use Rattle.std.proofs.Common.{◌≡◌, ◌<◌, ◌≤◌, ◌++◌, ℕ, List, length, get_or, sym, ap, subst, ◌∙◌, arith}
use Rattle.std.proofs.lemmas.Option.{get_or_from_slice_get}
use Rattle.amr_def.specs.Facts.{no_row}
use Rattle.amr_patch.specs.Meshes.{state_of}
use Rattle.amr_payload.specs.Payload.{row_bytes}
use Rattle.amr_codec.proofs.Appending.{later_all, later_more, none_later}
use Rattle.amr_codec.proofs.encoders.put_ledger.Goals as goal

pub loop-k-init : goal.loop-k-init
loop-k-init c = none_later row_bytes c.args.out.now.items c.args.first (state_of c.args.mesh.now).rows

pub loop-k-preserved : goal.loop-k-preserved
loop-k-preserved c =
    let rows = (state_of c.args.mesh.now).rows in
    let l = c.loop-k in
    let here : c.row.result ≡ get_or rows l.k no_row = sym (get_or_from_slice_get rows l.k c.row.result no_row c.row.ensures) in
    let inside : l.k < length rows = subst (λ n. l.k < n) (sym c.requires.rows) c.loop-k-test.true in
    c.in_ok-put_ledger_row.ensures ∙ ap (λ (o : List ℕ). o ++ row_bytes c.row.result) l.invariant ∙ later_more row_bytes c.args.out.now.items c.args.first rows l.k c.row.result no_row l.auto.k inside here

pub returns : goal.returns
returns c =
    let rows = (state_of c.args.mesh.now).rows in
    let l = c.loop-k in
    let all : length rows ≤ l.k = omega (arith, l.auto.k-end, c.loop-k-test.false, c.requires.rows) in
    l.invariant ∙ later_all row_bytes c.args.out.now.items c.args.first rows l.k all
