use Rattle.std.proofs.Common.{◌≡◌, ◌<◌, ◌++◌, ◌∷◌, [], List, length, get_or, take, sym, ap, ◌∙◌, arith}
use Rattle.std.proofs.lemmas.List.{take_all}
use Rattle.std.proofs.lemmas.Grind.{take_at_read}
use Rattle.std.proofs.lemmas.Option.{get_or_from_slice_get}
use Rattle.amr_def.specs.Facts.{no_row}
use Rattle.amr_def.specs.declared.problem.Row.{Row}
use Rattle.amr_patch.specs.Meshes.{state_of}
use Rattle.amr_decoder.proofs.ledger.copied_rows.Goals as goal

pub loop-k-preserved : goal.loop-k-preserved
loop-k-preserved c =
    let rows = (state_of c.args.mesh.now).rows in
    let l = c.loop-k in
    let here : c.row.result ≡ get_or rows l.k no_row = sym (get_or_from_slice_get rows l.k c.row.result no_row c.row.ensures) in
    let inside : l.k < length rows = omega (arith, c.requires.count, c.loop-k-test.true) in
    c.in_ok-push.ensures.items ∙ ap (λ (vs : List Row). vs ++ c.row.result ∷ []) l.invariant ∙ ap (λ (v : Row). take l.k rows ++ v ∷ []) here ∙ sym (take_at_read rows l.k no_row inside).1

pub returns : goal.returns
returns c =
    let rows = (state_of c.args.mesh.now).rows in
    c.loop-k.invariant ∙ take_all c.loop-k.k rows (omega (arith, c.requires.count, c.loop-k.auto.k-end, c.loop-k-test.false))
