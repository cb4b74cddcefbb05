use Rattle.std.proofs.Common.{◌≡◌, ◌∙◌, ◌<◌, ◌≤◌, ◌++◌, ◌∷◌, [], List, length, get_or, take, sym, ap, arith}
use Rattle.std.proofs.lemmas.List.{take_all, take_more}
use Rattle.std.proofs.lemmas.Option.{get_or_from_slice_get}
use Rattle.amr_def.specs.declared.problem.Row.{Row}
use Rattle.amr_patch.specs.Meshes.{state_of}
use Rattle.amr_checkpoint.proofs.exchange.rows_of.Goals as goal

pub loop-k-preserved : goal.loop-k-preserved
loop-k-preserved c =
    let rows = (state_of c.args.mesh.now).rows in
    let l = c.loop-k in
    let inside : l.k < length rows = omega (arith, c.loop-k-test.true, c.requires.sound.telescoped.count, c.step-count.ensures) in
    let here : get_or rows l.k c.row.result ≡ c.row.result = get_or_from_slice_get rows l.k c.row.result c.row.result c.row.ensures in
    c.in_ok-push.ensures.items ∙ ap (λ (rs : List Row). rs ++ c.row.result ∷ []) l.invariant ∙ ap (λ (r : Row). take l.k rows ++ r ∷ []) (sym here) ∙ sym (take_more rows l.k c.row.result inside)

pub returns : goal.returns
returns c =
    let rows = (state_of c.args.mesh.now).rows in
    let l = c.loop-k in
    let all : length rows ≤ l.k = omega (arith, l.auto.k-end, c.loop-k-test.false, c.requires.sound.telescoped.count, c.step-count.ensures) in
    l.invariant ∙ take_all l.k rows all
