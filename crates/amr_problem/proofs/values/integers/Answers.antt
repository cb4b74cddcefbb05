use Rattle.std.proofs.Common.{◌≡◌, Some, None, ◌∙◌, sym, ap, rules, arith, ◌+◌, take, drop, get_or, option_map, pos, ◌++◌, SFits, w64}
use Rattle.std.proofs.Math.ListN.{length-set, length-replicate, replicate}
use Rattle.std.proofs.lemmas.Int.{to_z-of_z}
use Rattle.toml.specs.Data.{as_integer}
use Rattle.toml.specs.View.{view, items_view}
use Rattle.amr_problem.specs.Values.{integers}
use Rattle.amr_problem.proofs.ValueLaws.{integers-at, integers-none, read_more, read_none, read_spoilt, read_all}
use Rattle.amr_problem.proofs.values.integers.Goals as goal

pub loop-place-init : goal.loop-place-init
loop-place-init g c = record { read = read_none (replicate g.row.N (pos 0)) _; room = length-replicate _ _ ∙ sym c.requires }

pub returns-in_err-numbers : goal.returns-in_err-numbers
returns-in_err-numbers g c =
    let vs = c.args.items.now in
    let i = c.loop-place.place in
    let here : as_integer (view (get_or vs i c.index-items-place.result)) ≡ None = rw (← c.index-items-place.is) (sym c.in_err-numbers.ensures) in
    let none : integers (items_view (drop i vs)) ≡ None = integers-none vs i c.index-items-place.result c.loop-place-test.true here in
    c.from_residual.ensures ∙ sym (read_spoilt _ _ _ _ c.loop-place.invariant.read none)

pub loop-place-preserved : goal.loop-place-preserved
loop-place-preserved g c =
    let vs = c.args.items.now in
    let i = c.loop-place.place in
    let z = c.in_ok-numbers.field-0 in
    let here : as_integer (view (get_or vs i c.index-items-place.result)) ≡ Some z = rw (← c.index-items-place.is) (sym c.in_ok-numbers.ensures) in
    let more = read_more c.loop-place.numbers i z (integers (items_view (drop (i + 1) vs))) (omega arith) in
    let fits : SFits w64 z = search rules in
    record {
      read = rw (to_z-of_z w64 z fits) (c.loop-place.invariant.read ∙ ap (option_map (λ zs. take i c.loop-place.numbers ++ zs)) (integers-at vs i c.index-items-place.result z c.loop-place-test.true here) ∙ more);
      room = length-set _ _ _ ∙ c.loop-place.invariant.room;
    }

pub returns : goal.returns
returns g c =
    sym (read_all c.args.items.now c.loop-place.numbers c.loop-place.place (omega arith) c.loop-place.invariant.room c.loop-place.invariant.read)
