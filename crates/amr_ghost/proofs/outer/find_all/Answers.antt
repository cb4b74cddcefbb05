use Rattle.std.proofs.Common.{◌∙◌, ◌<◌, length, refl, subst, arith}
use Rattle.std.specs.Option.{option_copied}
use Rattle.std.proofs.lemmas.List.{take_all}
use Rattle.amr_def.specs.Value.{value_at}
use Rattle.amr_ghost.specs.Frames.{is_of_level, old_masses}
use Rattle.amr_ghost.specs.Outer.{AreOuterValuesFor}
use Rattle.amr_ghost.proofs.Counts.{counted_next, end_part, end_small, end_within, spans_counted, start_within, whole_length}
use Rattle.amr_ghost.proofs.OuterGiven.{found_next}
use Rattle.amr_ghost.proofs.outer.find_all.Goals as goal

pub loop-k-init : goal.loop-k-init
loop-k-init c = record { done = refl; count = refl; found = λ m none. tt }

pub overflow_add-end : goal.overflow_add-end
overflow_add-end c = end_small spans_counted c.args.spans.now c.loop-k.k _ c.loop-k.done (length c.args.values.now) c.loop-k-test.true c.loop-k.invariant.done c.requires.places (omega arith)

pub offset_bounds-values-done : goal.offset_bounds-values-done
offset_bounds-values-done c =
    let within = start_within spans_counted c.args.spans.now c.loop-k.k c.loop-k.done (length c.args.values.now) c.loop-k.invariant.done c.requires.places in
    omega (arith, within)

pub slice_bounds-find_span-end : goal.slice_bounds-find_span-end
slice_bounds-find_span-end c = end_within spans_counted c.args.spans.now c.loop-k.k _ c.loop-k.done (length c.loop-k.values) c.loop-k-test.true c.loop-k.invariant.done (c.loop-k.invariant.count ∙ c.requires.places)

pub loop-k-preserved : goal.loop-k-preserved
loop-k-preserved c =
    let ss = c.args.spans.now in
    let vs = c.loop-k.values in
    let ws = c.find_span.new.values in
    let k = c.loop-k.k in
    let done = c.loop-k.done in
    let lt : k < length ss = c.loop-k-test.true in
    let old = old_masses (option_copied c.args.old) in
    let all = c.loop-k.invariant.count ∙ c.requires.places in
    record {
      done = counted_next spans_counted ss k _ done lt c.loop-k.invariant.done;
      count = whole_length vs ws done _ (end_part spans_counted ss k _ done (length vs) lt c.loop-k.invariant.done all) c.find_span.ensures.count ∙ c.loop-k.invariant.count;
      found = λ m none. found_next (value_at c.args.p.now c.args.l m old) (is_of_level c.args.p.now c.args.l m) ss k _ vs ws done lt c.loop-k.invariant.done all c.find_span.ensures.count (c.loop-k.invariant.found m none) (c.find_span.ensures.found m (none k _ lt));
    }

pub returns-clause-found : goal.returns-clause-found
returns-clause-found c m none =
    let ss = c.args.spans.now in
    let old = old_masses (option_copied c.args.old) in
    subst (λ us. AreOuterValuesFor (value_at c.args.p.now c.args.l m old) (is_of_level c.args.p.now c.args.l m) us c.loop-k.values) (take_all c.loop-k.k ss (omega (arith, c.loop-k-test.false))) (c.loop-k.invariant.found m none)
