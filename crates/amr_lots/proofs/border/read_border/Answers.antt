use Rattle.std.proofs.Common.{◌≡◌, ◌+◌, ◌-◌, ◌∙◌, length, take, drop, refl, ap, arith}
use Rattle.amr_phase.specs.Plans.{planned_face}
use Rattle.amr_layout.specs.declared.PatchLayout.{PatchLayout}
use Rattle.amr_lots.specs.LotSteps.{IsReadable}
use Rattle.amr_lots.specs.Works.{places_read}
use Rattle.amr_lots.proofs.Flat.{flat_whole}
use Rattle.amr_lots.proofs.Looking.{looks_on, no_look, vain_on}
use Rattle.amr_lots.proofs.Places.{count_next, end_fits, end_is, end_most, part_all, part_contains, part_room, read_next}
use Rattle.amr_lots.proofs.border.read_border.Goals as goal

pub loop-k-init : goal.loop-k-init
loop-k-init c = record { seat = c.requires.seat; looked = no_look c.args.seat.now.me.0; count = refl; done = refl; read = λ j lt. absurd (omega (arith, lt)) }

pub overflow_add-end : goal.overflow_add-end
overflow_add-end c = let fits = end_fits c.args.layouts.now c.loop-k.k c.index-layouts-k.result c.loop-k-test.true c.loop-k.done c.loop-k.invariant.done c.as_slice-border.result.now c.as_slice-border.ensures.value c.args.sizes.now c.requires.room (omega arith) in omega (arith, fits)

pub offset_bounds-sizes-done : goal.offset_bounds-sizes-done
offset_bounds-sizes-done c = let most = end_most c.args.layouts.now c.loop-k.k c.index-layouts-k.result c.loop-k-test.true c.loop-k.done c.loop-k.invariant.done c.as_slice-border.result.now c.as_slice-border.ensures.value in omega (arith, most, c.requires.room, c.loop-k.invariant.count)

pub slice_bounds-read_places-end : goal.slice_bounds-read_places-end
slice_bounds-read_places-end c = let most = end_most c.args.layouts.now c.loop-k.k c.index-layouts-k.result c.loop-k-test.true c.loop-k.done c.loop-k.invariant.done c.as_slice-border.result.now c.as_slice-border.ensures.value in omega (arith, most, c.requires.room, c.loop-k.invariant.count)

pub read_places-requires-clause-room : goal.read_places-requires-clause-room
read_places-requires-clause-room c = part_room c.args.layouts.now c.loop-k.k c.index-layouts-k.result c.loop-k-test.true c.loop-k.done c.loop-k.invariant.done c.as_slice-border.result.now c.as_slice-border.ensures.value (planned_face c.args.board.now.plan) c.loop-k.sizes (take (c.loop-k.done + length c.as_slice-border.result.now - c.loop-k.done) (drop c.loop-k.done c.loop-k.sizes)) (omega (arith, c.requires.room, c.loop-k.invariant.count)) (c.loop-k.done + length c.as_slice-border.result.now - c.loop-k.done) (omega (arith)) refl

pub read_places-requires-clause-readable : goal.read_places-requires-clause-readable
read_places-requires-clause-readable c = part_all c.args.layouts.now c.loop-k.k c.index-layouts-k.result c.loop-k-test.true c.loop-k.done c.loop-k.invariant.done c.as_slice-border.result.now c.as_slice-border.ensures.value (IsReadable (planned_face c.args.board.now.plan) c.args.board.now.plan.places) c.requires.readable

pub loop-k-preserved : goal.loop-k-preserved
loop-k-preserved c = record {
  seat = c.read_places.ensures.seat;
  looked = looks_on _ _ _ c.loop-k.invariant.looked c.read_places.ensures.looked;
  count = count_next c.args.layouts.now c.loop-k.k c.index-layouts-k.result c.loop-k-test.true c.loop-k.done c.loop-k.invariant.done c.as_slice-border.result.now c.as_slice-border.ensures.value (planned_face c.args.board.now.plan) c.loop-k.sizes c.read_places.new.sizes (omega (arith, c.requires.room, c.loop-k.invariant.count)) (c.loop-k.done + length c.as_slice-border.result.now - c.loop-k.done) (omega (arith)) c.read_places.ensures.count ∙ c.loop-k.invariant.count;
  done = let is = end_is c.args.layouts.now c.loop-k.k c.index-layouts-k.result c.loop-k-test.true c.loop-k.done c.loop-k.invariant.done c.as_slice-border.result.now c.as_slice-border.ensures.value in omega (arith, is);
  read = λ j lt. read_next c.args.layouts.now c.loop-k.k c.index-layouts-k.result c.loop-k-test.true c.loop-k.done c.loop-k.invariant.done c.as_slice-border.result.now c.as_slice-border.ensures.value (planned_face c.args.board.now.plan) c.loop-k.sizes c.read_places.new.sizes (omega (arith, c.requires.room, c.loop-k.invariant.count)) (c.loop-k.done + length c.as_slice-border.result.now - c.loop-k.done) (omega (arith)) c.read_places.ensures.count c.loop-k.invariant.read (c.read_places.ensures.all c.if-not-read_places.false) j (omega (arith, lt));
}

pub returns-then-not-read_places-clause-looked : goal.returns-then-not-read_places-clause-looked
returns-then-not-read_places-clause-looked c = looks_on _ _ _ c.loop-k.invariant.looked c.read_places.ensures.looked

pub returns-then-not-read_places-clause-count : goal.returns-then-not-read_places-clause-count
returns-then-not-read_places-clause-count c = count_next c.args.layouts.now c.loop-k.k c.index-layouts-k.result c.loop-k-test.true c.loop-k.done c.loop-k.invariant.done c.as_slice-border.result.now c.as_slice-border.ensures.value (planned_face c.args.board.now.plan) c.loop-k.sizes c.read_places.new.sizes (omega (arith, c.requires.room, c.loop-k.invariant.count)) (c.loop-k.done + length c.as_slice-border.result.now - c.loop-k.done) (omega (arith)) c.read_places.ensures.count ∙ c.loop-k.invariant.count

pub returns-then-not-read_places-clause-missing : goal.returns-then-not-read_places-clause-missing
returns-then-not-read_places-clause-missing c = λ e. vain_on c.as_slice-border.result.now (places_read c.args.layouts.now) _ _ _ c.loop-k.invariant.looked (part_contains c.args.layouts.now c.loop-k.k c.index-layouts-k.result c.loop-k-test.true c.loop-k.done c.loop-k.invariant.done c.as_slice-border.result.now c.as_slice-border.ensures.value) (c.read_places.ensures.missing c.if-not-read_places.true)

pub returns-clause-all : goal.returns-clause-all
returns-clause-all c = λ e j lt.
    let whole : c.loop-k.done ≡ length (places_read c.args.layouts.now) = c.loop-k.invariant.done ∙ ap length (flat_whole (λ (t : PatchLayout). t.border.items) c.args.layouts.now c.loop-k.k (omega (arith, c.loop-k-test.false))) in
    c.loop-k.invariant.read j (omega (arith, lt, whole))
