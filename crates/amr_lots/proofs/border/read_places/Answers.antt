use Rattle.std.proofs.Common.{◌≡◌, ◌+◌, ◌<◌, length, set, below_more, sym, ap, ◌∙◌, arith}
use Rattle.std.specs.Prelude.{slice_index}
use Rattle.std.proofs.Math.ListN.{length-set}
use Rattle.std.proofs.lemmas.List.{get_or-set_other, get_or-set_same}
use Rattle.amr_phase.specs.Plans.{planned_face}
use Rattle.amr_lots.proofs.Looking.{look_more}
use Rattle.amr_lots.proofs.border.read_places.Goals as goal

pub face-requires-clause-place : goal.face-requires-clause-place
face-requires-clause-place c = (c.requires.readable c.loop-k.k 0 c.loop-k-test.true).there

pub returns-in_default-clause-looked : goal.returns-in_default-clause-looked
returns-in_default-clause-looked c = look_more _ _ _ _ _ c.loop-k.invariant.1 c.face.ensures.look

at_last : (c : goal.In-Some) → planned_face c.args.board.now.plan (slice_index c.args.border.now c.loop-k.k) ≡ slice_index (set c.loop-k.sizes c.loop-k.k c.in-Some.size) c.loop-k.k + 1
at_last c =
    let inside : c.loop-k.k < length c.loop-k.sizes = omega (arith, c.loop-k-test.true, c.requires.room, c.loop-k.auto.sizes) in
    let here : slice_index (set c.loop-k.sizes c.loop-k.k c.in-Some.size) c.loop-k.k ≡ c.in-Some.size = get_or-set_same c.loop-k.sizes c.loop-k.k c.in-Some.size 0 inside in
    c.in-Some.ensures.planned ∙ ap (λ n. n + 1) (sym here)

pub loop-k-preserved : goal.loop-k-preserved
loop-k-preserved c = (
  c.face.ensures.seat,
  look_more _ _ _ _ _ c.loop-k.invariant.1 c.face.ensures.look,
  length-set c.loop-k.sizes c.loop-k.k _ ∙ c.loop-k.invariant.2,
  below_more (λ j. planned_face c.args.board.now.plan (slice_index c.args.border.now j) ≡ slice_index (set c.loop-k.sizes c.loop-k.k c.in-Some.size) j + 1) c.loop-k.k
      (λ j lt. c.loop-k.invariant.3 j lt ∙ ap (λ n. n + 1) (sym (get_or-set_other c.loop-k.sizes c.loop-k.k j c.in-Some.size 0 (λ e. omega (arith, lt, e)))))
      (at_last c),
)
