use Rattle.std.proofs.Common.{◌≡◌, ◌+◌, set, below_more, refl, sym, ap, ◌∙◌, arith}
use Rattle.std.specs.Prelude.{slice_index}
use Rattle.std.proofs.Math.ListN.{length-set}
use Rattle.std.proofs.lemmas.List.{get_or-set_other, get_or-set_same}
use Rattle.amr_board.specs.Ended.{face_of}
use Rattle.amr_lots.proofs.finished.read_places.Goals as goal

pub face-requires-clause-place : goal.face-requires-clause-place
face-requires-clause-place c = (c.requires.readable c.loop-k.k 0 c.loop-k-test.true).there

pub face-requires-clause-planned : goal.face-requires-clause-planned
face-requires-clause-planned c = (c.requires.readable c.loop-k.k 0 c.loop-k-test.true).put

pub loop-k-init : goal.loop-k-init
loop-k-init c = (refl, λ j lt. absurd (omega (arith, lt)))

pub loop-k-preserved : goal.loop-k-preserved
loop-k-preserved c = (
  length-set c.loop-k.sizes c.loop-k.k _ ∙ c.loop-k.invariant.0,
  below_more (λ j. face_of c.args.ended.now (slice_index c.args.border.now j) ≡ slice_index (set c.loop-k.sizes c.loop-k.k c.face.result) j + 1) c.loop-k.k
      (λ j lt. c.loop-k.invariant.1 j lt ∙ ap (λ n. n + 1) (sym (get_or-set_other c.loop-k.sizes c.loop-k.k j c.face.result 0 (λ e. omega (arith, lt, e)))))
      (c.face.ensures ∙ ap (λ n. n + 1) (sym (get_or-set_same c.loop-k.sizes c.loop-k.k c.face.result 0 (omega (arith, c.loop-k-test.true, c.requires.room, c.loop-k.auto.sizes))))),
)
