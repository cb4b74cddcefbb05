use Rattle.std.proofs.Common.{subst, arith, ℕ}
use Rattle.std.proofs.lemmas.Int.{ints}
use Rattle.amr_box.specs.Cells.{width}
use Rattle.amr_tags.specs.Bits.{AreRows}
use Rattle.amr_tags.proofs.Grows.{none-grown, one-more}
use Rattle.amr_tags.proofs.grow.grow_by.Goals as goal

pub grow_once-requires-clause-some : goal.grow_once-requires-clause-some
grow_once-requires-clause-some c = omega (arith, ints, c.width-width.ensures.corners, c.requires.near.wide)

pub grow_once-requires-clause-small : goal.grow_once-requires-clause-small
grow_once-requires-clause-small c = omega (arith, ints, c.width-width.ensures.corners, c.requires.near.west, c.requires.near.east)

pub loop-step-init : goal.loop-step-init
loop-step-init c = (c.requires.rows, c.requires.room, λ k. none-grown c.args.b.now c.args.wrap_x c.args.wrap_y c.args.words.now.items k)

pub loop-step-preserved : goal.loop-step-preserved
loop-step-preserved c = (
  subst (λ (h : ℕ). AreRows (width c.args.b.now) h c.grow_once.new.words.items) c.height-height.ensures.value (subst (λ (w : ℕ). AreRows w c.height-height.result c.grow_once.new.words.items) c.width-width.ensures.value c.grow_once.ensures.rows),
  c.grow_once.ensures.room,
  one-more c.args.b.now c.args.wrap_x c.args.wrap_y c.args.words.now.items c.loop-step.words.items c.grow_once.new.words.items c.loop-step._step c.width-width.result c.height-height.result c.width-width.ensures.value c.height-height.ensures.value c.loop-step.invariant.2 c.grow_once.ensures.bits,
)
