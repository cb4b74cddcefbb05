use Rattle.std.proofs.Common.{List, subst}
use Rattle.amr_phase.specs.Plans.{planned_face}
use Rattle.amr_board.specs.BoardOf.{view}
use Rattle.amr_layout.specs.declared.PatchLayout.{PatchLayout}
use Rattle.amr_lots.specs.Looks.{HasLookedInVain}
use Rattle.amr_lots.specs.Works.{places_read}
use Rattle.amr_lots.proofs.LotParts.{keeps_sizes, read_lot, readable_lent, room_lent}
use Rattle.amr_lots.proofs.border.read_sizes.Goals as goal

pub read_border-requires-clause-room : goal.read_border-requires-clause-room
read_border-requires-clause-room c = room_lent (planned_face c.args.board.now.plan) c.args.lot.now c.deref.result.now c.deref.ensures.value c.deref_mut.result.now c.deref_mut.ensures.value c.requires.read.room

pub read_border-requires-clause-readable : goal.read_border-requires-clause-readable
read_border-requires-clause-readable c = readable_lent (planned_face c.args.board.now.plan) c.args.lot.now c.deref.result.now c.deref.ensures.value c.deref_mut.result.now c.deref_mut.ensures.value c.args.board.now.plan.places c.requires.read.readable

pub returns-clause-others : goal.returns-clause-others
returns-clause-others c = keeps_sizes (planned_face c.args.board.now.plan) c.args.lot.now c.deref.result.now c.deref.ensures.value c.deref_mut.result.now c.deref_mut.ensures.value c.read_border.new.sizes c.read_border.ensures.count

pub returns-clause-all : goal.returns-clause-all
returns-clause-all c = λ e. read_lot (planned_face c.args.board.now.plan) c.args.lot.now c.deref.result.now c.deref.ensures.value c.deref_mut.result.now c.deref_mut.ensures.value c.read_border.new.sizes c.read_border.ensures.count (c.read_border.ensures.all e)

pub returns-clause-missing : goal.returns-clause-missing
returns-clause-missing c = λ e. subst (λ (ts : List PatchLayout). HasLookedInVain (places_read ts) (view c.args.seat.now) (view c.read_border.new.seat)) c.deref.ensures.value (c.read_border.ensures.missing e)
