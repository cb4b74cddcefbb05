use Rattle.amr_board.specs.Ended.{face_of}
use Rattle.amr_lots.proofs.LotParts.{keeps_sizes, read_lot, readable_lent, room_lent}
use Rattle.amr_lots.proofs.finished.read_sizes.Goals as goal

pub read_border-requires-clause-room : goal.read_border-requires-clause-room
read_border-requires-clause-room c = room_lent (face_of c.args.ended.now) c.args.lot.now c.deref.result.now c.deref.ensures.value c.deref_mut.result.now c.deref_mut.ensures.value c.requires.room

pub read_border-requires-clause-readable : goal.read_border-requires-clause-readable
read_border-requires-clause-readable c = readable_lent (face_of c.args.ended.now) c.args.lot.now c.deref.result.now c.deref.ensures.value c.deref_mut.result.now c.deref_mut.ensures.value c.args.ended.now.places c.requires.readable

pub returns-clause-others : goal.returns-clause-others
returns-clause-others c = keeps_sizes (face_of c.args.ended.now) c.args.lot.now c.deref.result.now c.deref.ensures.value c.deref_mut.result.now c.deref_mut.ensures.value c.read_border.new.sizes c.read_border.ensures.count

pub returns-clause-all : goal.returns-clause-all
returns-clause-all c = read_lot (face_of c.args.ended.now) c.args.lot.now c.deref.result.now c.deref.ensures.value c.deref_mut.result.now c.deref_mut.ensures.value c.read_border.new.sizes c.read_border.ensures.count c.read_border.ensures.all
