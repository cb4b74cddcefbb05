use Rattle.std.proofs.Common.{◌≡◌, ◌<◌, ap, ◌∙◌, arith}
use Rattle.std.specs.Prelude.{Some}
use mathlib.Core.Option as lookup
use lib.ListN.{get_elem?}
use Rattle.std.specs.Mem.Slots.{slots_items, slots_len, slots_counts}
use Rattle.amr_board.specs.Ended.{EndedOf}
use Rattle.amr_board.proofs.Sums.{in_range_at}
use Rattle.amr_board.proofs.ended.Ended.hand.Goals as goal

pub take-piece-requires : goal.take-piece-requires
take-piece-requires g c =
    let s = c.self.inside.closed.slots in
    let at : get_elem? (slots_items s) c.args.task ≡ lookup.some (Some c.requires.0) = ap (λ (o : EndedOf g.row.P.Denot). get_elem? o.pieces c.args.task) c.self.view_is ∙ c.requires.1 in
    let n = in_range_at (slots_items s) c.args.task (Some c.requires.0) at in
    let lt : c.args.task < slots_len s = (let k = (slots_counts s).0 in omega arith) in
    (lt, c.self.invariant.2 c.args.task (omega arith) lt)

pub put-requires : goal.put-requires
put-requires g c =
    let s = c.self.inside.closed.slots in
    let at : get_elem? (slots_items s) c.args.task ≡ lookup.some (Some c.requires.0) = ap (λ (o : EndedOf g.row.P.Denot). get_elem? o.pieces c.args.task) c.self.view_is ∙ c.requires.1 in
    let n = in_range_at (slots_items s) c.args.task (Some c.requires.0) at in
    let lt : c.args.task < slots_len s = (let k = (slots_counts s).0 in omega arith) in
    let same = c.take-piece.ensures.others in omega arith
