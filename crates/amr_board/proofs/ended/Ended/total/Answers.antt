use Rattle.std.proofs.Common.{◌≡◌, ◌+◌, get_or, sym, subst}
use Rattle.std.specs.Mem.Slots.{slots_items}
use Rattle.amr_board.specs.Ended.{EndedOf}
use Rattle.amr_board.proofs.Sums.{got}
use Rattle.amr_board.proofs.ended.Ended.total.Goals as goal

pub returns : goal.returns
returns g c =
    subst (λ (o : EndedOf g.row.P.Denot). c.word.result ≡ get_or o.words (1 + o.places + c.args.word) 0) c.self.view_is (sym (got (slots_items c.self.inside.closed.words) (1 + c.self.inside.shape.places + c.args.word) c.word.result 0 c.word.ensures))
