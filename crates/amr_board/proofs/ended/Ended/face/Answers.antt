use Rattle.std.proofs.Common.{◌≡◌, ◌+◌, get_or, sym, subst, arith}
use Rattle.std.specs.Mem.Slots.{slots_items}
use Rattle.amr_board.specs.Ended.{EndedOf}
use Rattle.amr_board.proofs.Sums.{got}
use Rattle.amr_board.proofs.ended.Ended.face.Goals as goal

pub overflow_sub-result : goal.overflow_sub-result
overflow_sub-result g c =
    let e = subst (λ (o : EndedOf g.row.P.Denot). c.word.result ≡ get_or o.words (1 + c.args.place) 0) c.self.view_is (sym (got (slots_items c.self.inside.closed.words) (1 + c.args.place) c.word.result 0 c.word.ensures)) in
    let p = c.requires.planned in omega arith

pub returns : goal.returns
returns g c =
    let e = subst (λ (o : EndedOf g.row.P.Denot). c.word.result ≡ get_or o.words (1 + c.args.place) 0) c.self.view_is (sym (got (slots_items c.self.inside.closed.words) (1 + c.args.place) c.word.result 0 c.word.ensures)) in
    let p = c.requires.planned in omega arith
