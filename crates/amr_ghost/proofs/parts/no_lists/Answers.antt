use Rattle.std.proofs.Common.{◌≡◌, ◌+◌, [], ◌∷◌, ◌++◌, length, length-append, ap, arith}
use Rattle.std.specs.Global.{Vec}
use Rattle.std.proofs.lemmas.List.Elements.{All-push, All-same}
use Rattle.amr_ghost.proofs.parts.no_lists.Goals as goal

pub loop-preserved : goal.loop-preserved
loop-preserved g c =
    let more : length c.push.new.self.items ≡ c.loop.counter + 1 = omega (arith, ap length c.in_ok-push.ensures.items, length-append c.loop.lists.items (c.new.result ∷ []), c.loop.invariant.count) in
    record {
      count = more;
      empty = All-same (λ (v : Vec g.row.T.Denot). v.items ≡ []) c.push.new.self.items (c.loop.lists.items ++ c.new.result ∷ []) c.in_ok-push.ensures.items (All-push (λ (v : Vec g.row.T.Denot). v.items ≡ []) c.loop.lists.items c.new.result c.loop.invariant.empty c.new.ensures.items);
    }
