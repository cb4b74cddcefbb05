use Rattle.std.proofs.Common.{◌≡◌, ℕ, ◌+◌, ◌<◌, List, length, get_or, ap, ◌∙◌, arith}
use Rattle.std.proofs.lemmas.List.FromFn.{get_or-map-range_with_len}
use Rattle.amr_ranks.specs.Nodes.{NodeOf}
use Rattle.amr_ranks.specs.Nets.{NetOf, node_of}
use Rattle.amr_ranks.proofs.Held.{seen}
use Rattle.amr_ranks.proofs.net.Net.node.Goals as goal

pub returns : goal.returns
returns c =
    let i = c.self.inside in
    let r : ℕ = c.args.rank in
    let v : NetOf = seen i.letters.items i.words i.room i.posted.items i.nodes.items in
    let lt : r < length v.taken = (let e = ap (λ (x : NetOf). length x.taken) c.self.view_is in let q = c.requires in omega arith) in
    c.index.ensures
    ∙ (ap (λ (ds : List NodeOf). get_or ds r c.index.result.now) c.self.invariant.all
    ∙ (get_or-map-range_with_len (node_of v) 0 (length v.taken) r r c.index.result.now lt (let e : 0 + r ≡ r = omega arith in e) ∙ ap (λ (x : NetOf). node_of x r) c.self.view_is))
