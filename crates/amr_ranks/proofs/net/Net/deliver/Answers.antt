use Rattle.std.proofs.Common.{◌<◌, true, false, length, set, sym, ◌∙◌, subst, arith}
use Rattle.std.proofs.lemmas.List.{get_or_read}
use Rattle.amr_ranks.specs.Letters.{no_letter}
use Rattle.amr_ranks.specs.Nets.{NetOf, Moves, after_deliver}
use Rattle.amr_ranks.proofs.Held.{seen, rank_is, fits_there, delivered_there, moves_on}
use Rattle.amr_ranks.proofs.net.Net.deliver.Goals as goal
use Rattle.amr_ranks.proofs.net.Net.deliver.Goals.{After-index_mut}

in_range : (c : After-index_mut) → c.args.k < length c.self.inside.letters.items
in_range c = let n = c.len.ensures in let e = c.if-k-len.false in omega arith

pub take-requires-clause-to : goal.take-requires-clause-to
take-requires-clause-to c =
    let i = c.self.inside in
    rank_is i.letters.items i.words i.room i.posted.items i.nodes.items c.self.invariant c.args.k (in_range c) c.index-letter.result.now (get_or_read i.letters.items c.args.k c.index-letter.result.now (in_range c) c.index-letter.ensures no_letter)
    c.to.result c.to.ensures c.index_mut.result.now c.index_mut.ensures.value

pub take-requires-clause-fits : goal.take-requires-clause-fits
take-requires-clause-fits c =
    let i = c.self.inside in
    fits_there i.letters.items i.words i.room i.posted.items i.nodes.items c.self.invariant c.args.k (in_range c) c.index-letter.result.now (get_or_read i.letters.items c.args.k c.index-letter.result.now (in_range c) c.index-letter.ensures no_letter)
    c.to.result c.to.ensures c.index_mut.result.now c.index_mut.ensures.value

pub invariant_of-self : goal.invariant_of-self
invariant_of-self c =
    let i = c.self.inside in
    let a = (goal.at.invariant_of-self c).After-index_mut in
    (delivered_there i.letters.items i.words i.room i.posted.items i.nodes.items c.self.invariant c.args.k (in_range a) c.index-letter.result.now (get_or_read i.letters.items c.args.k c.index-letter.result.now (in_range a) c.index-letter.ensures no_letter)
    c.to.result c.to.ensures c.index_mut.result.now c.index_mut.ensures.value c.take.result c.take.new.self c.take.ensures.answer c.take.ensures.after).0

pub returns : goal.returns
returns c =
    let i = c.self.inside in
    let a = (goal.at.returns c).After-index_mut in
    let v : NetOf = seen i.letters.items i.words i.room i.posted.items i.nodes.items in
    let now = (delivered_there i.letters.items i.words i.room i.posted.items i.nodes.items c.self.invariant c.args.k (in_range a) c.index-letter.result.now (get_or_read i.letters.items c.args.k c.index-letter.result.now (in_range a) c.index-letter.ensures no_letter)
    c.to.result c.to.ensures c.index_mut.result.now c.index_mut.ensures.value c.take.result c.take.new.self c.take.ensures.answer c.take.ensures.after).1 in
    let posts = c.self.invariant.consistent.posts in
    let lt = in_range a in
    let sent = sym (get_or_read i.posted.items c.args.k _ (omega arith) c.index.ensures false) ∙ c.if-not-index.false in
    let d : NetOf = seen i.letters.items i.words i.room i.posted.items (set i.nodes.items c.to.result c.take.new.self) in
    subst (λ (x : NetOf). Moves (after_deliver x c.args.k) x true d) c.self.view_is (moves_on v c.args.k lt sent d now)
