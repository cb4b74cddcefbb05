use Rattle.std.proofs.Common.{◌≡◌, ℕ, ◌+◌, ◌<◌, ◌∙◌, List, [], length, get_or, sym, ap, subst, arith}
use Rattle.std.specs.Global.{Vec}
use Rattle.std.specs.List.{All}
use Rattle.std.proofs.lemmas.List.{length-map}
use Rattle.amr_balance.specs.Shares.{lists_in}
use Rattle.amr_owners.specs.Owners.{IsNoneOf}
use Rattle.amr_owners.proofs.Exchanging.{list_is, put_back}
use Rattle.amr_owners.proofs.Members.{within_all}
use Rattle.amr_owners.proofs.Noting.{AreNotedTo, all_ranked, each_ranked, one_ranked}
use Rattle.amr_owners.proofs.ranks.ranks_of.Goals as goal

pub note-requires : goal.note-requires
note-requires c =
    let ns = c.args.numbers.now in
    let r = c.loop-rank.rank in
    let below : r < length ns = c.loop-rank-test.true in
    record {
      within = subst (λ (m : ℕ). All (λ n. n < m) c.deref.result.now) (sym (ap length c.deref_mut.ensures.value ∙ c.loop-rank.invariant.long))
          (subst (All (λ n. n < c.args.count)) (list_is ns r c.index-numbers-rank.result c.index-numbers-rank.is below ∙ sym c.deref.ensures.value)
          (within_all (lists_in ns) (length ns) c.args.count c.requires.owners r below));
    }

pub loop-rank-preserved : goal.loop-rank-preserved
loop-rank-preserved c =
    let ns = c.args.numbers.now in
    let r = c.loop-rank.rank in
    let v = c.loop-rank.ranks in
    let new = c.note.new.ranks in
    let below : r < length ns = c.loop-rank-test.true in
    let is : get_or (lists_in ns) r [] ≡ c.deref.result.now = list_is ns r c.index-numbers-rank.result c.index-numbers-rank.is below ∙ sym c.deref.ensures.value in
    subst (AreNotedTo (lists_in ns) (r + 1) c.args.count) (sym (put_back v c.deref_mut.result.now new c.deref_mut.ensures.value c.note.ensures.long))
    (one_ranked (lists_in ns) (length ns) r c.args.count v.items new c.requires.owners below (c.note.ensures.long ∙ ap length c.deref_mut.ensures.value)
    (subst (All (λ n. get_or new n 0 ≡ r)) (sym is) c.note.ensures.noted)
    (λ n none. c.note.ensures.others n (subst (λ (l : List ℕ). IsNoneOf l n) is none) ∙ ap (λ (l : List ℕ). get_or l n 0) c.deref_mut.ensures.value)
    c.loop-rank.invariant)

pub returns-clause-ranked : goal.returns-clause-ranked
returns-clause-ranked c =
    let ns = lists_in c.args.numbers.now in
    let done = c.loop-rank.invariant in
    let all = length c.args.numbers.now in
    each_ranked ns all c.args.count c.loop-rank.ranks.items c.requires.owners done.long (all_ranked ns c.loop-rank.rank c.args.count c.loop-rank.ranks.items (let n = length-map c.args.numbers.now (λ (v : Vec ℕ). v.items) in omega (arith, n, c.loop-rank-test.false)) done)
