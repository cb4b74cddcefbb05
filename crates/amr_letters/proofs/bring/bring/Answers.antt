use Rattle.std.proofs.Common.{◌∙◌, List, sym, subst}
use Rattle.std.proofs.lemmas.List.{with_items_is}
use Rattle.amr_post.specs.declared.ranks.Rank.{Rank}
use Rattle.amr_letters.specs.Shared.{AreRanksFor, KnowFrames, sharing}
use Rattle.amr_letters.proofs.Brought.{known}
use Rattle.amr_letters.proofs.bring.bring.Goals as goal

pub returns : goal.returns
returns g c =
    let s = sharing c.args.s in
    let waits : AreRanksFor s c.args.ranks c.deref_mut.result.now = subst (λ (rs : List Rank). AreRanksFor s c.args.ranks rs) (sym c.deref_mut.ensures.value) c.in_ok-all.ensures in
    subst (λ (rs : List Rank). KnowFrames s c.args.ranks rs) (sym (with_items_is c.in_ok-all.all c.round.new.ranks (c.round.auto.ranks ∙ c.deref_mut.ensures.len)))
    (known s c.args.ranks c.requires.own c.requires.coarser c.deref_mut.result.now c.round.new.ranks waits c.round.auto.ranks c.round.ensures)
