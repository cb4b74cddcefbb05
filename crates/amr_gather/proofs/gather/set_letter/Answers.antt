use Rattle.std.proofs.Common.{◌≡◌, ◌∙◌, refl, length}
use Rattle.amr_post.specs.declared.ranks.Rank.{Rank}
use Rattle.amr_post.specs.Letters.{letters_in}
use Rattle.amr_gather.specs.Totals.{Totals}
use Rattle.amr_gather.specs.Held.{totals_told}
use Rattle.amr_gather.proofs.SetAnew.{have_shares, set_anew}
use Rattle.amr_gather.proofs.Told.{still_holds, told_is}
use Rattle.amr_gather.proofs.gather.set_letter.Goals as goal

pub set_amounts-requires-clause-shares : goal.set_amounts-requires-clause-shares
set_amounts-requires-clause-shares c =
    let t : Totals = totals_told c.args.rank.now in
    have_shares t.words c.args.from (length c.args.totals.now) (letters_in c.args.rank.now.post.parcels.items) t.lists c.requires.held.letters c.requires.held.counted c.requires.words

pub returns-clause-held : goal.returns-clause-held
returns-clause-held c =
    let t : Totals = totals_told c.args.rank.now in
    let new : Rank = record c.args.rank.now { post = c.set_amounts.new.self } in
    still_holds new _ (set_anew c.args.rank.now new c.args.from c.args.totals.now c.set_amounts.ensures.post c.set_amounts.ensures.unsent c.set_amounts.ensures.letters refl t c.requires.held c.requires.from c.requires.words)

pub returns-clause-told : goal.returns-clause-told
returns-clause-told c =
    let t : Totals = totals_told c.args.rank.now in
    let new : Rank = record c.args.rank.now { post = c.set_amounts.new.self } in
    told_is new _ (set_anew c.args.rank.now new c.args.from c.args.totals.now c.set_amounts.ensures.post c.set_amounts.ensures.unsent c.set_amounts.ensures.letters refl t c.requires.held c.requires.from c.requires.words)
