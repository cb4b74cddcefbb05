use Rattle.amr_letters.specs.Shared.{sharing}
use Rattle.amr_letters.proofs.Added.{all_told}
use Rattle.amr_letters.proofs.items.items_for.Goals as goal

pub returns : goal.returns
returns c =
    all_told (sharing c.args.s) c.args.ranks c.args.to c.in_ok-lists.lists.items _ c.in_ok-lists.ensures.counted c.in_ok-lists.ensures.empty c.in_ok-add_all.ensures
