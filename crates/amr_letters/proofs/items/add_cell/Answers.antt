use Rattle.std.proofs.Common.{◌∙◌, ◌∷◌, ◌++◌, [], ap}
use Rattle.std.specs.Global.{Vec}
use Rattle.amr_ranks.specs.declared.item.Item.{Item}
use Rattle.amr_ranks.specs.declared.item.Item.TheVariants.{Cell}
use Rattle.amr_letters.proofs.Added.{added_one}
use Rattle.amr_letters.proofs.items.add_cell.Goals as goal

pub returns : goal.returns
returns c =
    added_one c.args.lists.now.items c.args.from c.index_mut.result.now c.push.new.self (record { patch = c.args.patch; slot = c.args.slot; mass = c.args.mass }) c.requires.from
    (c.in_ok-push.ensures.items ∙ ap (λ (x : Vec Item). x.items ++ Cell c.args.patch c.args.slot c.args.mass ∷ []) c.index_mut.ensures.value) c.requires.small
