use Rattle.std.proofs.Common.{◌∙◌, ap}
use Rattle.std.specs.Global.{Vec}
use Rattle.amr_ranks.specs.declared.item.Item.{Item}
use Rattle.amr_letters.specs.Shared.{sharing}
use Rattle.amr_letters.proofs.Made.{one_made}
use Rattle.amr_letters.proofs.bring.letters_for.Goals as goal

pub loop-from-preserved : goal.loop-from-preserved
loop-from-preserved c =
    one_made (sharing c.args.s) c.args.ranks c.args.to c.loop-from.from c.loop-from.lists.items c.loop-from.letters.items c.push.new.self.items c.replace-items.result c.replace-items.new.dest c.index_mut.result.now c.make.result
    c.loop-from-test.true c.loop-from.invariant (c.replace-items.ensures.value ∙ c.index_mut.ensures.value) (ap (λ (x : Vec Item). x.items) c.replace-items.ensures.after ∙ c.new.ensures.items) c.make.ensures c.in_ok-push.ensures.items
