use Rattle.std.proofs.Common.{◌≡◌, ◌∙◌, get_or, refl, sym, ap, arith}
use Rattle.std.specs.Global.{Vec}
use Rattle.amr_layout.specs.declared.PatchLayout.{PatchLayout}
use Rattle.amr_layout.specs.declared.PutAt.{PutAt}
use Rattle.amr_layout.proofs.HandedPuts.{all_borders, all_masks, all_puts, none_handed, one_handed}
use Rattle.amr_layout.proofs.places.hand_puts.Goals as goal

pub loop-i-init : goal.loop-i-init
loop-i-init c = none_handed c.args.lists.now c.args.patches.now

pub loop-i-preserved : goal.loop-i-preserved
loop-i-preserved c =
    let lists = c.loop-i.lists in
    let puts : Vec PutAt = c.replace-puts.result in
    let was : PatchLayout = get_or c.loop-i.patches c.loop-i.i c.index-patches-i.result in
    let taken : puts ≡ get_or lists c.loop-i.i puts = c.replace-puts.ensures.value ∙ ap (get_or lists c.loop-i.i) (c.index-lists-i.is ∙ sym c.replace-puts.ensures.value) in
    one_handed c.args.lists.now c.args.patches.now lists c.loop-i.patches c.loop-i.i c.loop-i.invariant (omega arith) c.requires was (record { puts = puts; border = was.border; mask = was.mask }) c.replace-puts.new.dest puts (ap (get_or c.loop-i.patches c.loop-i.i) c.index-patches-i.is) taken refl refl refl

pub returns-clause-puts : goal.returns-clause-puts
returns-clause-puts c = all_puts c.args.lists.now c.args.patches.now c.loop-i.lists c.loop-i.patches c.loop-i.i c.loop-i.invariant (omega arith) c.requires

pub returns-clause-border : goal.returns-clause-border
returns-clause-border c = all_borders c.args.lists.now c.args.patches.now c.loop-i.lists c.loop-i.patches c.loop-i.i c.loop-i.invariant (omega arith) c.requires

pub returns-clause-mask : goal.returns-clause-mask
returns-clause-mask c = all_masks c.args.lists.now c.args.patches.now c.loop-i.lists c.loop-i.patches c.loop-i.i c.loop-i.invariant (omega arith) c.requires
