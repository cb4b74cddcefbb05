use Rattle.std.specs.Global.{Vec}
use Rattle.amr_post.specs.declared.ranks.Rank.{Rank}
use Rattle.amr_letters.specs.Shared.{KnowFrames}
use Rattle.amr_def.specs.State.{Masses}
use Rattle.amr_patch.specs.Patches.{masses_in}
use Rattle.amr_letters.specs.Filled.{TellFrames}
use Rattle.amr_letters.specs.Sources.{Sharing}
use Rattle.amr_letters.proofs.Brought.{if_ok, told}
use Rattle.std.proofs.Common.{subst}
use Rattle.amr_letters.proofs.bring.frames_told.Goals as goal

pub bring-requires-clause-coarser : goal.bring-requires-clause-coarser
bring-requires-clause-coarser g c κs within = c.coarser_patches.ensures.owned c.args.ranks c.requires.coarser

pub returns-clause-tells : goal.returns-clause-tells
returns-clause-tells g c =
    let own = c.args.own in
    let coarser = c.coarser_patches.result in
    let s : Sharing = record { problem = c.args.p.now; level = c.args.l; patches = own.patches.now; owners = own.owners.now; coarser = coarser.patches.now; coarser_owners = coarser.owners.now } in
    if_ok {P = λ (v : Vec Rank). KnowFrames s c.args.ranks v.items} c.bring.result c.bring.ensures (λ v h.
    subst (λ (old : Masses). TellFrames c.args.p.now c.args.l (masses_in own.patches.now) old own.patches.now own.owners.now v.items) c.coarser_patches.ensures.masses
    (told s c.args.ranks c.requires.own (c.coarser_patches.ensures.owned c.args.ranks c.requires.coarser) v.items h))
