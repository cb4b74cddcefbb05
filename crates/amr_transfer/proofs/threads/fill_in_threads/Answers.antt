use Rattle.std.proofs.Common.{get_or, subst, arith}
use Rattle.amr_patch.specs.declared.patches.Patch.{Patch}
use Rattle.amr_patch.specs.Levels.{level_of}
use Rattle.amr_patch.specs.Patches.{KeepsFrameAndFluxes, masses_in}
use Rattle.amr_patch.proofs.LevelLaws.{pairwise_length}
use Rattle.amr_transfer.specs.Given.{HasMasses}
use Rattle.amr_transfer.specs.Shares.{kept_or_split}
use Rattle.amr_transfer.proofs.PatchChunks.{in_chunk, pair_at, pairwise_by}
use Rattle.amr_transfer.proofs.threads.fill_in_threads.Goals as goal

pub for_each_chunk_mut-requires-clause-accepts : goal.for_each_chunk_mut-requires-clause-accepts
for_each_chunk_mut-requires-clause-accepts g c κs within start p chunk =
    (λ d h. c.requires.parents d (in_chunk c.args.patches.now p.now c.max-size.result start d chunk h), c.requires.apart)

pub returns-clause-kept : goal.returns-clause-kept
returns-clause-kept g c =
    let ps = c.args.patches.now in
    let qs = c.for_each_chunk_mut.new.s in
    pairwise_by KeepsFrameAndFluxes ps qs c.for_each_chunk_mut.auto.s (λ i d lt.
    let made = (c.for_each_chunk_mut.ensures.by_index i d lt).1 in
    pair_at KeepsFrameAndFluxes ps qs made.argument.now made.after_call.now i made.offset d made.old_element made.new_element made.offset_in_chunk made.call.0)

pub returns-clause-masses : goal.returns-clause-masses
returns-clause-masses g c i d lt =
    let m = kept_or_split (level_of c.args.coarse.now).masses (masses_in c.args.old.now) in
    let made = (c.for_each_chunk_mut.ensures.by_index i d (omega (arith, lt, c.for_each_chunk_mut.auto.s))).1 in
    let count = pairwise_length KeepsFrameAndFluxes made.argument.now made.after_call.now made.call.0 in
    subst (λ (p : Patch). HasMasses m p) {x = get_or made.after_call.now made.offset d} made.new_element (made.call.1 made.offset d (omega (arith, count, made.offset_in_chunk)))
