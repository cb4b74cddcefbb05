use Rattle.std.proofs.Common.{◌≡◌, ◌∙◌, ap, length}
use Rattle.std.specs.Prelude.{Some, map}
use Rattle.std.proofs.lemmas.List.{with_items_is}
use Rattle.std.proofs.lemmas.List.Elements.{All-same}
use Rattle.amr_ranks.specs.Letters.{LetterOf}
use Rattle.amr_post.specs.declared.post.Parcel.{Parcel}
use Rattle.amr_post.specs.Amounts.{HasShares, parcel_with}
use Rattle.amr_post.proofs.SetAnew.{channel_kept, in_parcels, letters_set, unsent_kept}
use Rattle.amr_post.proofs.post.RankChannel.set_amounts.Goals as goal

pub set_all-requires : goal.set_all-requires
set_all-requires c =
    let P : LetterOf → Type 0 = HasShares c.args.number (length c.args.amounts.now) in
    All-same (λ (q : Parcel). (l : LetterOf) → q.letter ≡ Some l → P l) c.as_mut_slice.result.now c.args.self.now.parcels.items c.as_mut_slice.ensures.value (in_parcels P c.args.self.now.parcels.items c.requires.shares)

pub returns-clause-post : goal.returns-clause-post
returns-clause-post c =
    channel_kept c.args.number c.args.amounts.now c.args.self.now _ c.requires.post
    (with_items_is c.args.self.now.parcels c.set_all.new.parcels (c.set_all.auto.parcels ∙ c.as_mut_slice.ensures.len)
    ∙ (c.set_all.ensures ∙ ap (map (parcel_with c.args.number c.args.amounts.now)) c.as_mut_slice.ensures.value)) (λ i. c.args.self.now.outlet) (λ i. c.args.self.now.inlet) (λ i. c.args.self.now.pass)

pub returns-clause-unsent : goal.returns-clause-unsent
returns-clause-unsent c =
    unsent_kept c.args.number c.args.amounts.now c.args.self.now c.requires.post c.requires.unsent _
    (with_items_is c.args.self.now.parcels c.set_all.new.parcels (c.set_all.auto.parcels ∙ c.as_mut_slice.ensures.len)
    ∙ (c.set_all.ensures ∙ ap (map (parcel_with c.args.number c.args.amounts.now)) c.as_mut_slice.ensures.value))

pub returns-clause-letters : goal.returns-clause-letters
returns-clause-letters c =
    letters_set c.args.number c.args.amounts.now c.args.self.now c.requires.post c.requires.unsent _
    (with_items_is c.args.self.now.parcels c.set_all.new.parcels (c.set_all.auto.parcels ∙ c.as_mut_slice.ensures.len)
    ∙ (c.set_all.ensures ∙ ap (map (parcel_with c.args.number c.args.amounts.now)) c.as_mut_slice.ensures.value))
