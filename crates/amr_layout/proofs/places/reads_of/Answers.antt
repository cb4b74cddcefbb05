use Rattle.std.proofs.Common.{◌≡◌, ◌-◌, ◌<◌, ◌≤◌, ◌⊎◌, inl, inr, Bool, List, [], ◌∷◌, length, refl, sym, ap, ◌∙◌, arith, rules}
use Rattle.std.specs.Global.{Vec}
use Rattle.std.proofs.lemmas.Bool.{cases_lt}
use Rattle.std.proofs.lemmas.List.{with_items_is}
use Rattle.amr_box.specs.declared.Face.{Face}
use Rattle.amr_def.specs.Domain.{domain_of}
use Rattle.amr_faces.specs.Faces.{masked_faces}
use Rattle.amr_faces.proofs.MaskedEnds.{none_masked}
use Rattle.amr_layout.specs.Places.{borders_of}
use Rattle.amr_layout.proofs.places.reads_of.Goals as goal

no_items : (fs : List Face) → length fs ≡ 0 → fs ≡ []
no_items [] e = refl
no_items (f ∷ fs) e = absurd (omega (arith, e))

pub returns-clause-mask : goal.returns-clause-mask
returns-clause-mask c = from (cases_lt 0 (c.put_borders.new.places.count - c.args.places.now.count))
  where
    from : (0 < c.put_borders.new.places.count - c.args.places.now.count) ⊎ (c.put_borders.new.places.count - c.args.places.now.count ≤ 0) → masked_faces c.args.b.now c.mask_for-told.result.items ≡ borders_of (domain_of c.args.dom.now) c.args.patches.now c.args.reader.each c.args.b.now
    from (inl some) =
        ap (λ (v : Vec Bool). masked_faces c.args.b.now v.items) (c.mask_for-told.ensures.some some)
        ∙ ap (masked_faces c.args.b.now) (with_items_is c.in_ok-mask.mask c.put_borders.new.mask (search rules))
        ∙ c.in_ok-put_borders.ensures.mask
    from (inr past) =
        let none : c.put_borders.new.places.count - c.args.places.now.count ≡ 0 = omega (arith, past) in
        let count = c.in_ok-put_borders.ensures.got.count in
        ap (masked_faces c.args.b.now) (c.mask_for-told.ensures.none none) ∙ none_masked c.args.b.now c.requires.near
        ∙ sym (no_items (borders_of (domain_of c.args.dom.now) c.args.patches.now c.args.reader.each c.args.b.now) (omega (arith, none, count)))
