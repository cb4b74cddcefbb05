use Rattle.std.proofs.Common.{◌∙◌, ◌++◌, ◌∷◌, [], ap, sym}
use Rattle.amr_layout.proofs.LevelPlaces.{range_next}
use Rattle.amr_layout.proofs.places.places_from.Goals as goal

pub loop-place-preserved : goal.loop-place-preserved
loop-place-preserved c = c.in_ok-push.ensures.items ∙ ap (λ l. l ++ c.loop-place.place ∷ []) c.loop-place.invariant ∙ sym (range_next c.args.first c.loop-place.place c.loop-place.auto.place)
