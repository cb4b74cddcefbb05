use Rattle.std.proofs.Common.{◌≡◌, ◌∙◌, ◌&&◌, false, map, sym, ap, subst}
use Rattle.std.specs.Prelude.{◌↔◌, IsNone}
use Rattle.std.specs.List.{All, list_any}
use Rattle.amr_box.specs.declared.Cell.{Cell}
use Rattle.amr_box.specs.Cells.{Extent, half, holds, in_boxes, parents_of}
use Rattle.amr_nest.proofs.Reaches.{corners_are}
use Rattle.amr_payload.specs.Tests.{meets}
use Rattle.amr_tags.specs.TagSets.{has}
use Rattle.amr_decoder.specs.Apart.{Earlier, IsOverParents, newest_first}
use Rattle.amr_decoder.specs.Grids.{boxes_of}
use Rattle.amr_decoder.proofs.GridReadings.{any-reverse}
use Rattle.amr_decoder.proofs.ParentSets.{met_by_tags}
use Rattle.amr_decoder.proofs.apart.Apart.meets.Goals as goal

pub returns : goal.returns
returns c =
    let b = c.args.b.now in
    let below = c.args.self.now.below in
    let gs = c.self.inside.grids.items in
    let tags = c.self.inside.parents in
    let all : All (IsOverParents below) (boxes_of gs) = subst (λ (e : Earlier). All (IsOverParents below) (boxes_of e.grids)) (sym c.self.view_is) c.requires.earlier in
    let none = subst (λ (e : Extent). IsNone c.bounding_in.result ↔ ((q : Cell) → (holds e q && has tags q) ≡ false))
    (corners_are c.coarsen2.result (half b.lo.x) (half b.lo.y) (half b.hi.x) (half b.hi.y) c.coarsen2.ensures.corners) c.bounding_in.ensures.none in
    c.is_some.ensures
    ∙ met_by_tags below b c.requires.new c.bounding_in.result (boxes_of gs) (has tags) all
    (λ q. c.self.invariant.at q ∙ ap (λ (e : Earlier). holds e.below q && in_boxes (map parents_of (boxes_of gs)) q) c.self.view_is) none
    ∙ any-reverse (meets b) (boxes_of gs)
    ∙ ap (λ (e : Earlier). list_any (meets b) (newest_first e.grids)) c.self.view_is
