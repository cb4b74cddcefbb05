use Rattle.std.proofs.Common.{◌∙◌, ◌&&◌, ◌||◌, [], ◌∷◌, List, map, sym, ap}
use Rattle.std.proofs.lemmas.List.{map-append}
use Rattle.amr_box.specs.Cells.{Extent, half, holds, in_boxes, parents_of}
use Rattle.amr_nest.proofs.Reaches.{corners_are}
use Rattle.amr_tags.specs.TagSets.{has}
use Rattle.amr_decoder.specs.declared.grid.Grid.{Grid}
use Rattle.amr_decoder.specs.Grids.{boxes_of}
use Rattle.amr_decoder.proofs.ParentSets.{parents_more}
use Rattle.amr_decoder.proofs.apart.Apart.push.Goals as goal

pub invariant_of-self-2 : goal.invariant_of-self-2
invariant_of-self-2 c =
    let b = c.args.grid.bx in
    let gs = c.self.inside.grids.items in
    let old = c.self.inside.parents in
    let new = c.set_in.new.self in
    let parents = corners_are c.coarsen2-parents.result (half b.lo.x) (half b.lo.y) (half b.hi.x) (half b.hi.y) c.coarsen2-parents.ensures.corners in
    let more = ap (λ (hs : List Grid). boxes_of hs) c.in_ok-push.ensures.items ∙ map-append (λ (g : Grid). g.bx) gs (c.args.grid ∷ []) in
    record {
      at = λ q.
          parents_more (has new q) (has old q) (holds old.bx q) (boxes_of gs) b q
          (c.set_in.ensures.cells q ∙ ap (λ (e : Extent). has old q || (holds old.bx q && holds e q)) parents) (c.self.invariant.at q)
          ∙ ap (λ (bs : List Extent). holds old.bx q && in_boxes (map parents_of bs) q) (sym more)
          ∙ ap (λ (e : Extent). holds e q && in_boxes (map parents_of (boxes_of c.push.new.self.items)) q) (sym c.set_in.ensures.shape.bx);
    }
