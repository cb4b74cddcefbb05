use Rattle.std.proofs.Common.{◌∙◌, ◌&&◌, ap, refl, List, ℕ}
use Rattle.std.specs.List.{count_by}
use Rattle.amr_box.specs.Cells.{cells_of, holds, width}
use Rattle.amr_tags.specs.Bits.{bit_of, words_for}
use Rattle.amr_tags.specs.TagSets.{TagSet, column_in, has, row_in}
use Rattle.amr_tags.proofs.CellCounts.{apart-count, meet-count, part-common}
use Rattle.amr_tags.proofs.Tags.count_in.Goals as goal

pub count_part-requires-clause-part : goal.count_part-requires-clause-part
count_part-requires-clause-part c = part-common c.self.inside.bx c.args.b c.in-Some.part c.in-Some.ensures.corners (c.in-Some.ensures.some.0 refl)

pub returns-in-None : goal.returns-in-None
returns-in-None c =
    apart-count c.self.inside.bx c.args.b c.self.inside.words.items (c.in-None.ensures.none.0 refl)
    ∙ ap (λ (t : TagSet). count_by (λ q. holds c.args.b q && has t q) (cells_of t.bx)) c.self.view_is

pub returns-in-Some : goal.returns-in-Some
returns-in-Some c =
    c.count_part.ensures
    ∙ ap (λ (words : List ℕ). count_by (λ q. holds c.in-Some.part q && bit_of (words_for (width c.self.inside.bx)) words (column_in c.self.inside.bx q) (row_in c.self.inside.bx q)) (cells_of c.self.inside.bx)) c.deref.ensures.value
    ∙ meet-count c.self.inside.bx c.args.b c.in-Some.part c.self.inside.words.items (λ q. c.in-Some.ensures.cells.at q)
    ∙ ap (λ (t : TagSet). count_by (λ q. holds c.args.b q && has t q) (cells_of t.bx)) c.self.view_is
