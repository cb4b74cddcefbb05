use Rattle.std.proofs.Common.{◌≡◌, ◌∙◌, ◌&&◌, ◌||◌, List, ℕ, ap, subst, sym}
use Rattle.amr_box.specs.Cells.{Extent, height, holds, width}
use Rattle.amr_tags.specs.Bits.{AreRows, bit_of, words_for}
use Rattle.amr_tags.specs.TagSets.{TagSet, column_in, has, row_in}
use Rattle.amr_tags.proofs.Joins.{joined-cells, joined-rows}
use Rattle.amr_tags.proofs.Tags.join.Goals as goal

pub invariant_of-self : goal.invariant_of-self
invariant_of-self c =
    let b = c.self.inside.bx in
    let same : c.args.other.now.bx ≡ b = c.requires ∙ sym (ap (λ (t : TagSet). t.bx) c.self.view_is) in
    let others : AreRows (width b) (height b) c.args.other.now.words = subst (λ (e : Extent). AreRows (width e) (height e) c.args.other.now.words) same c.words.ensures.laid_out.rows in
    record {
      near = c.self.invariant.near;
      rows = joined-rows (width b) (height b) c.self.inside.words.items c.words.result.now c.join_words.new.words.items c.self.invariant.rows (subst (AreRows (width b) (height b)) (sym c.words.ensures.words) others) c.join_words.ensures.count c.join_words.ensures.each;
      room = c.self.invariant.room ∙ sym c.join_words.ensures.count;
    }

pub returns-clause-cells : goal.returns-clause-cells
returns-clause-cells c = λ q.
    let b = c.self.inside.bx in
    let same : b ≡ c.args.other.now.bx = ap (λ (t : TagSet). t.bx) c.self.view_is ∙ sym c.requires in
    joined-cells b c.self.inside.words.items c.words.result.now c.join_words.new.words.items c.join_words.ensures.each q
    ∙ ap (λ (t : TagSet). has t q || (holds b q && bit_of (words_for (width b)) c.words.result.now (column_in b q) (row_in b q))) c.self.view_is
    ∙ ap (λ (e : Extent). has c.args.self.now q || (holds e q && bit_of (words_for (width e)) c.words.result.now (column_in e q) (row_in e q))) same
    ∙ ap (λ (ws : List ℕ). has c.args.self.now q || (holds c.args.other.now.bx q && bit_of (words_for (width c.args.other.now.bx)) ws (column_in c.args.other.now.bx q) (row_in c.args.other.now.bx q))) c.words.ensures.words
