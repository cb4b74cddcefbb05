use Rattle.std.proofs.Common.{◌≡◌, ◌∙◌, ◌&&◌, ◌||◌, ap, sym, subst, true, length, length-set, List, ℕ}
use Rattle.amr_box.specs.Cells.{height, holds, is_same_cell, width}
use Rattle.amr_tags.specs.Bits.{AreRows, bit_of, words_for}
use Rattle.amr_tags.specs.TagSets.{TagSet, column_in, has, row_in}
use Rattle.amr_tags.proofs.Places.{after_set, rows_after_set}
use Rattle.amr_tags.proofs.Tags.set.Goals as goal

pub invariant_of-self : goal.invariant_of-self
invariant_of-self c =
    let inside : holds c.self.inside.bx c.args.c ≡ true = ap (λ (t : TagSet). holds t.bx c.args.c) c.self.view_is ∙ c.requires in
    record {
      near = c.self.invariant.near;
      rows = subst (AreRows (width c.self.inside.bx) (height c.self.inside.bx)) (sym c.set_bit.ensures) (rows_after_set c.self.inside.bx c.self.inside.words.items c.args.c c.self.invariant.rows inside);
      room = c.self.invariant.room ∙ sym (ap length c.set_bit.ensures ∙ length-set _ _ _);
    }

pub returns-clause-cells : goal.returns-clause-cells
returns-clause-cells c =
    let inside : holds c.self.inside.bx c.args.c ≡ true = ap (λ (t : TagSet). holds t.bx c.args.c) c.self.view_is ∙ c.requires in
    λ d.
    ap (λ (words : List ℕ). holds c.self.inside.bx d && bit_of (words_for (width c.self.inside.bx)) words (column_in c.self.inside.bx d) (row_in c.self.inside.bx d)) c.set_bit.ensures
    ∙ after_set c.self.inside.bx c.self.inside.words.items c.args.c d c.self.invariant.rows inside
    ∙ ap (λ (t : TagSet). has t d || is_same_cell c.args.c d) c.self.view_is
