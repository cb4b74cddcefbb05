use Rattle.std.proofs.Common.{◌∙◌, ◌&&◌, ap, List, ℕ}
use Rattle.std.proofs.Math.Bool.{and-false}
use Rattle.amr_box.specs.Cells.{holds, width}
use Rattle.amr_tags.specs.Bits.{bit_of, words_for}
use Rattle.amr_tags.specs.TagSets.{column_in, row_in}
use Rattle.amr_tags.proofs.Places.{empty-bit_of}
use Rattle.amr_tags.proofs.Tags.make.Goals as goal

pub returns-clause-empty : goal.returns-clause-empty
returns-clause-empty c = λ k.
    ap (λ (words : List ℕ). holds c.args.b k && bit_of (words_for (width c.args.b)) words (column_in c.args.b k) (row_in c.args.b k)) c.in_ok-words.ensures
    ∙ ap (λ t. holds c.args.b k && t) (empty-bit_of (words_for (width c.args.b)) _ (column_in c.args.b k) (row_in c.args.b k))
    ∙ and-false (holds c.args.b k)
