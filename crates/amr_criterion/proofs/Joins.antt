-- Sets of tags to which cells are added, more than once.
use Rattle.std.proofs.Common.{◌≡◌, Bool, false, ◌&&◌, ◌||◌, refl, sym, ap, ◌∙◌}
use Rattle.std.proofs.Math.Bool.{and-false, or-false, and-or_distrib_left}
use Rattle.amr_box.specs.declared.Cell.{Cell}
use Rattle.amr_box.specs.Cells.{Extent, holds}
use Rattle.amr_tags.specs.TagSets.{SameShape, TagSet, has}
use Rattle.amr_nest.proofs.Gathered.{joined}
use Rattle.amr_criterion.specs.Pairs.{IsJoined}

pub same_shapes : (s t u : TagSet) → SameShape s t → SameShape t u → SameShape s u
same_shapes s t u a b = record { bx = b.bx ∙ a.bx; x = b.x ∙ a.x; y = b.y ∙ a.y }

-- nothing is added
pub joined_none : (wanted : Cell → Bool) (s : TagSet) → ((c : Cell) → wanted c ≡ false) → IsJoined wanted s s
joined_none wanted s none = record {
  shape = record { bx = refl; x = refl; y = refl };
  cells = λ c. sym (ap (λ (w : Bool). has s c || (holds s.bx c && w)) (none c) ∙ ap (λ (w : Bool). has s c || w) (and-false (holds s.bx c)) ∙ or-false (has s c));
}

-- the same cells, by another test
pub joined_as : (v w : Cell → Bool) (s t : TagSet) → ((c : Cell) → w c ≡ v c) → IsJoined v s t → IsJoined w s t
joined_as v w s t same joined = record {
  shape = joined.shape;
  cells = λ c. joined.cells c ∙ sym (ap (λ (b : Bool). has s c || (holds s.bx c && b)) (same c));
}

-- cells are added twice
pub joined_twice : (v w both : Cell → Bool) (s t u : TagSet) → ((c : Cell) → both c ≡ (v c || w c)) → IsJoined v s t → IsJoined w t u → IsJoined both s u
joined_twice v w both s t u same first second = record {
  shape = same_shapes s t u first.shape second.shape;
  cells = λ c.
      second.cells c
      ∙ ap (λ (b : Extent). has t c || (holds b c && w c)) first.shape.bx
      ∙ ap (λ (h : Bool). h || (holds s.bx c && w c)) (first.cells c)
      ∙ joined (has s c) (holds s.bx c) (v c) (w c)
      ∙ sym (ap (λ (b : Bool). has s c || (holds s.bx c && b)) (same c));
}

-- within a part
pub joined_within : (part : Extent) (v w both : Cell → Bool) (s t u : TagSet) → ((c : Cell) → both c ≡ (v c || w c)) → IsJoined (λ c. holds part c && v c) s t → IsJoined (λ c. holds part c && w c) t u → IsJoined (λ c. holds part c && both c) s u
joined_within part v w both s t u same = joined_twice (λ c. holds part c && v c) (λ c. holds part c && w c) (λ c. holds part c && both c) s t u (λ c. ap (λ (b : Bool). holds part c && b) (same c) ∙ and-or_distrib_left (holds part c) (v c) (w c))

pub joined_none_within : (part : Extent) (w : Cell → Bool) (s : TagSet) → ((c : Cell) → w c ≡ false) → IsJoined (λ c. holds part c && w c) s s
joined_none_within part w s none = joined_none (λ c. holds part c && w c) s (λ c. ap (λ (b : Bool). holds part c && b) (none c) ∙ and-false (holds part c))

pub joined_as_within : (part : Extent) (v w : Cell → Bool) (s t : TagSet) → ((c : Cell) → w c ≡ v c) → IsJoined (λ c. holds part c && v c) s t → IsJoined (λ c. holds part c && w c) s t
joined_as_within part v w s t same = joined_as (λ c. holds part c && v c) (λ c. holds part c && w c) s t (λ c. ap (λ (b : Bool). holds part c && b) (same c))
