-- Tags over the domain of a level, and the tags that the definition of a level grows.
use Rattle.std.specs.Prelude.{◌≡◌, ℕ, Bool, ◌&&◌}
use Rattle.amr_box.specs.declared.Cell.{Cell}
use Rattle.amr_box.specs.Cells.{holds}
use Rattle.amr_def.specs.declared.problem.Problem.{Problem}
use Rattle.amr_def.specs.Domain.{Domain, domain, domain_box, in_domain, is_near}
use Rattle.amr_def.specs.Tags.{is_grown}
use Rattle.amr_tags.specs.TagSets.{TagSet, has}
use Rattle.amr_tags.specs.TagSets.{is_near_tag}

-- the box of the set is the domain, and its axes are the domain's
pub record IsOverDomain (d : Domain) (t : TagSet) : Type 0 where
  pub bx : t.bx ≡ domain_box d
  pub x : t.wrap_x ≡ d.wrap_x
  pub y : t.wrap_y ≡ d.wrap_y

-- the cells of the set that a growth by n cells leaves are those of the domain at most n away from a tagged cell
abbrev pub TagsGrowInDomain : Type 0
TagsGrowInDomain =
    (d : Domain) (t : TagSet) → IsOverDomain d t → (tagged : Cell → Bool) → ((c : Cell) → has t c ≡ tagged c) → (n : ℕ) (c : Cell)
    → (holds t.bx c && is_near_tag t n c) ≡ (in_domain d c && is_near d n tagged c)

-- and so, over the domain of a level, the grown tags of the level where it grows by the problem's buffer
abbrev pub TagsGrowOnLevel : Type 0
TagsGrowOnLevel =
    (p : Problem) (l : ℕ) (t : TagSet) → IsOverDomain (domain p l) t → (tagged : Cell → Bool) → ((c : Cell) → has t c ≡ tagged c) → (c : Cell)
    → (holds t.bx c && is_near_tag t p.n_error_buf c) ≡ (in_domain (domain p l) c && is_grown p l tagged c)
