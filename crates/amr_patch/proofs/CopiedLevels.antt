-- Copies of levels are levels with the same boxes and masses.
use Rattle.std.proofs.Common.{◌≡◌, List, [], ◌∷◌, map, refl, subst}
use Rattle.amr_patch.specs.declared.levels.Level.{Level}
use Rattle.amr_patch.specs.Levels.{IsLevelCopy, level_of}
use Rattle.amr_patch.specs.Pairwise.{Pairwise}

pub same_levels : (ks ls : List Level) → Pairwise IsLevelCopy ks ls → map level_of ls ≡ map level_of ks
same_levels [] [] h = refl
same_levels [] (l ∷ ls) h = absurd h
same_levels (k ∷ ks) [] h = absurd h
same_levels (k ∷ ks) (l ∷ ls) h = λ i. h.0.level i ∷ same_levels ks ls h.1 i

-- a copy of a level is one of an equal level
pub copy_of : (k k' l : Level) → k ≡ k' → IsLevelCopy k l → IsLevelCopy k' l
copy_of k k' l e h = subst (λ (x : Level). IsLevelCopy x l) e h
