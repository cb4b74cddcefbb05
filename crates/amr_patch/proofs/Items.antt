-- The levels of a mesh, one by one, as a loop over them has them.
use Rattle.std.proofs.Common.{List, [], ap, arith, get_or, length, map, refl, suc, sym, zero, ℕ, ◌<◌, ◌∙◌, ◌∷◌, ◌≡◌}
use Rattle.std.proofs.lemmas.Option.{get_or_from_slice_get, slice_get_read}
use Rattle.amr_def.specs.State.{no_level}
use Rattle.amr_patch.specs.declared.levels.Level.{Level}
use Rattle.amr_patch.specs.Levels.{level_of}
use Rattle.amr_patch.specs.declared.meshes.Mesh.{Mesh}
use Rattle.amr_patch.specs.Meshes.{levels_of, state_of}

pub item : {A : Type 0} (xs : List A) (i : ℕ) (x d : A) → i < length xs → x ≡ get_or xs i x → x ≡ get_or xs i d
item xs i x d inside is = sym (get_or_from_slice_get xs i x d (slice_get_read xs (length xs) i x refl inside is))

pub level_entry : (ls : List Level) (i : ℕ) (x : Level) → i < length ls → get_or (map level_of ls) i no_level ≡ level_of (get_or ls i x)
level_entry [] i x h = absurd (omega (arith, h))
level_entry (k ∷ ls) zero x h = refl
level_entry (k ∷ ls) (suc i) x h = level_entry ls i x (omega (arith, h))

pub level_item : (ls : List Level) (i : ℕ) (x : Level) → i < length ls → x ≡ get_or ls i x → level_of x ≡ get_or (map level_of ls) i no_level
level_item ls i x h is = ap level_of is ∙ sym (level_entry ls i x h)

pub levels_are : (m : Mesh) → (state_of m).levels ≡ map level_of (levels_of m)
unfolding state_of levels_of
levels_are m = refl
