-- What opening a disk finds. (profile)
use Rattle.std.specs.Prelude.{ℕ, ◌≡◌, ⊤, nat_eq, true, false, List, Option}
use Rattle.std.specs.Cmp.Lexicographic.{pointwise}
use Rattle.amr_store.specs.declared.check.Outline.{Outline}
use Rattle.amr_store.specs.declared.found.Found.{Found}
use Rattle.amr_store.specs.declared.found.Found.TheVariants.{Nothing, Ready, Damaged}
use Rattle.amr_store.specs.declared.part.Part.TheVariants.{Renewal}
use Rattle.amr_store.specs.declared.store.Store.{Store}
use Rattle.amr_store.specs.Shown.{IsDamaged, Shows}
use Rattle.amr_store.specs.Stands.{IsStoreReady, Stands, is_shut, base_in, version_in, problem_in, slot_size_in, deltas_in, slots_in}
use Rattle.amr_store.specs.Stored.{Stored, Empty, stored}

-- exactly what is stored: no store, a store that shows its state, or a damaged part
abbrev pub Finds : Found → Stored → Type 0
Finds Nothing found = found ≡ Empty
Finds (Ready store) found = Shows store found
Finds (Damaged part) found = IsDamaged found part

-- a store that was found is not shut, and stands for what the disk holds
abbrev pub IsReadyFound : {D : Type 0} → (D → Option (List ℕ)) → (D → ℕ) → (D → ℕ → List ℕ → Type 0) → Found → D → Type 0
IsReadyFound seen moment leaves Nothing disk = ⊤
IsReadyFound seen moment leaves (Ready store) disk = (is_shut store ≡ false) × IsStoreReady seen moment leaves store disk
IsReadyFound seen moment leaves (Damaged part) disk = ⊤

-- the same of an image, with all that the store in memory stands for
abbrev pub FindsIn : Found → List ℕ → Type 0
FindsIn Nothing image = stored image ≡ Empty
FindsIn (Ready store) image = Stands store image
FindsIn (Damaged part) image = IsDamaged (stored image) part

-- a store that was found is not shut
abbrev pub IsUnshut : Found → Type 0
IsUnshut Nothing = ⊤
IsUnshut (Ready store) = is_shut store ≡ false
IsUnshut (Damaged part) = ⊤

-- a store at a base, as its outline says
pub record IsStoreAtBase (base : ℕ) (inner : Outline) (store : Store) : Type 0 where
  pub base_is : base_in store ≡ base
  pub version : version_in store ≡ inner.head.version
  pub slot_size : slot_size_in store ≡ inner.head.slot_size
  pub deltas : deltas_in store ≡ inner.deltas
  pub slots : slots_in store ≡ inner.slots.items

-- the new store of a renewed one, where it holds the old problem
abbrev pub IsRenewedFound : ℕ → Outline → List ℕ → List ℕ → Found → Type 0
IsRenewedFound base inner problem old Nothing = ⊥
IsRenewedFound base inner problem old (Ready store) = (pointwise nat_eq problem old ≡ true) × (problem_in store ≡ problem) × IsStoreAtBase base inner store
IsRenewedFound base inner problem old (Damaged part) = (pointwise nat_eq problem old ≡ false) × (part ≡ Renewal)
