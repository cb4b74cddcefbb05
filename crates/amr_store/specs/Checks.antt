-- What checking a store finds.
use Rattle.std.specs.Prelude.{ℕ, ◌≡◌, ◌≤◌, ◌<◌, ◌^◌, ⊤, Bool, true, false, List, Option, Some, None, option_map, vec_len}
use Rattle.amr_store.specs.declared.part.Part.{Part}
use Rattle.amr_store.specs.declared.slot.Slot.{Slot as Known}
use Rattle.amr_store.specs.declared.check.Outline.{Outline}
use Rattle.amr_store.specs.declared.check.Checked.{Checked}
use Rattle.amr_store.specs.declared.check.Checked.TheVariants.{Whole, Faulty}
use Rattle.amr_store.specs.declared.check.SlotsFound.{SlotsFound}
use Rattle.amr_store.specs.declared.check.SlotsFound.TheVariants.{Sound, Broken}
use Rattle.amr_store.specs.declared.fields.Head.{Head}
use Rattle.amr_store.specs.Fields.{SaysHead, magic_in}
use Rattle.amr_store.specs.Layout.{gate_at, text_length}
use Rattle.amr_store.specs.Stored.{slot_of, entry_at, is_broken, deltas_of, slots_of, first_found, tests, is_empty, is_renewed, end_in}
use Rattle.amr_store.specs.Table.{table, slot_count, AreSound, IsNumbered}

-- the first slots of a part that are sound, and what is known of them
pub record SlotsRead (part : List ℕ) (lead size n : ℕ) (slots : List (Option Known)) : Type 0 where
  pub sound : (k : ℕ) → k < n → is_broken part (gate_at k lead size) size ≡ false
  pub known : slots ≡ table (λ k. option_map slot_of (entry_at part (gate_at k lead size))) n

-- a broken slot, and those before it sound
pub record BrokenFirst (part : List ℕ) (lead size n number : ℕ) : Type 0 where
  pub within : number < n
  pub before : (k : ℕ) → k < number → is_broken part (gate_at k lead size) size ≡ false
  pub broken : is_broken part (gate_at number lead size) size ≡ true

abbrev pub AreSlots : SlotsFound → List ℕ → ℕ → ℕ → ℕ → Type 0
AreSlots (Sound slots) part lead size n = SlotsRead part lead size n slots.items
AreSlots (Broken number) part lead size n = BrokenFirst part lead size n number

-- all slots, or one of them
abbrev pub HasAll : ℕ → SlotsFound → Type 0
HasAll n (Sound slots) = vec_len slots ≡ n
HasAll n (Broken number) = number < n

-- what an outline says
pub record IsOutline (outline : Outline) (part : List ℕ) : Type 0 where
  pub head : SaysHead outline.head part
  pub deltas : outline.deltas ≡ deltas_of part
  pub slots : outline.slots.items ≡ slots_of part

-- the first test of these that applies, or the outline of a part where none does
abbrev pub Checks : Checked → List (Bool × Part) → List ℕ → Type 0
Checks (Faulty damage) rows part = first_found rows ≡ Some damage
Checks (Whole outline) rows part = (first_found rows ≡ None) × IsOutline outline part

-- text and slots are no longer than they may be, no slot is missing, the bases are no tie, and no record is stray
abbrev pub HasRoom : Checked → Type 0
HasRoom (Faulty damage) = ⊤
HasRoom (Whole outline) =
    (outline.head.text ≤ 65536) × (outline.head.slot_size ≤ 2 ^ 40) × IsNumbered outline.head.version outline.deltas
    × (vec_len outline.slots ≡ slot_count outline.deltas)
    × AreSound outline.deltas outline.slots.items

-- an image with a store at its first byte on which the tests find nothing
pub record IsHeldBy (head : Head) (image : List ℕ) : Type 0 where
  pub held : is_empty image ≡ false
  pub sound : first_found (tests (magic_in true image) image) ≡ None
  pub head_is : SaysHead head image

-- the same of an image that was renewed, by the place of the new store and the length of the old problem
pub record IsRenewedAt (text base : ℕ) (image : List ℕ) : Type 0 where
  pub held : is_empty image ≡ false
  pub sound : first_found (tests (magic_in true image) image) ≡ None
  pub text_is : text ≡ text_length image
  pub renewed : is_renewed image ≡ true
  pub base_is : base ≡ end_in image

-- the new store of a renewed one, on which the tests find nothing
pub record IsInner (inner : Outline) (part : List ℕ) : Type 0 where
  pub sound : first_found (tests (magic_in false part) part) ≡ None
  pub outline_is : IsOutline inner part
