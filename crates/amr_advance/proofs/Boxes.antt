-- The messages of a lot, one for each lot of its level.
use Rattle.std.proofs.Common.{◌≡◌, ◌∙◌, inl, inr, ◌⊎◌, ℕ, ◌<◌, List, [], length, get_or, sym, ap, subst, arith}
use Rattle.std.specs.Global.{Vec}
use Rattle.std.specs.List.{All, AllZip}
use Rattle.std.proofs.lemmas.Bool.{cases_eq}
use Rattle.std.proofs.lemmas.List.Elements.{All-same, AllZip-get_or, length_all_zip}
use Rattle.amr_patch.specs.declared.patches.Patch.{Patch}
use Rattle.amr_ghost.specs.Messages.{ArePacked, HasPacked, HasPlaces, mass_count}
use Rattle.amr_ghost.specs.declared.messages.Message.{Message}
use Rattle.amr_ghost.specs.declared.parts.FrameCopy.{FrameCopy}
use Rattle.amr_ghost.specs.declared.parts.FrameParts.{FrameParts}
use Rattle.amr_advance.specs.Lots.{AreMessagesOf}

-- a message has masses of these patches
abbrev pub IsPackedFrom : List Patch → Message → Type 0
IsPackedFrom rs m = ArePacked rs m.copies.items m.masses.items

packed_at : (rs : List Patch) (xs ys : List Message) → AllZip (HasPacked rs) xs ys → (t : ℕ) (m : Message) → t < length ys → HasPacked rs (get_or xs t m) (get_or ys t m)
packed_at rs xs ys h t m lt = let n = length_all_zip (HasPacked rs) xs ys h in AllZip-get_or (HasPacked rs) xs ys t m m h (omega (arith, lt, n))

pub all_packed : (rs : List Patch) (xs ys : List Message) → AllZip (HasPacked rs) xs ys → All (IsPackedFrom rs) ys
all_packed rs xs ys h = λ t m lt. (packed_at rs xs ys h t m lt).packed

module _ {parts : FrameParts} {place : ℕ → ℕ} {k runs : ℕ} {xs : List Message} (b : AreMessagesOf parts place k runs xs) where
  -- what holds of the copies of each part holds of those of each message
  pub box_copies : (P : FrameCopy → Type 0) (v : Vec FrameCopy) → ((t : ℕ) → t < runs → All P (get_or parts.copies.items (place t) v).items) → All (λ (m : Message). All P m.copies.items × HasPlaces m) xs
  box_copies P v h = λ t m lt. (by_place t m (omega (arith, lt, b.count)) (cases_eq t k), b.places t m lt)
    where
      by_place : (t : ℕ) (m : Message) → t < runs → (t ≡ k) ⊎ (t ≡ k → ⊥) → All P (get_or xs t m).copies.items
      by_place t m lt (inl same) = All-same P (get_or xs t m).copies.items [] (ap (λ n. (get_or xs n m).copies.items) same ∙ b.own m) (λ i c below. absurd (omega (arith, below)))
      by_place t m lt (inr other) = All-same P (get_or xs t m).copies.items (get_or parts.copies.items (place t) v).items (b.copies t m v lt other) (h t lt)

  -- packed messages are for the same copies
  pub box_packed : (rs : List Patch) (ys : List Message) → k < runs → AllZip (HasPacked rs) xs ys → AreMessagesOf parts place k runs ys
  box_packed rs ys here h = record {
    count = same;
    copies = λ t m v lt other. (λ i. ((at t m lt).copies i).items) ∙ b.copies t m v lt other;
    own = λ m. (λ i. ((at k m here).copies i).items) ∙ b.own m;
    places = λ t m lt. let y = packed_at rs xs ys h t m lt in let n = length_all_zip (HasPacked rs) xs ys h in y.count ∙ b.places t m (omega (arith, lt, n)) ∙ (λ j. mass_count (sym y.copies j).items);
  }
    where
      same : length ys ≡ runs
      same = sym (length_all_zip (HasPacked rs) xs ys h) ∙ b.count

      at : (t : ℕ) (m : Message) → t < runs → HasPacked rs (get_or xs t m) (get_or ys t m)
      at t m lt = packed_at rs xs ys h t m (let e = same in omega (arith, lt, e))

-- messages that each come from a box of the other lot
pub box_crossed : (parts : FrameParts) (place : ℕ → ℕ → ℕ) (k runs : ℕ) (ys : List Message) (xs : ℕ → List Message) → k < runs → length ys ≡ runs → ((t : ℕ) → t < runs → AreMessagesOf parts (place t) t runs (xs t))
    → ((t : ℕ) (m : Message) → t < runs → get_or ys t m ≡ get_or (xs t) k m) → AreMessagesOf parts (λ t. place t k) k runs ys
box_crossed parts place k runs ys xs here count boxes comes = record {
  count = count;
  copies = λ t m v lt other. (λ i. (comes t m lt i).copies.items) ∙ (boxes t lt).copies k m v here (λ e. other (sym e));
  own = λ m. (λ i. (comes k m here i).copies.items) ∙ (boxes k here).own m;
  places = λ t m below. let lt : t < runs = omega (arith, below, count) in subst HasPlaces (sym (comes t m lt)) ((boxes t lt).places k m (omega (arith, here, (boxes t lt).count)));
}
