-- Items are added to the lists of ranks, a cell at a time.
use Rattle.std.proofs.Common.{◌≡◌, ◌≢◌, ◌∙◌, ℕ, zero, suc, ◌+◌, ◌<◌, ◌==◌, ◌^◌, cond, List, [], ◌∷◌, ◌++◌, length, set, inl, inr, refl, sym, ap, subst, arith, eq-eqb, ne_eqb, add-one}
use Rattle.std.specs.Prelude.{◌⊎◌, OnOk, map, slice_index_or}
use Rattle.std.specs.declared.result.Result.{Result}
use Rattle.std.specs.declared.result.Result.TheVariants.{Err, Ok}
use Rattle.std.specs.Global.{Vec}
use Rattle.std.specs.List.{All, flat_map, range_with_len}
use Rattle.std.specs.declared.option.Option.TheVariants.{None, Some}
use Rattle.std.proofs.lemmas.Bool.{cases_eq}
use Rattle.std.proofs.lemmas.List.{append-nil, append_assoc, get_or-set_other, get_or-set_same, length-set, map-append}
use Rattle.std.proofs.lemmas.List.Elements.{All-append, All-cons, All-nil, All-set}
use Rattle.amr_patch.proofs.Lookups.{same_default}
use Rattle.amr_ranks.specs.declared.item.Item.{Item}
use Rattle.amr_ranks.specs.declared.item.FrameCell.{FrameCell}
use Rattle.amr_letters.specs.Sources.{Sharing, ghost_at, source, value_of}
use Rattle.amr_letters.specs.Between.{AreSmallItems, IsSmallItem, between, frame_cell, is_rank, item_of, told_at, told_of}
use Rattle.amr_letters.specs.Shared.{AreAdded, AreItemsFor}

-- ---- a list of a range, and one more

pub flat_map-range_more : {X : Type 0} (f : ℕ → List X) (a n j : ℕ) → a + n ≡ j → flat_map f (range_with_len a (n + 1)) ≡ flat_map f (range_with_len a n) ++ f j
flat_map-range_more {X} f a n j is = rw add-one (go a n j is)
  where
    go : (a n j : ℕ) → a + n ≡ j → flat_map f (range_with_len a (suc n)) ≡ flat_map f (range_with_len a n) ++ f j
    go a zero j is = append-nil (f a) ∙ ap f (let e : a ≡ j = omega (arith, is) in e)
    go a (suc n) j is = ap (λ (xs : List X). f a ++ xs) (go (a + 1) n j (omega (arith, is))) ∙ sym (append_assoc (f a) (flat_map f (range_with_len (a + 1) n)) (f j))

-- ---- what is added

pub added_none : (cells : ℕ → List FrameCell) (lists : List (Vec Item)) → ((from : ℕ) → cells from ≡ []) → AreAdded cells lists lists
added_none cells lists none = record {
  counted = refl;
  added = λ from v lt. sym (ap (λ (cs : List FrameCell). (slice_index_or lists from v).items ++ map item_of cs) (none from) ∙ append-nil (slice_index_or lists from v).items);
  small = λ h. h;
}

pub added_same : (f g : ℕ → List FrameCell) (old new : List (Vec Item)) → ((from : ℕ) → f from ≡ g from) → AreAdded f old new → AreAdded g old new
added_same f g old new same h = record {
  counted = h.counted;
  added = λ from v lt. h.added from v lt ∙ ap (λ (cs : List FrameCell). (slice_index_or old from v).items ++ map item_of cs) (same from);
  small = h.small;
}

pub added_both : (f g : ℕ → List FrameCell) (old mid new : List (Vec Item)) → AreAdded f old mid → AreAdded g mid new → AreAdded (λ from. f from ++ g from) old new
added_both f g old mid new h k = record {
  counted = k.counted ∙ h.counted;
  added = λ from v lt.
      k.added from v (let c = h.counted in omega (arith, c, lt))
      ∙ ap (λ (is : List Item). is ++ map item_of (g from)) (h.added from v lt)
      ∙ append_assoc (slice_index_or old from v).items (map item_of (f from)) (map item_of (g from))
      ∙ ap (λ (is : List Item). (slice_index_or old from v).items ++ is) (sym (map-append item_of (f from) (g from)));
  small = λ s. k.small (h.small s);
}

-- one more of a range
pub added_more : (f : ℕ → ℕ → List FrameCell) (n : ℕ) (old mid new : List (Vec Item)) → AreAdded (λ from. flat_map (f from) (range_with_len 0 n)) old mid → AreAdded (λ from. f from n) mid new
    → AreAdded (λ from. flat_map (f from) (range_with_len 0 (n + 1))) old new
added_more f n old mid new h k =
    let zero_add : 0 + n ≡ n = omega arith in
    added_same (λ from. flat_map (f from) (range_with_len 0 n) ++ f from n) (λ from. flat_map (f from) (range_with_len 0 (n + 1))) old new
    (λ from. sym (flat_map-range_more (f from) 0 n n zero_add))
    (added_both (λ from. flat_map (f from) (range_with_len 0 n)) (λ from. f from n) old mid new h k)

-- a cell to the list of a rank
pub added_one : (lists : List (Vec Item)) (rank : ℕ) (w v : Vec Item) (c : FrameCell) → rank < length lists → v.items ≡ (slice_index_or lists rank w).items ++ item_of c ∷ [] → c.mass < 2 ^ 32
    → AreAdded (λ from. cond (rank == from) (c ∷ []) []) lists (set lists rank v)
added_one lists rank w v c there is small = record {
  counted = length-set lists rank v;
  added = λ from d lt. by_case from d lt (cases_eq rank from);
  small = λ all. All-set (λ (x : Vec Item). AreSmallItems x.items) lists rank v
      (subst AreSmallItems (sym is) (All-append IsSmallItem (slice_index_or lists rank w).items (item_of c ∷ []) (all rank w there) (All-cons IsSmallItem (item_of c) [] small (All-nil IsSmallItem)))) all;
}
  where
    by_case : (from : ℕ) (d : Vec Item) → from < length lists → (rank ≡ from) ⊎ (rank ≡ from → ⊥)
        → (slice_index_or (set lists rank v) from d).items ≡ (slice_index_or lists from d).items ++ map item_of (cond (rank == from) (c ∷ []) [])
    by_case from d lt (inl e) =
        ap (λ (x : Vec Item). x.items) (ap (λ j. slice_index_or (set lists rank v) j d) (sym e) ∙ get_or-set_same lists rank v d there)
        ∙ is
        ∙ ap (λ (x : Vec Item). x.items ++ item_of c ∷ []) (same_default lists rank w d there ∙ ap (λ j. slice_index_or lists j d) e)
        ∙ ap (λ b. (slice_index_or lists from d).items ++ map item_of (cond b (c ∷ []) [])) (sym (eq-eqb rank from e))
    by_case from d lt (inr ne) =
        ap (λ (x : Vec Item). x.items) (get_or-set_other lists rank from v d (λ e. ne (sym e)))
        ∙ sym (append-nil (slice_index_or lists from d).items)
        ∙ ap (λ b. (slice_index_or lists from d).items ++ map item_of (cond b (c ∷ []) [])) (sym (ne_eqb rank from ne))

-- ---- a slot

module _ (s : Sharing) (k slot : ℕ) where
  pub slot_silent : None ≡ source s (ghost_at s k slot) → (from : ℕ) → told_at s from k slot ≡ []
  slot_silent none from = ap (λ o. cond (is_rank from o) (frame_cell s k slot ∷ []) []) (sym none)

  abbrev cell_with : ℕ → FrameCell
  cell_with mass = record { patch = k; slot = slot; mass = mass }

  pub slot_told : (rank mass : ℕ) → Some rank ≡ source s (ghost_at s k slot) → mass ≡ value_of s (ghost_at s k slot) → (from : ℕ) → cond (rank == from) (cell_with mass ∷ []) [] ≡ told_at s from k slot
  slot_told rank mass is value from =
      ap (λ m. cond (rank == from) (cell_with m ∷ []) []) value
      ∙ ap (λ o. cond (is_rank from o) (frame_cell s k slot ∷ []) []) is

-- ---- a patch of this rank or of another

module _ (s : Sharing) (to k : ℕ) where
  pub own_told : (owner : ℕ) → owner ≡ to → (from : ℕ) → told_of s from k ≡ cond (owner == to) (told_of s from k) []
  own_told owner e from = ap (λ b. cond b (told_of s from k) []) (sym (eq-eqb owner to e))

  pub others_silent : (owner : ℕ) → owner ≢ to → (from : ℕ) → cond (owner == to) (told_of s from k) [] ≡ []
  others_silent owner ne from = ap (λ b. cond b (told_of s from k) []) (ne_eqb owner to ne)

-- ---- all

pub all_told : (s : Sharing) (ranks to : ℕ) (first lists : List (Vec Item)) → length first ≡ ranks → All (λ (v : Vec Item). v.items ≡ []) first → AreAdded (λ from. between s from to) first lists → AreItemsFor s ranks to lists
all_told s ranks to first lists count empty h = record {
  counted = h.counted ∙ count;
  told = λ from v lt.
      (let there : from < length first = omega (arith, lt, count) in
      h.added from v there ∙ ap (λ (is : List Item). is ++ map item_of (between s from to)) (empty from v there));
  small = h.small (λ from v lt. subst AreSmallItems (sym (empty from v lt)) (All-nil IsSmallItem));
}

pub on_ok : {T E P Q : Type 0} (r : Result T E) → OnOk r P → (P → Q) → OnOk r Q
on_ok (Ok x) h f = f h
on_ok (Err e) h f = h
