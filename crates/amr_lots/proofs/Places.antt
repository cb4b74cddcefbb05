-- The places that patches read, gone over patch after patch, and sizes written in their turn.
use Rattle.std.proofs.Common.{◌≡◌, ◌∙◌, ◌⊎◌, inl, inr, ℕ, ◌+◌, ◌-◌, ◌^◌, ◌<◌, ◌≤◌, List, length, get_or, take, drop, Fits, w64, sym, ap, subst, arith}
use Rattle.std.specs.Prelude.{slice_index}
use Rattle.std.specs.List.{All, Contains}
use Rattle.std.proofs.lemmas.Bool.{cases_lt}
use Rattle.std.proofs.lemmas.List.{get_or_default}
use borrow.Rule.Slice.PartMut.{put_mid}
use Rattle.amr_ghost.proofs.Counts.{before_part, in_part, part_length, whole_length}
use Rattle.amr_layout.specs.declared.PatchLayout.{PatchLayout}
use Rattle.amr_lots.specs.Works.{places_read}
use Rattle.amr_lots.proofs.Flat.{flat_at, flat_contains, flat_more, flat_within}

abbrev borders : PatchLayout → List ℕ
borders t = t.border.items

-- the places of patch k, where those of the patches before it are done
module _ (ts : List PatchLayout) (k : ℕ) (t : PatchLayout) (lt : k < length ts) (done : ℕ) (before : done ≡ length (places_read (take k ts))) (b : List ℕ) (is : b ≡ (get_or ts k t).border.items) where
  many : length b ≡ length (get_or ts k t).border.items
  many = ap length is

  pub end_is : done + length b ≡ length (places_read (take (k + 1) ts))
  end_is = omega (arith, before, many, flat_more borders ts k t lt)

  pub end_most : done + length b ≤ length (places_read ts)
  end_most = omega (arith, before, many, flat_within borders ts k t lt)

  pub end_fits : (xs : List ℕ) → length (places_read ts) ≤ length xs → length xs < 2 ^ 63 → Fits w64 (done + length b)
  end_fits xs room small = omega (arith, end_most, room, small)

  place_is : (j : ℕ) → j < length b → slice_index (places_read ts) (done + j) ≡ slice_index b j
  place_is j below =
      ap (λ n. slice_index (places_read ts) (n + j)) before
      ∙ flat_at borders ts k j t 0 lt (omega (arith, below, many))
      ∙ ap (λ (xs : List ℕ). slice_index xs j) (sym is)

  -- what holds of each place holds of these
  pub part_all : (P : ℕ → Type 0) → All P (places_read ts) → All P b
  part_all P all j place below =
      subst P (get_or_default (places_read ts) (done + j) place 0 (omega (arith, below, end_most)) ∙ place_is j below ∙ get_or_default b j 0 place below) (all (done + j) place (omega (arith, below, end_most)))

  pub part_contains : (place : ℕ) → Contains b place → Contains (places_read ts) place
  part_contains place has = flat_contains borders ts k t place lt (subst (λ (xs : List ℕ). Contains xs place) is has)

  -- the sizes of these, written from `done` on
  module _ (faces : ℕ → ℕ) (xs ys : List ℕ) (room : length (places_read ts) ≤ length xs) (n : ℕ) (n_is : n ≡ length b) (same : length ys ≡ length (take n (drop done xs))) where
    within : done + n ≤ length xs
    within = omega (arith, end_most, room, n_is)

    pub part_room : length b ≤ length (take n (drop done xs))
    part_room = omega (arith, n_is, part_length xs ys done n within)

    pub count_next : length (put_mid done n xs ys) ≡ length xs
    count_next = whole_length xs ys done n within same

    pub read_next : ((j : ℕ) → j < done → faces (slice_index (places_read ts) j) ≡ slice_index xs j + 1) → ((j : ℕ) → j < length b → faces (slice_index b j) ≡ slice_index ys j + 1)
        → (j : ℕ) → j < done + length b → faces (slice_index (places_read ts) j) ≡ slice_index (put_mid done n xs ys) j + 1
    read_next read here j below = from (cases_lt j done)
      where
        later : (i : ℕ) → j ≡ done + i → i < length b → faces (slice_index (places_read ts) j) ≡ slice_index (put_mid done n xs ys) j + 1
        later i e small =
            ap (λ u. faces (slice_index (places_read ts) u)) e ∙ ap faces (place_is i small) ∙ here i small
            ∙ ap (λ u. u + 1) (sym (in_part xs ys done n within i (omega (arith, small, same, n_is, part_length xs ys done n within)))) ∙ ap (λ u. slice_index (put_mid done n xs ys) u + 1) (sym e)

        from : ((j < done) ⊎ (done ≤ j)) → faces (slice_index (places_read ts) j) ≡ slice_index (put_mid done n xs ys) j + 1
        from (inl low) = read j low ∙ ap (λ u. u + 1) (sym (before_part xs ys done n within j low))
        from (inr high) = let at : j ≡ done + (j - done) = omega (arith, high) in later (j - done) at (omega (arith, at, below))
