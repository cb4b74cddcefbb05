-- The rows of a patch, gone over from the low one up or from the high one down.
use Rattle.std.proofs.Common.{◌≡◌, ◌≢◌, ℕ, ◌+◌, ◌-◌, ◌*◌, ◌<◌, ◌≤◌, ◌⊎◌, inl, inr, Bool, true, false, ℤ, pos, negsuc, List, length, refl, sym, ap, subst, ◌∙◌, arith}
use Rattle.std.specs.Prelude.{slice_index}
use Rattle.std.proofs.Math.Nat.{mul-le-mul_right}
use Rattle.std.proofs.lemmas.Bool.{cases_eq, cases_lt}
use Rattle.std.proofs.lemmas.Nat.{same_from_place}
use Rattle.amr_flux.specs.declared.pace.Pace.{Pace}
use Rattle.amr_flux.specs.Paces.{IsDone, IsFit, IsFitPatch, IsReadyRow, IsStepped, IsSteppedRow, IsUndone, IsWordOf, row_at, row_before, x_before, x_donor, x_share, y_before, y_share}
use Rattle.amr_flux.specs.Tables.{count_below, value}
use Rattle.amr_flux.proofs.Borders.{count_less, count_next, count_same}
use Rattle.amr_flux.proofs.Paces.{come_below, fits_still}
use Rattle.amr_flux.proofs.RowSteps.{cell_moved}

pub moved2 : (P : ℕ → ℕ → Type 0) {a a' b b' : ℕ} → a ≡ a' → b ≡ b' → P a b → P a' b'
moved2 P {a = a} {a' = a'} {b = b} {b' = b'} ea eb has = subst (λ n. P a' n) eb (subst (λ n. P n b) ea has)

-- ---- which rows are done

pub row_inside : (b : Bool) (h k : ℕ) → k < h → row_at b h k < h
row_inside false h k below = below
row_inside true h k below = omega (arith, below)

pub none_done : (b : Bool) (h j : ℕ) → j < h → IsDone b h 0 j → ⊥
none_done false h j below d = omega (arith, d)
none_done true h j below d = omega (arith, d, below)

all_done : (b : Bool) (h j : ℕ) → j < h → IsDone b h h j
all_done false h j below = below
all_done true h j below = omega arith

not_here : (b : Bool) (h k : ℕ) → k < h → IsDone b h k (row_at b h k) → ⊥
not_here false h k below d = omega (arith, d)
not_here true h k below d = omega (arith, d, below)

done_here : (b : Bool) (h k : ℕ) → k < h → IsDone b h (k + 1) (row_at b h k)
done_here false h k below = omega arith
done_here true h k below = omega (arith, below)

done_still : (b : Bool) (h k j : ℕ) → IsDone b h k j → IsDone b h (k + 1) j
done_still false h k j d = omega (arith, d)
done_still true h k j d = omega (arith, d)

done_split : (b : Bool) (h k j : ℕ) → k < h → j < h → IsDone b h (k + 1) j → IsDone b h k j ⊎ (j ≡ row_at b h k)
done_split false h k j below inside d = elim (cases_lt j k) [
  | inl less ↦ inl less
  | inr more ↦ inr (omega (arith, d, more))
]
done_split true h k j below inside d = elim (cases_lt (h - 1 - k) j) [
  | inl less ↦ inl (omega (arith, less, below))
  | inr more ↦ inr (omega (arith, d, more, below))
]

-- ---- the rows of values that the flow across comes from

pub before_here : (b : Bool) (w : ℕ) (values : List ℕ) (h k i : ℕ) → k < h → value w values (i + 1) (row_before b h k) ≡ y_before b w values i (row_at b h k)
before_here false w values h k i below = refl
before_here true w values h k i below = ap (value w values (i + 1)) (omega (arith, below))

pub before_next : (b : Bool) (h k : ℕ) → k < h → row_before b h (k + 1) ≡ row_at b h k + 1
before_next false h k below = refl
before_next true h k below = omega (arith, below)

pub before_inside : (b : Bool) (h k : ℕ) → k < h → row_before b h k < h + 2
before_inside false h k below = omega (arith, below)
before_inside true h k below = omega arith

-- ---- along a row

module _ (w j : ℕ) (a b : List ℕ) (same : (i : ℕ) → i < w + 2 → value w a i (j + 1) ≡ value w b i (j + 1)) where
  before_same : (c : ℤ) (i : ℕ) → i < w → x_before c w a i j ≡ x_before c w b i j
  before_same (pos n) i h = same i (omega (arith, h))
  before_same (negsuc n) i h = same (i + 2) (omega (arith, h))

  pub donor_same : (c : ℤ) (i : ℕ) → i < w + 1 → x_donor c w a i j ≡ x_donor c w b i j
  donor_same (pos n) i h = same i (omega (arith, h))
  donor_same (negsuc n) i h = same (i + 1) (omega (arith, h))

before_fit : (pace : Pace) (w j : ℕ) (values : List ℕ) → ((i : ℕ) → i < w + 2 → IsFit pace (value w values i (j + 1))) → (c : ℤ) (i : ℕ) → i < w → IsFit pace (x_before c w values i j)
before_fit pace w j values fit (pos n) i h = fit i (omega (arith, h))
before_fit pace w j values fit (negsuc n) i h = fit (i + 2) (omega (arith, h))

-- ---- one row more

module _ (pace : Pace) (b : Bool) (w h k : ℕ) (below : k < h) (values old entering : List ℕ)
    (fit : IsFitPatch pace w h old)
    (before : (q : ℕ) → IsUndone b w h k q → slice_index values q ≡ slice_index old q)
    (passed : (i : ℕ) → i < w → slice_index entering i ≡ y_share pace (value w old (i + 1) (row_before b h k))) where
  row_undone : (i : ℕ) → i < w + 2 → IsUndone b w h k ((row_at b h k + 1) * (w + 2) + i)
  row_undone i narrow i' j' hi hj d e =
      let same = same_from_place (row_at b h k + 1) i (j' + 1) (i' + 1) (w + 2) narrow (omega (arith, hi)) e in
      let here : j' ≡ row_at b h k = omega (arith, same.0) in
      not_here b h k below (subst (λ n. IsDone b h k n) here d)

  pub row_value : (i : ℕ) → i < w + 2 → value w values i (row_at b h k + 1) ≡ value w old i (row_at b h k + 1)
  row_value i narrow = before _ (row_undone i narrow)

  row_fit : (i : ℕ) → i < w + 2 → IsFit pace (value w values i (row_at b h k + 1))
  row_fit i narrow = fits_still pace _ _ (row_value i narrow) (fit.x i (row_at b h k) narrow (row_inside b h k below))

  pub row_ready : IsReadyRow pace w (row_at b h k) values entering
  row_ready = record {
    fit = row_fit;
    room = λ i inside.
        let u : IsFit pace (x_before pace.x.number w values i (row_at b h k)) = before_fit pace w (row_at b h k) values row_fit pace.x.number i inside in
        let v : IsFit pace (value w old (i + 1) (row_before b h k)) = at_row i (row_before b h k) inside (before_inside b h k below) in
        let most = come_below pace _ _ u.small v.small in
        omega (arith, most, passed i inside);
  }
    where
      at_row : (i r : ℕ) → i < w → r < h + 2 → IsFit pace (value w old (i + 1) r)
      at_row i r inside under = fit.y i r inside under

  pub room_here : (count : length values ≡ (h + 2) * (w + 2)) → (row_at b h k + 2) * (w + 2) ≤ length values
  room_here count =
      let in_h : row_at b h k < h = row_inside b h k below in
      let m : (row_at b h k + 2) * (w + 2) ≤ (h + 2) * (w + 2) = mul-le-mul_right (w + 2) (omega (arith, in_h)) in
      omega (arith, m, count)

  module _ (new : List ℕ) (row : IsSteppedRow pace w (row_at b h k) values new entering) where
    pub stepped_here : (i : ℕ) → i < w → IsStepped pace b w old new i (row_at b h k)
    stepped_here i inside = record {
      total = cell_moved pace refl (row_value (i + 1) (omega (arith, inside)))
          (ap (x_share pace) (before_same w (row_at b h k) values old row_value pace.x.number i inside))
          (passed i inside ∙ ap (y_share pace) (before_here b w old h k i below))
          (row.totals i inside);
    }

    other_cell : (i j : ℕ) → i < w → (j ≢ row_at b h k) → value w new (i + 1) (j + 1) ≡ value w values (i + 1) (j + 1)
    other_cell i j inside ne = row.others ((j + 1) * (w + 2) + (i + 1)) (λ i' hi e. ne (omega (arith, (same_from_place (j + 1) (i + 1) (row_at b h k + 1) (i' + 1) (w + 2) (omega (arith, inside)) (omega (arith, hi)) e).0)))

    -- after the flow through the row's end was exchanged
    module _ (some : 0 < w) (ended : List ℕ) (stays : (q : ℕ) → q ≢ (row_at b h k + 1) * (w + 2) + w → slice_index ended q ≡ slice_index new q) where
      ended_cell : (i j : ℕ) → i < w → (j ≢ row_at b h k) → value w ended (i + 1) (j + 1) ≡ value w values (i + 1) (j + 1)
      ended_cell i j inside ne = stays ((j + 1) * (w + 2) + (i + 1)) (λ e. ne (omega (arith, (same_from_place (j + 1) (i + 1) (row_at b h k + 1) w (w + 2) (omega (arith, inside)) (omega arith) e).0))) ∙ other_cell i j inside ne

      pub cells_more : (f : ℕ → ℕ → ℤ) → ((i : ℕ) → i < w → IsWordOf (f i (row_at b h k)) (value w ended (i + 1) (row_at b h k + 1))) → ((i j : ℕ) → i < w → j < h → IsDone b h k j → IsWordOf (f i j) (value w values (i + 1) (j + 1))) → (i j : ℕ) → i < w → j < h → IsDone b h (k + 1) j → IsWordOf (f i j) (value w ended (i + 1) (j + 1))
      cells_more f here made i j inside under d = at_each (cases_eq j (row_at b h k)) (done_split b h k j below under d)
        where
          at_each : (j ≡ row_at b h k) ⊎ (j ≢ row_at b h k) → IsDone b h k j ⊎ (j ≡ row_at b h k) → IsWordOf (f i j) (value w ended (i + 1) (j + 1))
          at_each (inl e) s = subst (λ n. IsWordOf (f i n) (value w ended (i + 1) (n + 1))) (sym e) (here i inside)
          at_each (inr ne) (inl d) = subst (λ n. IsWordOf (f i j) n) (sym (ended_cell i j inside ne)) (made i j inside under d)
          at_each (inr ne) (inr e) = absurd (ne e)

      pub others_more : (q : ℕ) → IsUndone b w h (k + 1) q → slice_index ended q ≡ slice_index old q
      others_more q undone =
          stays q (λ e. undone (w - 1) (row_at b h k) (omega (arith, some)) (row_inside b h k below) (done_here b h k below) (e ∙ ap (λ n. (row_at b h k + 1) * (w + 2) + n) (omega (arith, some))))
          ∙ row.others q (λ i hi. undone i (row_at b h k) hi (row_inside b h k below) (done_here b h k below))
          ∙ before q (λ i j hi hj d. undone i j hi hj (done_still b h k j d))

    pub passed_more : (after : List ℕ) → ((i : ℕ) → i < w → slice_index after i ≡ y_share pace (value w values (i + 1) (row_at b h k + 1))) → (i : ℕ) → i < w → slice_index after i ≡ y_share pace (value w old (i + 1) (row_before b h (k + 1)))
    passed_more after is i inside = is i inside ∙ ap (y_share pace) (row_value (i + 1) (omega (arith, inside)) ∙ ap (value w old (i + 1)) (sym (before_next b h k below)))

-- ---- border sizes of rows, one after another

-- how many of the marked rows are done
abbrev pub IsCounted : Bool → (ℕ → Bool) → ℕ → ℕ → ℕ → Type 0
IsCounted false test h k used = used ≡ count_below test k
IsCounted true test h k used = used + count_below test (h - k) ≡ count_below test h

pub counted_none : (b : Bool) (test : ℕ → Bool) (h : ℕ) → IsCounted b test h 0 0
counted_none false test h = refl
counted_none true test h = let e : h - 0 ≡ h = omega arith in omega (arith, ap (count_below test) e)

pub record IsPlaced (b : Bool) (test : ℕ → Bool) (h k used : ℕ) : Type 0 where
  pub inside : used < count_below test h
  pub place : row_at b (count_below test h) used ≡ count_below test (row_at b h k)
  pub next : IsCounted b test h (k + 1) (used + 1)

-- a marked row's size stands at the place that as many marked rows before it say
pub counted_marked : (b : Bool) (test : ℕ → Bool) (h k used : ℕ) → k < h → IsCounted b test h k used → test (row_at b h k) ≡ true → IsPlaced b test h k used
counted_marked false test h k used below is marked = record {
  inside = count_less test k h (count_below test h) used marked below (omega arith) is;
  place = is;
  next = ap (λ n. n + 1) is ∙ sym (count_next test k marked);
}
counted_marked true test h k used below is marked =
    let here : h - k ≡ h - 1 - k + 1 = omega (arith, below) in
    let count : count_below test (h - k) ≡ count_below test (h - 1 - k) + 1 = ap (count_below test) here ∙ count_next test (h - 1 - k) marked in
    let less : h - (k + 1) ≡ h - 1 - k = omega arith in
    record {
      inside = omega (arith, is, count);
      place = omega (arith, is, count);
      next = omega (arith, is, count, ap (count_below test) less);
    }

pub counted_free : (b : Bool) (test : ℕ → Bool) (h k used : ℕ) → k < h → IsCounted b test h k used → test (row_at b h k) ≡ false → IsCounted b test h (k + 1) used
counted_free false test h k used below is free = is ∙ sym (count_same test k free)
counted_free true test h k used below is free =
    let here : h - k ≡ h - 1 - k + 1 = omega (arith, below) in
    let count : count_below test (h - k) ≡ count_below test (h - 1 - k) = ap (count_below test) here ∙ count_same test (h - 1 - k) free in
    let less : h - (k + 1) ≡ h - 1 - k = omega arith in
    omega (arith, is, count, ap (count_below test) less)

-- the last cell of a row stands among the values
pub end_inside : (w h r n : ℕ) → r < h → n ≡ (h + 2) * (w + 2) → (r + 1) * (w + 2) + w < n
end_inside w h r n below count =
    let m : (r + 2) * (w + 2) ≤ (h + 2) * (w + 2) = mul-le-mul_right (w + 2) (omega (arith, below)) in
    omega (arith, m, count)

-- ---- after all rows

pub done_at_end : (b : Bool) (h k j : ℕ) → k ≡ h → j < h → IsDone b h k j
done_at_end b h k j e inside = subst (λ n. IsDone b h n j) (sym e) (all_done b h j inside)
