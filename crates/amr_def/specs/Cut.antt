-- Where a box is cut, by its signatures. (Berger and Rigoutsos: holes, then inflections; ties and halving: profile)
use Rattle.std.specs.Prelude.{ℕ, ◌+◌, ◌-◌, ◌*◌, ◌/◌, Bool, cond, ◌&&◌, ◌||◌, ℤ, pos, ◌-ℤ◌, int_lt, List, []}
use Rattle.std.specs.Prelude.{◌∷◌, length, nat_lt, nat_le, ◌==◌, slice_index, unsigned_abs}
use Rattle.std.specs.declared.option.Option.{Option}
use Rattle.std.specs.declared.option.Option.TheVariants.{None, Some}
use Rattle.std.specs.List.{filter, fold, range_with_len}
use Rattle.amr_box.specs.declared.Axis.{Axis}
use Rattle.amr_box.specs.declared.Axis.TheVariants.{X, Y}
use Rattle.amr_def.specs.Signature.{second_difference}

-- before the entry at `at` of the axis's signature, counted from the low end of the box
pub record Cut : Type 0 where
  pub axis : Axis
  pub at : ℕ

-- where both parts are at least w wide
abbrev pub legal_places : ℕ → List ℕ → List ℕ
legal_places w s = filter (λ i. nat_le w i && nat_le (i + w) (length s)) (range_with_len 1 (length s - 1))

-- how far a place is from the middle, in half cells
abbrev pub off_middle : List ℕ → ℕ → ℕ
off_middle s i = unsigned_abs (pos (2 * i) -ℤ pos (length s - 1))

-- the first of the places that no other is better than
abbrev pub first_best : {A : Type 0} → (A → A → Bool) → List A → Option A
first_best better [] = None
first_best better (a ∷ rest) = Some (fold (λ b c. cond (better c b) c b) a rest)

-- ---- holes: the nearest to the middle, of two the lower

abbrev pub holes : ℕ → List ℕ → List ℕ
holes w s = filter (λ i. slice_index s i == 0) (legal_places w s)

abbrev pub nearer : List ℕ → ℕ → ℕ → Bool
nearer s i j = nat_lt (off_middle s i) (off_middle s j)

abbrev pub best_hole : ℕ → List ℕ → Option ℕ
best_hole w s = first_best (nearer s) (holes w s)

-- ---- inflections: the sharpest, of those the nearest to the middle, of two the lower

abbrev pub opposite : ℤ → ℤ → Bool
opposite a b = (int_lt a (pos 0) && int_lt (pos 0) b) || (int_lt (pos 0) a && int_lt b (pos 0))

-- where both second differences are there, and their signs differ
abbrev pub inflections : ℕ → List ℕ → List ℕ
inflections w s = filter (λ i. nat_lt 1 i && (nat_lt (i + 1) (length s) && opposite (second_difference s (i - 1)) (second_difference s i))) (legal_places w s)

abbrev pub jump : List ℕ → ℕ → ℕ
jump s i = unsigned_abs (second_difference s i -ℤ second_difference s (i - 1))

abbrev pub sharper : List ℕ → ℕ → ℕ → Bool
sharper s i j = nat_lt (jump s j) (jump s i) || ((jump s i == jump s j) && nearer s i j)

abbrev pub best_inflection : ℕ → List ℕ → Option ℕ
best_inflection w s = first_best (sharper s) (inflections w s)

-- ---- the cut

abbrev pub cut_on : Axis → Option ℕ → Option Cut
cut_on a None = None
cut_on a (Some i) = Some (record { axis = a; at = i })

abbrev pub or_else : {A : Type 0} → Option A → Option A → Option A
or_else None b = b
or_else (Some a) b = Some a

-- of the best inflections of the first and the second axis the sharper, on a tie the first
abbrev pub sharper_of : Axis → List ℕ → Option ℕ → Axis → List ℕ → Option ℕ → Option Cut
sharper_of a s None b t j = cut_on b j
sharper_of a s (Some i) b t None = cut_on a (Some i)
sharper_of a s (Some i) b t (Some j) = cond (nat_lt (jump s i) (jump t j)) (cut_on b (Some j)) (cut_on a (Some i))

abbrev pub middle : ℕ → List ℕ → Option ℕ
middle w s = cond (nat_le (2 * w) (length s)) (Some (length s / 2)) None

-- a hole of the first axis, else one of the second, else an inflection, else the middle of the first axis
abbrev pub cut_in_order : ℕ → Axis → List ℕ → Axis → List ℕ → Option Cut
cut_in_order w a s b t =
    or_else (or_else (cut_on a (best_hole w s)) (cut_on b (best_hole w t)))
    (or_else (sharper_of a s (best_inflection w s) b t (best_inflection w t)) (cut_on a (middle w s)))

-- by the signatures of the columns and of the rows: the longer axis is first, x on a tie
unfoldable pub best_cut : ℕ → List ℕ → List ℕ → Option Cut
best_cut w xs ys = cond (nat_le (length ys) (length xs)) (cut_in_order w X xs Y ys) (cut_in_order w Y ys X xs)
