-- Lots to which shares of what corrects a level are lent, one after another.
use Rattle.std.proofs.Common.{◌≡◌, ◌∙◌, ◌⊎◌, inl, inr, ℕ, ◌+◌, ◌*◌, ◌<◌, ◌≤◌, List, length, get_or, set, refl, sym, subst, arith}
use Rattle.std.specs.Global.{Box}
use Rattle.std.specs.List.{AllZip}
use Rattle.std.specs.declared.option.Option.TheVariants.{Some}
use Rattle.std.proofs.Math.ListN.{length-set}
use Rattle.std.proofs.lemmas.Bool.{cases_eq, cases_lt}
use Rattle.std.proofs.lemmas.List.{get_or-set_other, get_or-set_same, get_or_default}
use Rattle.amr_lots.specs.declared.lot.Correction.{Correction}
use Rattle.amr_lots.specs.declared.lot.Lot.{Lot}
use Rattle.amr_lots.specs.Corrections.{with_correction}
use Rattle.amr_advance.proofs.RunZips.{zip_places}
use Rattle.amr_advance.specs.Correction.{IsLentPart, IsPartFrom, KeepsAllButCorrection}

-- the lots before place n were lent theirs
pub record AreLentTo (each : ℕ) (whole : Correction) (n : ℕ) (xs ys : List (Box Lot)) : Type 0 where
  pub count : length ys ≡ length xs
  pub done : (j : ℕ) (x : Box Lot) → j < n → IsLentPart (j * each) whole (get_or xs j x).value (get_or ys j x).value
  pub rest : (j : ℕ) (x : Box Lot) → n ≤ j → get_or ys j x ≡ get_or xs j x

lent_is_kept : (first : ℕ) (whole : Correction) (a b : Lot) → IsLentPart first whole a b → KeepsAllButCorrection a b
lent_is_kept first whole a b h = h.lent ∙ (λ i. with_correction (sym h.lent i).correction a)

module _ (each : ℕ) (whole : Correction) (xs : List (Box Lot)) where
  pub none_lent : AreLentTo each whole 0 xs xs
  none_lent = record { count = refl; done = λ j x lt. absurd (omega (arith, lt)); rest = λ j x le. refl }

  module _ (n : ℕ) (ys : List (Box Lot)) (lent : AreLentTo each whole n xs ys) where
    -- all but what corrects them is as before
    pub lent_kept : AllZip (λ (a b : Box Lot). KeepsAllButCorrection a.value b.value) xs ys
    lent_kept = zip_places (λ (a b : Box Lot). KeepsAllButCorrection a.value b.value) xs ys (sym lent.count) (λ j x lt. at j x (cases_lt j n))
      where
        at : (j : ℕ) (x : Box Lot) → ((j < n) ⊎ (n ≤ j)) → KeepsAllButCorrection (get_or xs j x).value (get_or ys j x).value
        at j x (inl lt) = lent_is_kept (j * each) whole (get_or xs j x).value (get_or ys j x).value (lent.done j x lt)
        at j x (inr le) = subst (λ (y : Box Lot). KeepsAllButCorrection (get_or xs j x).value y.value) (sym (lent.rest j x le)) refl

    -- one lot more
    pub one_more_lent : (a b : Box Lot) (part : Correction) → n < length xs → IsPartFrom (n * each) whole part → b.value ≡ with_correction (Some part) (get_or ys n a).value → AreLentTo each whole (n + 1) xs (set ys n b)
    one_more_lent a b part lt is_part is = record {
      count = length-set ys n b ∙ lent.count;
      done = λ j x below. at j x below (cases_eq j n);
      rest = λ j x le. get_or-set_other ys n j b x (λ e. omega (arith, e, le)) ∙ lent.rest j x (omega (arith, le));
    }
      where
        here : (x : Box Lot) → IsLentPart (n * each) whole (get_or xs n x).value (get_or (set ys n b) n x).value
        here x = record {
          part = part;
          is_part = is_part;
          lent = (λ i. (get_or-set_same ys n b x (omega (arith, lt, lent.count)) i).value)
              ∙ is
              ∙ (λ i. with_correction (Some part) ((lent.rest n a (omega arith) ∙ get_or_default xs n a x lt) i).value);
        }

        at : (j : ℕ) (x : Box Lot) → j < n + 1 → ((j ≡ n) ⊎ (j ≡ n → ⊥)) → IsLentPart (j * each) whole (get_or xs j x).value (get_or (set ys n b) j x).value
        at j x below (inl e) = subst (λ i. IsLentPart (i * each) whole (get_or xs i x).value (get_or (set ys n b) i x).value) (sym e) (here x)
        at j x below (inr other) = subst (λ (y : Box Lot). IsLentPart (j * each) whole (get_or xs j x).value y.value) (sym (get_or-set_other ys n j b x other)) (lent.done j x (omega (arith, below, other)))
