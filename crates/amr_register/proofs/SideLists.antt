-- The sides of cells, one after the other.
use Rattle.std.proofs.Common.{◌≡◌, ◌∙◌, ℕ, ◌+◌, ◌-◌, ◌<◌, ◌⊎◌, inl, inr, Bool, List, [], ◌∷◌, ◌++◌, length, sym, ap, subst, arith}
use Rattle.std.specs.Prelude.{slice_index_or}
use Rattle.std.proofs.lemmas.Bool.{cases_eq}
use Rattle.std.proofs.lemmas.List.{get_or-append_right, get_or_append_left, length_push}
use Rattle.amr_box.specs.declared.Cell.{Cell}
use Rattle.amr_def.specs.Domain.{Domain}
use Rattle.amr_register.specs.declared.sides.CoveredSides.{CoveredSides}
use Rattle.amr_register.specs.Beside.{HasSides}
use Rattle.amr_register.proofs.Taken.{same_at}

-- the sides of the first n cells
pub record HaveSidesUpTo (d : Domain) (covered : Cell → Bool) (cs : List Cell) (ss : List CoveredSides) (n : ℕ) : Type 0 where
  pub count : length ss ≡ n
  pub each : (k : ℕ) (c : Cell) (s : CoveredSides) → k < n → k < length cs → HasSides d covered (slice_index_or cs k c) (slice_index_or ss k s)

pub no_sides : (d : Domain) (covered : Cell → Bool) (cs : List Cell) (ss : List CoveredSides) → ss ≡ [] → HaveSidesUpTo d covered cs ss 0
no_sides d covered cs ss e = record { count = ap length e; each = λ k c s lt there. absurd (omega arith) }

pub more_sides : (d : Domain) (covered : Cell → Bool) (cs : List Cell) (ss ts : List CoveredSides) (n : ℕ) (c0 : Cell) (t : CoveredSides) → HaveSidesUpTo d covered cs ss n → n < length cs → ts ≡ ss ++ t ∷ [] → HasSides d covered (slice_index_or cs n c0) t → HaveSidesUpTo d covered cs ts (n + 1)
more_sides d covered cs ss ts n c0 t h lt e here = record {
  count = ap length e ∙ length_push ss t ∙ ap (λ (k : ℕ). k + 1) h.count;
  each = λ k c s below there. by_place k c s below there (cases_eq k n);
}
  where
    by_place : (k : ℕ) (c : Cell) (s : CoveredSides) → k < n + 1 → k < length cs → (k ≡ n) ⊎ (k ≡ n → ⊥) → HasSides d covered (slice_index_or cs k c) (slice_index_or ts k s)
    by_place k c s below there (inl same) =
        let none : n - n ≡ 0 = omega arith in
        let last : slice_index_or ts n s ≡ t = ap (λ (us : List CoveredSides). slice_index_or us n s) e ∙ get_or-append_right ss (t ∷ []) n n s h.count (omega arith) ∙ ap (λ (i : ℕ). slice_index_or (t ∷ []) i s) none in
        subst (λ (i : ℕ). HasSides d covered (slice_index_or cs i c) (slice_index_or ts i s)) (sym same)
        (subst (λ (u : CoveredSides). HasSides d covered (slice_index_or cs n c) u) (sym last)
        (subst (λ (q : Cell). HasSides d covered q t) (same_at cs n c0 c lt) here))
    by_place k c s below there (inr ne) =
        let early : k < length ss = omega (arith, h.count) in
        let kept : slice_index_or ts k s ≡ slice_index_or ss k s = ap (λ (us : List CoveredSides). slice_index_or us k s) e ∙ get_or_append_left ss (t ∷ []) s k early in
        subst (λ (u : CoveredSides). HasSides d covered (slice_index_or cs k c) u) (sym kept) (h.each k c s (omega arith) there)
