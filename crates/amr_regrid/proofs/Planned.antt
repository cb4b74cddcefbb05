-- Levels put in place, one after the other.
use Rattle.std.proofs.Common.{◌≡◌, ◌≢◌, ℕ, zero, suc, ◌+◌, ◌<◌, ◌≤◌, inl, inr, refl, sym, ap, subst, ◌∙◌, arith, List, [], ◌∷◌, ◌++◌, length, length-append, length-set, drop, get_or, get_or-set_other, get_or-set_same, set, take}
use Rattle.std.specs.Prelude.{MatchOption, slice_get}
use Rattle.std.specs.declared.option.Option.{Option}
use Rattle.std.specs.declared.option.Option.TheVariants.{None, Some}
use Rattle.std.specs.Option.{option_to_list}
use Rattle.std.proofs.Math.Seq.{get_or-append_seam, take-append_seam}
use Rattle.std.proofs.lemmas.Bool.{cases_lt}
use Rattle.std.proofs.lemmas.List.{drop-drop, get_or_default, get_or-take, take-take, take_all}
use Rattle.amr_patch.specs.declared.levels.Level.{Level}
use Rattle.amr_patch.specs.declared.meshes.Mesh.{Mesh}
use Rattle.amr_regrid.specs.declared.masses.Remade.{Remade}
use Rattle.amr_regrid.specs.declared.masses.Remade.TheVariants.{Kept, Made}
use Rattle.amr_regrid.specs.declared.plans.Plan.{Plan}
use Rattle.amr_regrid.specs.Plans.{IsInstalled}
use Rattle.amr_regrid.specs.Remade.{level_there, remade_levels}

-- ---- the levels of a mesh

slice_get_drop : (ks : List Level) (n : ℕ) → slice_get (drop n ks) 0 ≡ slice_get ks n
slice_get_drop [] zero = refl
slice_get_drop [] (suc n) = refl
slice_get_drop (k ∷ ks) zero = refl
slice_get_drop (k ∷ ks) (suc n) = slice_get_drop ks n

-- `next` takes the first of the levels that are left, where there is one
taken : (o : Option Level) (left rest : List Level) (n m : ℕ) → n ≡ length left → left ≡ option_to_list o ++ rest → MatchOption o ((n ≡ 0) × (m ≡ 0)) (λ k. (left ≡ k ∷ rest) × (m + 1 ≡ n)) → (o ≡ slice_get left 0) × (rest ≡ drop 1 left)
taken None [] rest n m many is h = (refl, sym is)
taken None (k ∷ ks) rest n m many is h = absurd (omega (arith, many, h.0))
taken (Some k) left rest n m many is h = (sym (ap (λ (xs : List Level). slice_get xs 0) is), sym (ap (drop 1) is))

-- one more of those that were made or kept
remade_more : (olds : List Level) (rs : List Remade) (r : Remade) → remade_levels olds (rs ++ r ∷ []) ≡ remade_levels olds rs ++ option_to_list (level_there (slice_get olds (length rs)) r)
unfolding remade_levels
remade_more [] [] Kept = refl
remade_more [] [] (Made k) = refl
remade_more (o ∷ os) [] Kept = refl
remade_more (o ∷ os) [] (Made k) = refl
remade_more [] (Kept ∷ rs) r = remade_more [] rs r
remade_more [] (Made j ∷ rs) r = ap (λ t. j ∷ t) (remade_more [] rs r)
remade_more (o ∷ os) (Kept ∷ rs) r = ap (λ t. o ∷ t) (remade_more os rs r)
remade_more (o ∷ os) (Made j ∷ rs) r = ap (λ t. j ∷ t) (remade_more os rs r)

pub none_remade : (olds all : List Level) → all ≡ [] → all ≡ remade_levels olds []
unfolding remade_levels
none_remade olds all none = none

module _ (olds : List Level) (seen : List Remade) (r : Remade) (o : Option Level) (left rest : List Level) (n m : ℕ) (is : left ≡ drop (length seen) olds) (many : n ≡ length left) (parts : left ≡ option_to_list o ++ rest)
    (cases : MatchOption o ((n ≡ 0) × (m ≡ 0)) (λ k. (left ≡ k ∷ rest) × (m + 1 ≡ n))) where
  pub seen_more : length (seen ++ r ∷ []) ≡ length seen + 1
  seen_more = length-append seen (r ∷ [])

  pub rest_is : rest ≡ drop (length (seen ++ r ∷ [])) olds
  rest_is = (taken o left rest n m many parts cases).1 ∙ ap (drop 1) is ∙ drop-drop 1 (length seen) olds ∙ ap (λ (k : ℕ). drop k olds) (sym seen_more)

  pub level_more : (all : List Level) (k : Option Level) → all ≡ remade_levels olds seen → k ≡ level_there o r → all ++ option_to_list k ≡ remade_levels olds (seen ++ r ∷ [])
  level_more all k so_far here =
      let first : o ≡ slice_get olds (length seen) = (taken o left rest n m many parts cases).0 ∙ ap (λ (xs : List Level). slice_get xs 0) is ∙ slice_get_drop olds (length seen) in
      (λ i. so_far i ++ option_to_list (here i)) ∙ ap (λ (q : Option Level). remade_levels olds seen ++ option_to_list (level_there q r)) first ∙ sym (remade_more olds seen r)

-- ---- the plans of several meshes, put in place from the last on

-- what is left of the plans is a front of them, and the meshes beyond it have theirs
pub record AreInstalledFrom (plans : List Plan) (olds : List Mesh) (left : List Plan) (news : List Mesh) : Type 0 where
  pub many : length news ≡ length olds
  pub few : length left ≤ length olds
  pub front : left ≡ take (length left) plans
  pub kept : (k : ℕ) (m : Mesh) → k < length left → get_or news k m ≡ get_or olds k m
  pub done : (k : ℕ) (m : Mesh) (r : Plan) → length left ≤ k → k < length olds → IsInstalled (get_or plans k r) (get_or olds k m) (get_or news k m)

pub none_installed : (plans : List Plan) (olds : List Mesh) → length plans ≡ length olds → AreInstalledFrom plans olds plans olds
none_installed plans olds many = record {
  many = refl;
  few = omega (arith, many);
  front = sym (take_all (length plans) plans (omega arith));
  kept = λ k m h. refl;
  done = λ k m r h f. absurd (omega (arith, h, f, many));
}

module _ (plans : List Plan) (olds : List Mesh) (left : List Plan) (news : List Mesh) (is : AreInstalledFrom plans olds left news) (count : length plans ≡ length olds) (less : List Plan) (plan : Plan) (parts : left ≡ less ++ plan ∷ []) where
  pub one_less : length left ≡ length less + 1
  one_less = ap length parts ∙ length-append less (plan ∷ [])

  pub last_place : length less < length news
  last_place = omega (arith, one_less, is.few, is.many)

  -- the last of those that are left is the plan of its place
  pub last_plan : (r : Plan) → get_or plans (length less) r ≡ plan
  last_plan r =
      let inside : length less < length left = omega (arith, one_less) in
      sym (get_or-take (length left) plans (length less) r inside) ∙ ap (λ (xs : List Plan). get_or xs (length less) r) (sym is.front ∙ parts) ∙ get_or-append_seam less plan [] r

  front_less : less ≡ take (length less) plans
  front_less =
      let shorter : length less ≤ length left = omega (arith, one_less) in
      sym (take-append_seam less (plan ∷ [])) ∙ ap (take (length less)) (sym parts ∙ is.front) ∙ take-take (length less) (length left) plans shorter

  pub one_more : (n : ℕ) (old new : Mesh) → n ≡ length less → IsInstalled plan (get_or news n old) new → AreInstalledFrom plans olds less (set news n new)
  one_more n old new place installed = subst (λ (j : ℕ). AreInstalledFrom plans olds less (set news j new)) (sym place) (record {
    many = length-set news (length less) new ∙ is.many;
    few = omega (arith, one_less, is.few);
    front = front_less;
    kept = λ k m h. let other : k ≢ length less = omega (arith, h) in get_or-set_other news (length less) k new m other ∙ is.kept k m (omega (arith, one_less, h));
    done = λ k m r h f. elim (cases_lt (length less) k) [
      | inl above ↦ let other : k ≢ length less = omega (arith, above) in subst (λ (x : Mesh). IsInstalled (get_or plans k r) (get_or olds k m) x) (sym (get_or-set_other news (length less) k new m other)) (is.done k m r (omega (arith, one_less, above)) f)
      | inr here ↦ last_done k m r (omega (arith, h, here))
    ];
  })
    where
      there : (m : Mesh) → IsInstalled plan (get_or news (length less) m) new
      there m = subst (λ (x : Mesh). IsInstalled plan x new) (ap (λ (j : ℕ). get_or news j old) place ∙ get_or_default news (length less) old m last_place) installed

      last_done : (k : ℕ) (m : Mesh) (r : Plan) → k ≡ length less → IsInstalled (get_or plans k r) (get_or olds k m) (get_or (set news (length less) new) k m)
      last_done k m r e =
          subst (λ (j : ℕ). IsInstalled (get_or plans j r) (get_or olds j m) (get_or (set news (length less) new) j m)) (sym e)
          (subst (λ (x : Mesh). IsInstalled (get_or plans (length less) r) (get_or olds (length less) m) x) (sym (get_or-set_same news (length less) new m last_place))
          (subst (λ (x : Mesh). IsInstalled (get_or plans (length less) r) x new) (is.kept (length less) m (omega (arith, one_less)))
          (subst (λ (x : Plan). IsInstalled x (get_or news (length less) m) new) (sym (last_plan r)) (there m))))
