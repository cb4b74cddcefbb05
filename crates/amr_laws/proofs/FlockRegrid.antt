-- Regrids of several species by the tags of any of them: alike states again, whose levels cover the tags.
use Rattle.std.proofs.Common.{◌≡◌, ℕ, zero, suc, ◌+◌, ◌<◌, min, Bool, true, false, ◌||◌, is_some, IsSome, refl, sym, ap, subst, ◌∙◌, arith, List, [], ◌∷◌, length, map}
use Rattle.std.specs.Prelude.{slice_index_or}
use Rattle.std.specs.List.{All, list_any}
use Rattle.std.proofs.lemmas.Bool.{or_left, or_right}
use Rattle.std.proofs.lemmas.List.{length-map}
use Rattle.std.proofs.lemmas.List.Elements.{All-head, All-map, All-tail}
use Rattle.amr_box.specs.declared.Cell.{Cell}
use Rattle.amr_box.specs.Cells.{Extent, in_boxes}
use Rattle.amr_def.specs.declared.problem.Problem.{Problem}
use Rattle.amr_def.specs.State.{Level, Masses, State, is_covered, level_at, no_level}
use Rattle.amr_def.specs.Tags.{is_tagged}
use Rattle.amr_def.specs.NewBoxes.{new_boxes}
use Rattle.amr_def.specs.Regrid.{first_masses, new_level_count, refill, refilled, regrid_by, regridded_levels, rest_of}
use Rattle.amr_def.specs.Facts.{IsHeld, IsSound}
use Rattle.amr_def.specs.Species.{AreAlike, IsFlock, boxes_in, each_from, first_state, is_tagged_in_some, regrid_all, step_of}
use Rattle.amr_laws.specs.Species.{AreHeld}
use Rattle.amr_laws.proofs.SoundRegrid.{regrid_by-sound}
use Rattle.amr_laws.proofs.Held.{regrid_by-held, tagged_there}
use Rattle.amr_laws.proofs.FlockLists.{IsLike, alike_each, all_like, each_from-map, step-map}

-- ---- the boxes after a regrid

-- the new boxes, upward to the first level that has none
abbrev pub up_to_none : List (List Extent) → List (List Extent)
up_to_none [] = []
up_to_none ([] ∷ more) = []
up_to_none ((b ∷ bs) ∷ more) = (b ∷ bs) ∷ up_to_none more

refill-boxes : (coarse : Masses) (olds : List Level) (ns : List (List Extent)) → map (λ k. k.boxes) (refill coarse olds ns) ≡ up_to_none ns
unfolding refill
refill-boxes coarse olds [] = refl
refill-boxes coarse olds ([] ∷ more) = refl
refill-boxes coarse olds ((b ∷ bs) ∷ more) = ap (λ (rest : List (List Extent)). (b ∷ bs) ∷ rest) (refill-boxes (refilled coarse (first_masses olds) (b ∷ bs)) (rest_of olds) more)

-- level 0 keeps its own
abbrev pub over_base : List (List Extent) → List (List Extent) → List (List Extent)
over_base [] ns = []
over_base (base ∷ olds) ns = base ∷ up_to_none ns

regridded-boxes : (ks : List Level) (ns : List (List Extent)) → map (λ k. k.boxes) (regridded_levels ks ns) ≡ over_base (map (λ k. k.boxes) ks) ns
regridded-boxes [] ns = refl
regridded-boxes (k ∷ ks) ns = ap (λ (rest : List (List Extent)). k.boxes ∷ rest) (refill-boxes k.masses ks ns)

pub level_count : (s : State) → length (boxes_in s) ≡ length s.levels
level_count s = length-map s.levels (λ k. k.boxes)

pub regrid_by-boxes : (p : Problem) (tagged : ℕ → Cell → Bool) (s : State) → boxes_in (regrid_by p tagged s) ≡ over_base (boxes_in s) (new_boxes p tagged (min (length (boxes_in s)) p.max_level) 0)
unfolding regrid_by
regrid_by-boxes p tagged s =
    regridded-boxes s.levels (new_boxes p tagged (new_level_count p s) 0)
    ∙ ap (λ n. over_base (boxes_in s) (new_boxes p tagged (min n p.max_level) 0)) (sym (level_count s))

-- states on the same boxes get the same new ones
pub regrid_by-same_boxes : (p : Problem) (tagged : ℕ → Cell → Bool) (s t : State) → boxes_in s ≡ boxes_in t → boxes_in (regrid_by p tagged s) ≡ boxes_in (regrid_by p tagged t)
regrid_by-same_boxes p tagged s t same =
    regrid_by-boxes p tagged s
    ∙ ap (λ (bs : List (List Extent)). over_base bs (new_boxes p tagged (min (length bs) p.max_level) 0)) same
    ∙ sym (regrid_by-boxes p tagged t)

pub regrid_by-step : (p : Problem) (tagged : ℕ → Cell → Bool) (s : State) → (regrid_by p tagged s).step ≡ s.step
unfolding regrid_by
regrid_by-step p tagged s = refl

-- ---- all species

regrid_all-each : (p : Problem) (ss : List State) → each_from (λ k. regrid_by p (is_tagged_in_some p ss)) 0 ss ≡ regrid_all p ss
unfolding regrid_all
regrid_all-each p ss = each_from-map (regrid_by p (is_tagged_in_some p ss)) 0 ss

pub length-regrid_all : (p : Problem) (ss : List State) → length (regrid_all p ss) ≡ length ss
unfolding regrid_all
length-regrid_all p ss = length-map ss (regrid_by p (is_tagged_in_some p ss))

pub regrid_all-step : (p : Problem) (ss : List State) → step_of (regrid_all p ss) ≡ step_of ss
unfolding regrid_all
regrid_all-step p ss = step-map (regrid_by p (is_tagged_in_some p ss)) (regrid_by-step p (is_tagged_in_some p ss)) ss

pub regrid_all-alike : (p : Problem) (ss : List State) → AreAlike p ss → AreAlike p (regrid_all p ss)
regrid_all-alike p ss a =
    let tagged = is_tagged_in_some p ss in
    let like : (k : ℕ) (x : State) → IsSound p (first_state ss) → IsLike p (first_state ss) x → IsLike p (regrid_by p tagged (first_state ss)) (regrid_by p tagged x) = λ k x first h. record {
      sound = regrid_by-sound p tagged x h.sound;
      step = regrid_by-step p tagged x ∙ h.step ∙ sym (regrid_by-step p tagged (first_state ss));
      boxes = regrid_by-same_boxes p tagged x (first_state ss) h.boxes;
    } in
    subst (AreAlike p) (regrid_all-each p ss) (alike_each p (λ k. regrid_by p tagged) ss like a)

pub regrid_all-flock : (p : Problem) (ss : List State) → IsFlock p ss → IsFlock p (regrid_all p ss)
regrid_all-flock p ss f = record { one_each = length-regrid_all p ss ∙ f.one_each; alike = regrid_all-alike p ss f.alike }

-- ---- the tags of all are held

boxes_at : (ks : List Level) (l : ℕ) → (slice_index_or ks l no_level).boxes ≡ slice_index_or (map (λ k. k.boxes) ks) l []
boxes_at [] l = refl
boxes_at (k ∷ ks) zero = refl
boxes_at (k ∷ ks) (suc l) = boxes_at ks l

same_count : (s t : State) → boxes_in s ≡ boxes_in t → length s.levels ≡ length t.levels
same_count s t same = sym (level_count s) ∙ ap (λ (bs : List (List Extent)). length bs) same ∙ level_count t

-- a cell of a level of a sound state is one of each sound state on the same boxes
there_too : (p : Problem) (s t : State) (l : ℕ) (c : Cell) → IsSound p s → IsSound p t → boxes_in s ≡ boxes_in t → l < length s.levels → IsSome ((level_at s l).masses c) → IsSome ((level_at t l).masses c)
there_too p s t l c sound sound' same fits here =
    let fits' : l < length t.levels = omega (arith, same_count s t same, fits) in
    let boxes : (level_at t l).boxes ≡ (level_at s l).boxes = boxes_at t.levels l ∙ ap (λ (bs : List (List Extent)). slice_index_or bs l []) (sym same) ∙ sym (boxes_at s.levels l) in
    (sound'.nested.each l fits').filled c ∙ ap (λ (bs : List Extent). in_boxes bs c) boxes ∙ sym ((sound.nested.each l fits).filled c) ∙ here

-- what holds of a state that is tagged at a cell holds where some state is
by_some : (p : Problem) (l : ℕ) (c : Cell) (P : State → Type 0) (X : Type 0) (ss : List State) → All P ss → list_any (λ s. is_tagged p s l c) ss ≡ true
    → ((s : State) → P s → is_tagged p s l c ≡ true → X) → X
by_some p l c P X [] all h gives = absurd (cc)
by_some p l c P X (s ∷ ss) all h gives = choose (is_tagged p s l c) refl h (λ rest. by_some p l c P X ss (All-tail P s ss all) rest gives)
  where
    choose : (t : Bool) → is_tagged p s l c ≡ t → (t || list_any (λ s. is_tagged p s l c) ss) ≡ true → (list_any (λ s. is_tagged p s l c) ss ≡ true → X) → X
    choose true is h rest = gives s (All-head P s ss all) is
    choose false is h rest = rest h

held_in : (p : Problem) (ss : List State) → AreAlike p ss → (l : ℕ) (c : Cell) → l < length (first_state ss).levels → l < p.max_level → is_tagged_in_some p ss l c ≡ true
    → All (λ s. is_covered (level_at (regrid_by p (is_tagged_in_some p ss) s) (l + 1)).masses c ≡ true) ss
held_in p ss a l c fits low h = λ k d i.
    let tagged = is_tagged_in_some p ss in
    let first = first_state ss in
    let s = slice_index_or ss k d in
    let like : IsLike p first s = all_like p ss a k d i in
    let count = same_count s first like.boxes in
    let there : IsSome ((level_at s l).masses c) = by_some p l c (IsLike p first) (IsSome ((level_at s l).masses c)) ss (all_like p ss a) h
    (λ t t_like t_tagged. there_too p t s l c t_like.sound like.sound (t_like.boxes ∙ sym like.boxes) (omega (arith, same_count t first t_like.boxes, fits)) (tagged_there p t l c t_tagged)) in
    regrid_by-held p tagged s like.sound l c (omega (arith, count, fits)) low h there

pub regrid_all-held : (p : Problem) (ss : List State) → AreAlike p ss → AreHeld p ss (regrid_all p ss)
unfolding regrid_all
regrid_all-held p ss a = record {
  at = λ l c fits low h. All-map (λ s. is_covered (level_at s (l + 1)).masses c ≡ true) (regrid_by p (is_tagged_in_some p ss)) ss (held_in p ss a l c fits low h);
}

any_at : {X : Type 0} (test : X → Bool) (xs : List X) (k : ℕ) (d : X) → k < length xs → test (slice_index_or xs k d) ≡ true → list_any test xs ≡ true
any_at test [] k d i h = absurd (omega arith)
any_at test (x ∷ xs) zero d i h = or_left (test x) (list_any test xs) h
any_at test (x ∷ xs) (suc k) d i h = or_right (test x) (list_any test xs) (any_at test xs k d (omega arith) h)

-- so are those of each by itself
pub regrid_all-held_own : (p : Problem) (ss : List State) → AreAlike p ss → (k : ℕ) (d : State) → k < length ss → IsHeld p (slice_index_or ss k d) (regrid_by p (is_tagged_in_some p ss) (slice_index_or ss k d))
regrid_all-held_own p ss a k d i =
    let s = slice_index_or ss k d in
    let count : length s.levels ≡ length (first_state ss).levels = same_count s (first_state ss) (a.same_boxes k d i) in
    record { at = λ l c fits low h. held_in p ss a l c (omega (arith, count, fits)) low (any_at (λ t. is_tagged p t l c) ss k d i h) k d i }
