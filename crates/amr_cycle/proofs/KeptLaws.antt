-- What is kept serves levels with the same boxes.
use Rattle.std.proofs.Common.{◌≡◌, ◌∙◌, ◌⊎◌, inl, inr, ℕ, zero, suc, ◌+◌, ◌<◌, ◌≤◌, ℤ, Bool, true, false, not, List, [], ◌∷◌, ◌++◌, get_or, length, length-append, map, set, refl, sym, ap, subst, arith}
use Rattle.std.specs.Prelude.{is_some, IfSome}
use Rattle.std.specs.declared.option.Option.{Option}
use Rattle.std.specs.declared.option.Option.TheVariants.{None, Some}
use Rattle.std.specs.Global.{Vec}
use Rattle.std.proofs.lemmas.Bool.{cases_eq, cases_lt}
use Rattle.std.proofs.lemmas.List.{get_or-set_other, get_or-set_same, get_or_append_left, get_or_push, length-set}
use Rattle.amr_box.specs.declared.Cell.{Cell}
use Rattle.amr_box.specs.Cells.{Extent, in_boxes}
use Rattle.amr_def.specs.declared.problem.Problem.{Problem}
use Rattle.amr_def.specs.State.{Level, Masses, no_level, no_masses}
use Rattle.amr_patch.specs.declared.levels.Level.{Level as Held}
use Rattle.amr_patch.specs.declared.patches.Patch.{Patch}
use Rattle.amr_patch.specs.Levels.{level_of, patches_of}
use Rattle.amr_patch.specs.Patches.{box, masses_in}
use Rattle.amr_alike.proofs.SameBoxes.{some_in_boxes}
use Rattle.amr_register.specs.declared.register.Register.{Register}
use Rattle.amr_register.specs.Fields.{HasEdgesOf, SameCells}
use Rattle.amr_register.proofs.SameCells.{edges_kept, register_kept, same_register}
use Rattle.amr_cycle.specs.declared.kept.KeptCoarser.{KeptCoarser}
use Rattle.amr_cycle.specs.declared.kept.KeptLevel.{KeptLevel}
use Rattle.amr_cycle.specs.Cycles.{SomeHasEntries}
use Rattle.amr_advance.specs.declared.kept_layout.KeptLayout.{KeptLayout}
use Rattle.amr_advance.specs.KeptLayouts.{Forgets}
use Rattle.amr_cycle.specs.KeptLevels.{AreKept, IsCoarserOf, IsKeptCoarser, IsKeptBeside, IsKeptLevel, IsOnSameBoxes}
use Rattle.amr_cycle.proofs.Cycling.{same_level}

-- the cells of a level are those of its patches' boxes
pub cells_alike : (a b : Held) (ps qs : List Patch) → (level_of a).masses ≡ masses_in ps → (level_of b).masses ≡ masses_in qs → map box ps ≡ map box qs → (c : Cell) → is_some ((level_of a).masses c) ≡ is_some ((level_of b).masses c)
cells_alike a b ps qs of_a of_b same c = some_in_boxes (level_of a).masses ps (map box qs) of_a same c ∙ sym (some_in_boxes (level_of b).masses qs (map box qs) of_b refl c)

-- brought up to date, what was kept is what both finer steps stand on
pub renewed : (p : Problem) (l : ℕ) (b b' : KeptCoarser) (level next : Held) → IsKeptCoarser p l b → IsOnSameBoxes b level next
    → (level_of b'.before).masses ≡ (level_of level).masses → (level_of b'.before).boxes ≡ (level_of b.before).boxes → b'.finer ≡ b.finer → map box (patches_of b'.before) ≡ map box (patches_of b.before) → SameCells b.register b'.register → IsCoarserOf p l (level_of level) (level_of next) b'
renewed p l b b' level next kept on masses boxes finer patches register = record {
  before = same_level (level_of b'.before) (level_of level) (boxes ∙ on.before.boxes) masses;
  finer = λ c. on.finer c ∙ ap (λ bs. in_boxes bs.items c) (sym finer);
  register =
      let fine_cells : (c : Cell) → is_some ((level_of next).masses c) ≡ is_some (kept.fine.masses c) = λ c. on.finer c ∙ sym (kept.below.finer c) in
      let coarse_cells : (c : Cell) → is_some ((level_of level).masses c) ≡ is_some (kept.level.masses c) = λ c. on.before.cells c ∙ ap (λ (k : Level). is_some (k.masses c)) kept.below.before in
      same_register p l kept.level.masses kept.fine.masses (level_of level).masses (level_of next).masses b'.register coarse_cells fine_cells
      (register_kept p l kept.level.masses kept.fine.masses b.register b'.register register kept.below.register);
  edges = subst (λ (bs : List Extent). HasEdgesOf bs b'.register) (sym patches) (edges_kept (map box (patches_of b.before)) b.register b'.register register kept.below.edges);
}

-- ---- lists

-- the masses of the level at a place, none where there is no level
abbrev masses_at : List Level → ℕ → Masses
masses_at levels n = (get_or levels n no_level).masses

pub kept_first : (p : Problem) (l : ℕ) (j : Level) (js : List Level) (k : KeptLevel) (ks ls : List KeptLevel) → ls ≡ k ∷ ks → AreKept p l (j ∷ js) ls → IsKeptLevel p l j.masses k
kept_first p l j js k ks ls is h = subst (λ n. IsKeptLevel p n j.masses k) (let e : l + 0 ≡ l = omega arith in e) (subst (AreKept p l (j ∷ js)) is h 0 k (omega arith))

pub kept_rest : (p : Problem) (l : ℕ) (j : Level) (js : List Level) (k : KeptLevel) (ks ls : List KeptLevel) → ls ≡ k ∷ ks → AreKept p l (j ∷ js) ls → AreKept p (l + 1) js ks
kept_rest p l j js k ks ls is h n d lt =
    subst (λ i. IsKeptLevel p i (masses_at js n) (get_or ks n d)) (let e : l + suc n ≡ l + 1 + n = omega arith in e) (subst (AreKept p l (j ∷ js)) is h (suc n) d (omega (arith, lt)))

pub kept_all : (p : Problem) (l : ℕ) (j : Level) (js : List Level) (k : KeptLevel) (ks : List KeptLevel) → IsKeptLevel p l j.masses k → AreKept p (l + 1) js ks → AreKept p l (j ∷ js) (k ∷ ks)
kept_all p l j js k ks first rest zero d lt = subst (λ n. IsKeptLevel p n j.masses k) (let e : l ≡ l + 0 = omega arith in e) first
kept_all p l j js k ks first rest (suc n) d lt = subst (λ i. IsKeptLevel p i (masses_at js n) (get_or ks n d)) (let e : l + 1 + n ≡ l + suc n = omega arith in e) (rest n d (omega (arith, lt)))

-- one more, of which nothing is kept
pub kept_more : (p : Problem) (l : ℕ) (levels : List Level) (ks : List KeptLevel) → AreKept p l levels ks → AreKept p l levels (ks ++ record { layout = None; below = None } ∷ [])
kept_more p l levels ks h n d lt = from (cases_lt n (length ks))
  where
    new : KeptLevel
    new = record { layout = None; below = None }

    from : ((n < length ks) ⊎ (length ks ≤ n)) → IsKeptLevel p (l + n) (masses_at levels n) (get_or (ks ++ new ∷ []) n d)
    from (inl before) = subst (IsKeptLevel p (l + n) (masses_at levels n)) (sym (get_or_append_left ks (new ∷ []) d n before)) (h n d before)
    from (inr last) = subst (IsKeptLevel p (l + n) (masses_at levels n)) (sym (get_or_push ks new d n (omega (arith, lt, last, length-append ks (new ∷ []))))) (no_masses, record { layout = tt; below = tt })

-- ---- masses that are forgotten

-- a level that makes its step keeps what it may, and where the step is made again what it keeps beside the same masses of the coarser level
pub kept_again : (p : Problem) (l : ℕ) (own old : Masses) (again : Bool) (k : KeptLevel) (o : Option KeptLayout) → Forgets (record { own = false; coarser = not again }) k.layout o
    → (again ≡ true → IsKeptBeside p l own old k) → IsKeptLevel p l own k → IsKeptBeside p l own old (record k { layout = o })
kept_again p l own old true k o forgets beside (_, h) = record { layout = forgets p l own old own old (λ e. refl) (λ e. refl) (beside refl).layout; below = h.below }
kept_again p l own old false k o forgets beside (before, h) = record { layout = forgets p l own before own old (λ e. refl) (λ e. cc) h.layout; below = h.below }

-- of the levels at places below k the masses are forgotten, so that what they keep is of any; the others are as they were
pub record HaveForgotten (before ks : List KeptLevel) (k : ℕ) : Type 0 where
  pub done : (p : Problem) (levels now : List Level) → AreKept p 0 levels before → (n : ℕ) (d : KeptLevel) → n < k → n < length ks → IsKeptLevel p (0 + n) (masses_at now n) (get_or ks n d)
  pub others : (n : ℕ) (d : KeptLevel) → k ≤ n → get_or ks n d ≡ get_or before n d
  pub count : length ks ≡ length before

-- one more has
pub one_more_forgot : (before ks : List KeptLevel) (k : ℕ) (x : KeptLevel) (o : Option KeptLayout) → k < length ks → x ≡ get_or ks k x → Forgets (record { own = true; coarser = false }) x.layout o
    → HaveForgotten before ks k → HaveForgotten before (set ks k (record x { layout = o })) (k + 1)
one_more_forgot before ks k x o inside is forgets h = record { done = done; others = others; count = length-set ks k y ∙ h.count }
  where
    y : KeptLevel
    y = record x { layout = o }

    was : x ≡ get_or before k x
    was = is ∙ h.others k x (omega arith)

    here : (p : Problem) (levels : List Level) (own : Masses) → AreKept p 0 levels before → IsKeptLevel p (0 + k) own y
    here p levels own kept =
        let at = subst (IsKeptLevel p (0 + k) (masses_at levels k)) (sym was) (kept k x (omega (arith, inside, h.count))) in
        (at.0, record { layout = forgets p (0 + k) (masses_at levels k) at.0 own at.0 (λ e. cc) (λ e. refl) at.1.layout; below = at.1.below })

    done : (p : Problem) (levels now : List Level) → AreKept p 0 levels before → (n : ℕ) (d : KeptLevel) → n < k + 1 → n < length (set ks k y) → IsKeptLevel p (0 + n) (masses_at now n) (get_or (set ks k y) n d)
    done p levels now kept n d below lt = from (cases_eq n k)
      where
        from : ((n ≡ k) ⊎ (n ≡ k → ⊥)) → IsKeptLevel p (0 + n) (masses_at now n) (get_or (set ks k y) n d)
        from (inl same) = subst (λ m. IsKeptLevel p (0 + m) (masses_at now m) (get_or (set ks k y) m d)) (sym same) (subst (IsKeptLevel p (0 + k) (masses_at now k)) (sym (get_or-set_same ks k y d inside)) (here p levels (masses_at now k) kept))
        from (inr other) = subst (IsKeptLevel p (0 + n) (masses_at now n)) (sym (get_or-set_other ks k n y d other)) (h.done p levels now kept n d (omega arith) (omega (arith, lt, length-set ks k y)))

    others : (n : ℕ) (d : KeptLevel) → k + 1 ≤ n → get_or (set ks k y) n d ≡ get_or before n d
    others n d le = get_or-set_other ks k n y d (omega arith) ∙ h.others n d (omega arith)

-- ---- what is left when both finer steps are made

pub all_below_after : (p : Problem) (l : ℕ) (k fine : Level) (e : Cell → ℤ) (o : Option KeptCoarser) (before : Held) (finer : Vec Extent) (r : Option Register) → level_of before ≡ k → ((c : Cell) → is_some (fine.masses c) ≡ in_boxes finer.items c)
    → IfSome o (λ b. (b.before ≡ before) × (b.finer ≡ finer) × (Some b.register ≡ r)) → SomeHasEntries p l k.masses fine.masses e r → IfSome r (HasEdgesOf (map box (patches_of before))) → IfSome o (IsKeptCoarser p l)
all_below_after p l k fine e None before finer r is cells same has edges = tt
all_below_after p l k fine e (Some b) before finer r is cells same has edges = record {
  level = k;
  fine = fine;
  below = record {
    before = ap level_of same.0 ∙ is;
    finer = λ c. cells c ∙ ap (λ (v : Vec Extent). in_boxes v.items c) (sym same.1);
    register = (subst (SomeHasEntries p l k.masses fine.masses e) (sym same.2) has).of_levels;
    edges = subst (λ (h : Held). HasEdgesOf (map box (patches_of h)) b.register) (sym same.0) (subst (λ (s : Option Register). IfSome s (HasEdgesOf (map box (patches_of before)))) (sym same.2) edges);
  };
}
