-- Lists of patches, in which cells are given masses.
use Rattle.std.proofs.Common.{◌≡◌, ◌∙◌, ℕ, zero, suc, ◌+◌, ◌<◌, take, Bool, true, false, cond, ◌||◌, List, [], ◌∷◌, length, IsTrue, refl, sym, ap, arith}
use Rattle.std.specs.Prelude.{slice_index_or, slice_set}
use Rattle.std.specs.List.{All}
use Rattle.std.specs.declared.option.Option.{Option}
use Rattle.std.specs.declared.option.Option.TheVariants.{None, Some}
use Rattle.std.specs.Option.{unwrap_or}
use Rattle.std.proofs.lemmas.List.Folds.{list_any_more}
use Rattle.amr_box.specs.declared.Cell.{Cell}
use Rattle.amr_box.specs.Cells.{Extent, holds}
use Rattle.amr_patch.specs.declared.patches.Patch.{Patch}
use Rattle.amr_patch.specs.Pairwise.{Pairwise}
use Rattle.amr_patch.specs.Patches.{ArePatchesApart, KeepsFrameAndFluxes, box, in_patches, mass_in, masses_in}
use Rattle.amr_patch.proofs.Lookups.{holder, masses_in-at}
use Rattle.amr_def.specs.State.{mass_of}
use Rattle.amr_transfer.specs.Given.{HasMasses, IsGiven}
use Rattle.amr_transfer.proofs.GivenCells.{given_as, given_more, given_none}

-- ---- two lists, patch by patch

pub pairwise_same : (R : Patch → Patch → Type 0) → ((p : Patch) → R p p) → (ps : List Patch) → Pairwise R ps ps
pairwise_same R same [] = tt
pairwise_same R same (p ∷ ps) = (same p, pairwise_same R same ps)

pub pairwise_join : (R S T : Patch → Patch → Type 0) → ((p q r : Patch) → R p q → S q r → T p r) → (ps qs rs : List Patch) → Pairwise R ps qs → Pairwise S qs rs → Pairwise T ps rs
pairwise_join R S T more [] [] [] h k = tt
pairwise_join R S T more [] [] (r ∷ rs) h k = absurd k
pairwise_join R S T more [] (q ∷ qs) rs h k = absurd h
pairwise_join R S T more (p ∷ ps) [] rs h k = absurd h
pairwise_join R S T more (p ∷ ps) (q ∷ qs) [] h k = absurd k
pairwise_join R S T more (p ∷ ps) (q ∷ qs) (r ∷ rs) h k = (more p q r h.0 k.0, pairwise_join R S T more ps qs rs h.1 k.1)

pub pairwise_map : (R S : Patch → Patch → Type 0) → ((p q : Patch) → R p q → S p q) → (ps qs : List Patch) → Pairwise R ps qs → Pairwise S ps qs
pairwise_map R S into [] [] h = tt
pairwise_map R S into [] (q ∷ qs) h = absurd h
pairwise_map R S into (p ∷ ps) [] h = absurd h
pairwise_map R S into (p ∷ ps) (q ∷ qs) h = (into p q h.0, pairwise_map R S into ps qs h.1)

-- one patch is replaced, and the others are as they were
pub pairwise_set : (R : Patch → Patch → Type 0) (ps : List Patch) (j : ℕ) (d r : Patch) → R (slice_index_or ps j d) r → ((i : ℕ) → i < length ps → (i ≡ j → ⊥) → R (slice_index_or ps i d) (slice_index_or ps i d)) → Pairwise R ps (slice_set ps j r)
pairwise_set R [] j d r h same = tt
pairwise_set R (p ∷ ps) zero d r h same = (h, rest ps (λ i lt. same (suc i) (omega arith) (λ e. omega arith)))
  where
    rest : (qs : List Patch) → ((i : ℕ) → i < length qs → R (slice_index_or qs i d) (slice_index_or qs i d)) → Pairwise R qs qs
    rest [] same = tt
    rest (q ∷ qs) same = (same 0 (omega arith), rest qs (λ i lt. same (suc i) (omega arith)))
pairwise_set R (p ∷ ps) (suc j) d r h same = (same 0 (omega arith) (λ e. omega arith), pairwise_set R ps j d r h (λ i lt n. same (suc i) (omega arith) (λ e. n (omega arith))))

-- ---- boxes stay

pub kept_in : (ps qs : List Patch) (c : Cell) → Pairwise KeepsFrameAndFluxes ps qs → in_patches qs c ≡ in_patches ps c
kept_in [] [] c h = refl
kept_in [] (q ∷ qs) c h = absurd h
kept_in (p ∷ ps) [] c h = absurd h
kept_in (p ∷ ps) (q ∷ qs) c h = λ i. holds (h.0.of_box i) c || kept_in ps qs c h.1 i

-- ---- cells are given masses

pub all_kept : (cells : Cell → Bool) (mass : Cell → ℕ) (ps qs : List Patch) → Pairwise (IsGiven cells mass) ps qs → Pairwise KeepsFrameAndFluxes ps qs
all_kept cells mass = pairwise_map (IsGiven cells mass) KeepsFrameAndFluxes (λ p q h. h.kept)

pub all_none : (cells : Cell → Bool) (mass : Cell → ℕ) (ps : List Patch) → ((c : Cell) → cells c ≡ false) → Pairwise (IsGiven cells mass) ps ps
all_none cells mass ps none = pairwise_same (IsGiven cells mass) (λ p. given_none cells mass p (λ c h. none c)) ps

pub all_more : (some more all : Cell → Bool) (mass : Cell → ℕ) (ps qs rs : List Patch) → Pairwise (IsGiven some mass) ps qs → Pairwise (IsGiven more mass) qs rs → ((c : Cell) → all c ≡ (some c || more c)) → Pairwise (IsGiven all mass) ps rs
all_more some more all mass ps qs rs h k join = pairwise_join (IsGiven some mass) (IsGiven more mass) (IsGiven all mass) (λ p q r a b. given_more some more all mass p q r a b join) ps qs rs h k

pub all_as : (cells other : Cell → Bool) (mass value : Cell → ℕ) (ps qs : List Patch) → ((c : Cell) → other c ≡ cells c) → ((c : Cell) → IsTrue (cells c) → mass c ≡ value c) → Pairwise (IsGiven cells mass) ps qs → Pairwise (IsGiven other value) ps qs
all_as cells other mass value ps qs same is = pairwise_map (IsGiven cells mass) (IsGiven other value) (λ p q h. given_as cells other mass value p q (λ c i. same c) (λ c i on. is c on) h) ps qs

-- ---- masses of lists

-- the mass of a cell of one of the patches
pub mass_there : (ps : List Patch) (i : ℕ) (p : Patch) (c : Cell) → ArePatchesApart ps → i < length ps → p ≡ slice_index_or ps i p → holds (box p) c ≡ true → mass_in p c ≡ mass_of (masses_in ps) c
mass_there ps i p c apart lt at h = sym (ap (λ (o : Option ℕ). unwrap_or o 0) (masses_in-at ps c i p apart (holder ps c i p lt at h)) ∙ ap (λ (q : Patch). mass_in q c) (sym at))

-- one patch more
pub in_more : (ps : List Patch) (i : ℕ) (p : Patch) (c : Cell) → i < length ps → p ≡ slice_index_or ps i p → in_patches (take (i + 1) ps) c ≡ (in_patches (take i ps) c || holds (box p) c)
in_more ps i p c lt at = list_any_more (λ (q : Patch). holds (box q) c) ps i p lt ∙ ap (λ (q : Patch). in_patches (take i ps) c || holds (box q) c) (sym at)

-- each cell of the patches has its mass
pub masses_had : (mass : Cell → ℕ) (qs : List Patch) (c : Cell) → All (HasMasses mass) qs → masses_in qs c ≡ cond (in_patches qs c) (Some (mass c)) None
masses_had mass [] c h = refl
masses_had mass (q ∷ qs) c h = cases (holds (box q) c) refl (masses_had mass qs c (λ k d lt. h (suc k) d (omega arith)))
  where
    cases : (t : Bool) → holds (box q) c ≡ t → masses_in qs c ≡ cond (in_patches qs c) (Some (mass c)) None → cond t (Some (mass_in q c)) (masses_in qs c) ≡ cond (t || in_patches qs c) (Some (mass c)) None
    cases true e rest = ap Some ((h 0 q (omega arith)).at c e)
    cases false e rest = rest

-- the cells of a set, which the patches have, are given their masses
pub masses_given : (cells : Cell → Bool) (mass : Cell → ℕ) (ps qs : List Patch) (c : Cell) → (cells c ≡ true → in_patches ps c ≡ true) → Pairwise (IsGiven cells mass) ps qs → masses_in qs c ≡ cond (cells c) (Some (mass c)) (masses_in ps c)
masses_given cells mass [] [] c there h = empty (cells c) there
  where
    empty : (t : Bool) → (t ≡ true → false ≡ true) → None ≡ cond t (Some (mass c)) None
    empty true f = absurd (cc (f refl))
    empty false f = refl
masses_given cells mass [] (q ∷ qs) c there h = absurd h
masses_given cells mass (p ∷ ps) [] c there h = absurd h
masses_given cells mass (p ∷ ps) (q ∷ qs) c there h =
    ap (λ (b : Extent). cond (holds b c) (Some (mass_in q c)) (masses_in qs c)) h.0.kept.of_box
    ∙ cases (holds (box p) c) (cells c) refl refl (λ e. masses_given cells mass ps qs c (λ on. ap (λ (t : Bool). t || in_patches ps c) (sym e) ∙ there on) h.1)
  where
    cases : (t s : Bool) → holds (box p) c ≡ t → cells c ≡ s → (holds (box p) c ≡ false → masses_in qs c ≡ cond (cells c) (Some (mass c)) (masses_in ps c)) → cond t (Some (mass_in q c)) (masses_in qs c) ≡ cond s (Some (mass c)) (cond t (Some (mass_in p c)) (masses_in ps c))
    cases true true e f rest = ap Some (h.0.given c e f)
    cases true false e f rest = ap Some (h.0.others c e f)
    cases false s e f rest = rest e ∙ ap (λ (t : Bool). cond t (Some (mass c)) (masses_in ps c)) f
