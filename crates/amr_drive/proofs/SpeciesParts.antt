-- The parts of the problem of a species alone.
use Rattle.std.proofs.Common.{◌≡◌, ◌∙◌, ℕ, zero, suc, ℤ, ◌+◌, ◌<◌, ◌==◌, false, cond, eq-eqb, refl, sym, ap, subst, List, [], ◌∷◌, ◌++◌, length, map, take, get_or, arith}
use Rattle.std.specs.List.{filter}
use Rattle.std.proofs.Props.{props}
use Rattle.std.proofs.lemmas.Bool.Decides.{nat_tests}
use Rattle.std.proofs.lemmas.List.{map-append}
use Rattle.std.proofs.lemmas.List.Elements.{filter_more}
use Rattle.amr_def.specs.declared.problem.Problem.{Problem}
use Rattle.amr_def.specs.declared.problem.Block.{Block}
use Rattle.amr_def.specs.declared.problem.Sides.{Sides}
use Rattle.amr_def.specs.declared.problem.Sides.TheVariants.{Periodic, Open}
use Rattle.amr_def.specs.Limits.{Limits}
use Rattle.amr_def.specs.OneSpecies.{alone, blocks_of, is_of, sides_of}
use Rattle.amr_def.specs.SpeciesLimits.{limits_of_species}
use Rattle.amr_def.specs.Species.{of_species}

-- ---- sides

pub first_sides : (k : ℕ) (s : Sides) → k ≡ 0 → s ≡ sides_of k s
first_sides zero Periodic e = refl
first_sides zero (Open low high) e = refl
first_sides (suc k) s e = absurd (omega (arith, e))

pub later_sides : (k low high : ℕ) → 0 < k → Open 0 0 ≡ sides_of k (Open low high)
later_sides zero low high h = absurd (omega (arith, h))
later_sides (suc k) low high h = refl

-- ---- blocks

pub own_block : (k : ℕ) (b : Block) → b.species ≡ k → alone b ∷ [] ≡ blocks_of k (b ∷ [])
own_block k b is = ap (λ t. map alone (cond t (b ∷ []) [])) (sym (eq-eqb b.species k is))

pub other_block : (k : ℕ) (b : Block) → (b.species ≡ k → ⊥) → [] ≡ blocks_of k (b ∷ [])
other_block k b isnt = ap (λ t. map alone (cond t (b ∷ []) [])) (sym test)
  where
    test : (b.species == k) ≡ false
    test = grind (arith, nat_tests)

pub blocks_more : (k : ℕ) (bs : List Block) (i : ℕ) (d : Block) (own more : List Block) → i < length bs → own ≡ blocks_of k (take i bs) → more ≡ own ++ blocks_of k (get_or bs i d ∷ [])
    → more ≡ blocks_of k (take (i + 1) bs)
blocks_more k bs i d own more lt so_far pushed =
    pushed ∙ ap (λ (xs : List Block). xs ++ blocks_of k (get_or bs i d ∷ [])) so_far
    ∙ sym (ap (map alone) (filter_more (is_of k) bs i d lt) ∙ map-append alone (filter (is_of k) (take i bs)) (cond (is_of k (get_or bs i d)) (get_or bs i d ∷ []) []))

-- ---- the whole problem

-- what is made anew
pub record Parts : Type 0 where
  pub name : List ℕ
  pub cx : ℤ
  pub cy : ℤ
  pub shear_x : List ℤ
  pub shear_y : List ℤ
  pub x_sides : Sides
  pub y_sides : Sides
  pub tag : List ℕ
  pub blocks : List Block

abbrev pub LimitsWith : Problem → Parts → Type 0
LimitsWith p f =
    Limits p.version f.name p.nx p.ny p.steps f.cx f.cy p.d f.shear_x f.shear_y f.x_sides f.y_sides p.max_level f.tag p.n_error_buf p.efficiency p.min_width
    p.regrid_int p.blocking p.max_grid_size f.blocks 1

-- limits have one proof
limits_once : (p : Problem) (f : Parts) (l k : LimitsWith p f) → l ≡ k
limits_once p f = hlevel props

abbrev pub with_parts : (p : Problem) (f : Parts) → LimitsWith p f → Problem
with_parts p f l = record p {
  name = f.name;
  cx = f.cx;
  cy = f.cy;
  shear_x = f.shear_x;
  shear_y = f.shear_y;
  x_sides = f.x_sides;
  y_sides = f.y_sides;
  tag = f.tag;
  blocks = f.blocks;
  species = 1;
  limits = l;
}

abbrev pub parts_of : Problem → ℕ → Parts
parts_of p k = record {
  name = p.name;
  cx = p.cx;
  cy = p.cy;
  shear_x = p.shear_x;
  shear_y = p.shear_y;
  x_sides = sides_of k p.x_sides;
  y_sides = sides_of k p.y_sides;
  tag = p.tag;
  blocks = blocks_of k p.blocks;
}

-- limits of its parts, and that it is the problem of the species
pub limits_with : (p : Problem) (k : ℕ) (f : Parts) → f ≡ parts_of p k → LimitsWith p f
limits_with p k f is = subst (LimitsWith p) (sym is) (limits_of_species p k)

pub species_with : (p : Problem) (k : ℕ) (f : Parts) → f ≡ parts_of p k → (l : LimitsWith p f) → with_parts p f l ≡ of_species p k
unfolding of_species
species_with p k f is =
    subst (λ (h : Parts). (l : LimitsWith p h) → with_parts p h l ≡ with_parts p (parts_of p k) (limits_of_species p k)) (sym is)
    (λ l. ap (with_parts p (parts_of p k)) (limits_once p (parts_of p k) l (limits_of_species p k)))

pub same_parts : (p : Problem) (k : ℕ) (f : Parts) → f.name ≡ p.name → f.cx ≡ p.cx → f.cy ≡ p.cy → f.shear_x ≡ p.shear_x → f.shear_y ≡ p.shear_y → f.x_sides ≡ sides_of k p.x_sides
    → f.y_sides ≡ sides_of k p.y_sides → f.tag ≡ p.tag → f.blocks ≡ blocks_of k p.blocks → f ≡ parts_of p k
same_parts p k f name cx cy shear_x shear_y x_sides y_sides tag blocks i =
    record { name = name i; cx = cx i; cy = cy i; shear_x = shear_x i; shear_y = shear_y i; x_sides = x_sides i; y_sides = y_sides i; tag = tag i; blocks = blocks i }
