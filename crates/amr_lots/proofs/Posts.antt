-- The posts of a lot, patch after patch.
use Rattle.std.proofs.Common.{◌≡◌, ◌∙◌, ℕ, ◌+◌, ◌<◌, ◌≤◌, true, List, length, get_or, take, refl, sym, ap, subst, arith}
use Rattle.std.specs.Prelude.{pos, unsigned_abs}
use Rattle.std.specs.List.{All}
use Rattle.std.proofs.lemmas.List.{get_or-map, length-map}
use Rattle.amr_box.specs.declared.Axis.TheVariants.{X}
use Rattle.amr_box.specs.declared.Face.{Face}
use Rattle.amr_def.specs.Flux.{face}
use Rattle.amr_patch.specs.declared.patches.Patch.{Patch}
use Rattle.amr_patch.specs.Patches.{box, flux_in}
use Rattle.amr_patch.specs.Places.{is_edge_face}
use Rattle.amr_phase.specs.declared.plan.Post.{Post}
use Rattle.amr_phase.specs.Plans.{no_post}
use Rattle.amr_board.specs.declared.view.View.{View}
use Rattle.amr_board.specs.Views.{IsFresh, IsHolding, current}
use Rattle.amr_layout.specs.declared.PatchLayout.{PatchLayout}
use Rattle.amr_layout.specs.declared.PutAt.{PutAt}
use Rattle.amr_lots.specs.LotSteps.{ArePuts, PutsAreNext}
use Rattle.amr_lots.specs.Works.{put_by, puts_listed}
use Rattle.amr_lots.proofs.Flat.{flat_at, flat_more, flat_whole, flat_within}

-- what stands for a put that is not there
abbrev pub no_put : PutAt
no_put = record { place = 0; face = face X (pos 0) (pos 0) }

abbrev puts_in : PatchLayout → List PutAt
puts_in t = t.puts.items

-- a fresh task is held
pub held_fresh : {P : Type 0} (v : View P) → IsFresh v → IsHolding v (current v).task true
held_fresh v fresh = record { held = fresh.held; is_task = refl; ungiven = fresh.ungiven; is_taken = fresh.is_taken }

module _ (qs : List Patch) (ts : List PatchLayout) (puts : List Post) (posts : ArePuts qs ts puts) where
  pub puts_count : length puts ≡ length (puts_listed ts)
  puts_count = ap length posts.are ∙ length-map (puts_listed ts) (put_by posts.size)

  module _ (k : ℕ) (q : Patch) (t : PatchLayout) (lt : k < length qs) where
    there : k < length ts
    there = omega (arith, lt, posts.layouts)

    pub edges_here : (xs : List PutAt) → xs ≡ (get_or ts k t).puts.items → All (λ (x : PutAt). is_edge_face (box (get_or qs k q)) x.face ≡ true) xs
    edges_here xs is = subst (All (λ (x : PutAt). is_edge_face (box (get_or qs k q)) x.face ≡ true)) (sym is) (λ j x below. (posts.flows k q t lt j x below).0)

    next_puts : (made : ℕ) → made ≡ length (puts_listed (take k ts)) → PutsAreNext (λ (f : Face). unsigned_abs (flux_in (get_or qs k q) f)) puts made (get_or ts k t).puts.items
    next_puts made is = record {
      within = omega (arith, is, puts_count, flat_within puts_in ts k t there);
      at = λ j x below.
          let inside : length (puts_listed (take k ts)) + j < length (puts_listed ts) = omega (arith, below, flat_within puts_in ts k t there) in
          (λ i. get_or (posts.are i) (is i + j) no_post)
          ∙ get_or-map (put_by posts.size) (puts_listed ts) (length (puts_listed (take k ts)) + j) x no_post inside
          ∙ ap (put_by posts.size) (flat_at puts_in ts k j t x there below)
          ∙ ap (λ n. record { at = (get_or (get_or ts k t).puts.items j x).place; amount = n }) (sym (posts.flows k q t lt j x below).1);
    }

    -- as the task that is held has them
    pub next_here : (xs : List PutAt) → xs ≡ (get_or ts k t).puts.items → (all : List Post) → all ≡ puts → (made : ℕ) → made ≡ length (puts_listed (take k ts)) → PutsAreNext (λ (f : Face). unsigned_abs (flux_in (get_or qs k q) f)) all made xs
    next_here xs is all all_is made made_is =
        subst (λ (ys : List Post). PutsAreNext (λ (f : Face). unsigned_abs (flux_in (get_or qs k q) f)) ys made xs) (sym all_is)
        (subst (PutsAreNext (λ (f : Face). unsigned_abs (flux_in (get_or qs k q) f)) puts made) (sym is) (next_puts made made_is))

    pub puts_more : (xs : List PutAt) → xs ≡ (get_or ts k t).puts.items → length (puts_listed (take k ts)) + length xs ≡ length (puts_listed (take (k + 1) ts))
    puts_more xs is = omega (arith, ap length is, flat_more puts_in ts k t there)

  pub puts_all : (k : ℕ) → length qs ≤ k → length (puts_listed (take k ts)) ≡ length (puts_listed ts)
  puts_all k le = ap length (flat_whole puts_in ts k (omega (arith, le, posts.layouts)))
