-- What patches give together, of which one at most has a cell; and net flows of such sums.
use Rattle.std.proofs.Common.{◌≡◌, ◌∙◌, ℕ, zero, suc, ◌<◌, true, cond, ℤ, pos, ◌+ℤ◌, ◌-ℤ◌, List, [], ◌∷◌, length, refl, ap, arith}
use Rattle.std.specs.Prelude.{slice_index_or}
use Rattle.std.proofs.lemmas.Int.{ints}
use Rattle.std.proofs.lemmas.Bool.{cond-false, cond-true, false_from_ne_true}
use Rattle.amr_box.specs.declared.Cell.{Cell}
use Rattle.amr_box.specs.declared.Axis.TheVariants.{X, Y}
use Rattle.amr_box.specs.Cells.{holds}
use Rattle.amr_def.specs.declared.problem.Problem.{Problem}
use Rattle.amr_def.specs.State.{Masses}
use Rattle.amr_def.specs.Flux.{Fluxes, net}
use Rattle.amr_patch.specs.declared.patches.Patch.{Patch}
use Rattle.amr_patch.specs.Patches.{ArePatchesApart, box}
use Rattle.amr_register.specs.CoarseFlows.{coarse_flows, high_face, low_face, sum_over}
use Rattle.amr_register.specs.Laws.{net_of_all}

-- ---- sums over patches

pub no_sum : (g : Patch → ℤ) (ps : List Patch) → ((q : Patch) → g q ≡ pos 0) → sum_over g ps ≡ pos 0
no_sum g [] h = refl
no_sum g (q ∷ qs) h = λ i. h q i +ℤ no_sum g qs h i

module _ (h : Cell) (v : Patch → ℤ) where
  abbrev pub here : Patch → ℤ
  here q = cond (holds (box q) h) (v q) (pos 0)

  pub none_there : (ps : List Patch) → ((j : ℕ) (d : Patch) → j < length ps → holds (box (slice_index_or ps j d)) h ≡ true → ⊥) → sum_over here ps ≡ pos 0
  none_there [] none = refl
  none_there (q ∷ qs) none =
      (λ i. cond-false (holds (box q) h) (v q) (pos 0) (false_from_ne_true (holds (box q) h) (none 0 q (omega arith))) i +ℤ none_there qs (λ j d lt. none (suc j) d (omega arith)) i)

  plus_nothing : (z : ℤ) → z +ℤ pos 0 ≡ z
  plus_nothing z = omega (arith, ints)

  nothing_plus : (z : ℤ) → pos 0 +ℤ z ≡ z
  nothing_plus z = omega (arith, ints)

  -- the patch that has the cell gives the sum
  pub one_there : (ps : List Patch) (n : ℕ) (d : Patch) → ArePatchesApart ps → n < length ps → holds (box (slice_index_or ps n d)) h ≡ true → sum_over here ps ≡ v (slice_index_or ps n d)
  one_there [] n d apart lt held = absurd (omega arith)
  one_there (q ∷ qs) zero d apart lt held =
      (λ i. cond-true (holds (box q) h) (v q) (pos 0) held i +ℤ none_there qs (λ j e l other. apart 0 (suc j) e (omega arith) (omega arith) h held other) i)
      ∙ plus_nothing (v q)
  one_there (q ∷ qs) (suc n) d apart lt held =
      (λ i. cond-false (holds (box q) h) (v q) (pos 0) (false_from_ne_true (holds (box q) h) (λ first. apart 0 (suc n) d (omega arith) lt h first held)) i +ℤ one_there qs n d (λ i j e a b. apart (suc i) (suc j) e (omega arith) (omega arith)) (omega arith) held i)
      ∙ nothing_plus (v (slice_index_or qs n d))

-- ---- net flows of sums

eight : (a b c d e f g h : ℤ) → ((a -ℤ b) +ℤ (c -ℤ d)) +ℤ ((e -ℤ f) +ℤ (g -ℤ h)) ≡ ((a +ℤ e) -ℤ (b +ℤ f)) +ℤ ((c +ℤ g) -ℤ (d +ℤ h))
eight a b c d e f g h = omega (arith, ints)

net-plus : (a b : Fluxes) (c : Cell) → net a c +ℤ net b c ≡ net (λ f. a f +ℤ b f) c
unfolding net
net-plus a b c = eight (a (low_face X c)) (a (high_face X c)) (a (low_face Y c)) (a (high_face Y c)) (b (low_face X c)) (b (high_face X c)) (b (low_face Y c)) (b (high_face Y c))

net-none : (c : Cell) → pos 0 ≡ net (λ f. pos 0) c
unfolding net
net-none c = refl

pub net-all : (p : Problem) (l : ℕ) (fine : Masses) (ps : List Patch) (c : Cell) → net_of_all p l fine ps c ≡ net (λ f. sum_over (λ q. coarse_flows p l fine q f) ps) c
net-all p l fine [] c = net-none c
net-all p l fine (q ∷ qs) c = ap (λ (z : ℤ). net (coarse_flows p l fine q) c +ℤ z) (net-all p l fine qs c) ∙ net-plus (coarse_flows p l fine q) (λ f. sum_over (λ r. coarse_flows p l fine r f) qs) c
