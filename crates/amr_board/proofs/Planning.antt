-- What the pieces mean, task by task.
use Rattle.std.proofs.Common.{◌≡◌, ℕ, zero, suc, ◌+◌, List, [], ◌∷◌, map, refl, sym, ap, ◌∙◌, subst}
use mathlib.Core.Option.{some, some-ne-none, some-injective}
use lib.ListN.{get_elem?}
use Rattle.amr_phase.specs.declared.plan.Post.{Post}
use Rattle.amr_phase.specs.declared.plan.Task.{Task}
use Rattle.amr_phase.specs.Plans.{PlanOf, IsPlan, total, added, stored, no_post, puts_of, adds_of, planned_total, planned_face}
use Rattle.amr_phase.proofs.Layouts.{put_is_planned}
use Rattle.amr_board.specs.Piece.{plan_of}
use Rattle.amr_board.proofs.Sums.{got, in_range_at}

total_map : {X Y : Type 0} (f : Y → ℕ) (g : X → Y) (xs : List X) → total f (map g xs) ≡ total (λ x. f (g x)) xs
total_map f g [] = refl
total_map f g (x ∷ xs) = ap (λ n. f (g x) + n) (total_map f g xs)

module _ {P : Type 0} (puts adds : P → List Post) (places words : ℕ) where
  pub posts_of : (pieces : List P) (t : ℕ) (p : P) → get_elem? pieces t ≡ some p
      → (puts_of (plan_of puts adds places words pieces) t ≡ puts p) × (adds_of (plan_of puts adds places words pieces) t ≡ adds p)
  posts_of [] t p e = absurd (some-ne-none p (sym e))
  posts_of (x ∷ xs) zero p e = (ap puts (some-injective x p e), ap adds (some-injective x p e))
  posts_of (x ∷ xs) (suc t) p e = posts_of xs t p e

  pub totals_of_pieces : (pieces : List P) (word : ℕ) → planned_total (plan_of puts adds places words pieces) word ≡ total (λ (p : P). total (added word) (adds p)) pieces
  totals_of_pieces pieces word = total_map (λ (t : Task). total (added word) t.adds) (λ p. record { puts = puts p; adds = adds p }) pieces

  pub faces_of_pieces : (pieces : List P) (place : ℕ) → planned_face (plan_of puts adds places words pieces) place ≡ total (λ (p : P). total (stored place) (puts p)) pieces
  faces_of_pieces pieces place = total_map (λ (t : Task). total (stored place) t.puts) (λ p. record { puts = puts p; adds = adds p }) pieces

  -- a put of a piece is what is planned at its place
  pub put_of_piece : (pieces : List P) (t k : ℕ) (p : P) (put : Post) → IsPlan (plan_of puts adds places words pieces) → get_elem? pieces t ≡ some p → get_elem? (puts p) k ≡ some put
      → planned_face (plan_of puts adds places words pieces) put.at ≡ put.amount + 1
  put_of_piece pieces t k p put ok at is =
      let plan : PlanOf = plan_of puts adds places words pieces in
      let posts : puts_of plan t ≡ puts p = (posts_of pieces t p at).0 in
      let here : get_elem? (puts_of plan t) k ≡ some put = ap (λ (l : List Post). get_elem? l k) posts ∙ is in
      subst (λ (x : Post). planned_face plan x.at ≡ x.amount + 1) (got (puts_of plan t) k put no_post here) (put_is_planned plan ok t k (in_range_at (puts_of plan t) k put here))
