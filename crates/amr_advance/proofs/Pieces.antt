-- The pieces of lots, and the lots of pieces.
use Rattle.std.proofs.Common.{◌≡◌, ◌∙◌, ℕ, zero, suc, ◌+◌, ◌<◌, List, [], ◌∷◌, ◌++◌, length, Option, Some, None, get_or, map, set, refl, sym, ap, subst, arith}
use lib.ListN.{get_elem?}
use mathlib.Core.Option.{some, some-injective}
use Rattle.std.specs.Global.{Box}
use Rattle.std.proofs.lemmas.List.{ext_get_or, get_or-map, get_or_append_left, get_or_push, length-map, length_push}
use Rattle.amr_def.specs.declared.problem.Problem.{Problem}
use Rattle.amr_board.specs.declared.board.Shape.{Shape}
use Rattle.amr_board.specs.Ended.{EndedOf}
use Rattle.amr_board.specs.Piece.{AreNumbered}
use Rattle.amr_board.proofs.Sums.{got, in_range_at}
use Rattle.amr_phase.specs.declared.plan.Task.{Task}
use Rattle.amr_phase.specs.Plans.{PlanOf}
use Rattle.amr_lots.specs.Works.{adds_of_work, puts_of_work}
use Rattle.amr_lots.specs.declared.lot.StepBasis.{StepBasis}
use Rattle.amr_lots.specs.declared.lot.Duty.{Duty}
use Rattle.amr_lots.specs.declared.lot.Lot.{Lot}
use Rattle.amr_lots.specs.declared.lot.Work.{Work}
use Rattle.amr_lots.specs.Ready.{MayComplete}
use Rattle.amr_lots.proofs.Completing.{may_complete}
use Rattle.amr_register.proofs.EdgeLists.{first_of}
use Rattle.amr_advance.proofs.MadeMessages.{one_more}
use Rattle.amr_advance.specs.Phases.{ArePieces, AreCollected, HasRun, IsDone, IsPiece, IsPieceOf, MayCollect, planned}

-- ---- pieces

module _ (b : StepBasis) (l : ℕ) (duty : Duty) where
  pub no_pieces : ArePieces b l duty [] []
  no_pieces = record { count = refl; each = λ k x w lt. absurd (omega (arith, lt)) }

  pub one_piece_more : (xs : List (Box Lot)) (ws : List Work) (x : Box Lot) (w : Work) → ArePieces b l duty xs ws → IsPiece b l duty (length xs) x w → ArePieces b l duty (xs ++ x ∷ []) (ws ++ w ∷ [])
  one_piece_more xs ws x w h last = record {
    count = length_push ws w ∙ ap (λ n. n + 1) h.count ∙ sym (length_push xs x);
    each = λ k y v lt. one_more (λ j (z : Box Lot). IsPiece b l duty j z (get_or (ws ++ w ∷ []) j v)) xs (xs ++ x ∷ []) x (length xs) refl refl
        (λ j y' below. subst (IsPiece b l duty j (get_or xs j y')) (sym (get_or_append_left ws (w ∷ []) v j (omega (arith, below, h.count)))) (h.each j y' v below))
        (subst (IsPiece b l duty (length xs) x) (sym (get_or_push ws w v (length xs) h.count)) last) k y (omega (arith, lt, length_push xs x));
  }

  -- each has the number of its task
  pub are_numbered : (xs : List (Box Lot)) (ws : List Work) → ArePieces b l duty xs ws → AreNumbered (λ (w : Work). w.task) ws
  are_numbered xs ws h i w at =
      let lt = in_range_at ws i w at in
      ap (λ (v : Work). v.task) (sym (got ws i w w at)) ∙ (h.each i w.lot w (omega (arith, lt, h.count))).of_task

  -- the lots of pieces
  pub lots_of : (xs : List (Box Lot)) (ws : List Work) → ArePieces b l duty xs ws → map (λ (w : Work). w.lot) ws ≡ xs
  lots_of [] [] h = refl
  lots_of [] (w ∷ ws) h = absurd (let n = h.count in omega (arith, n))
  lots_of (x ∷ xs) [] h = absurd (let n = h.count in omega (arith, n))
  lots_of (x ∷ xs) (w ∷ ws) h = ext_get_or x (map (λ (v : Work). v.lot) (w ∷ ws)) (x ∷ xs) (length-map (w ∷ ws) (λ (v : Work). v.lot) ∙ h.count)
      (λ k lt. let below : k < length (w ∷ ws) = omega (arith, lt, length-map (w ∷ ws) (λ (v : Work). v.lot)) in
      get_or-map (λ (v : Work). v.lot) (w ∷ ws) k w x below ∙ (h.each k x w (omega (arith, below, h.count))).of_lot)

-- ---- the tasks of a phase

task_of : Work → Task
task_of w = record { puts = puts_of_work w; adds = adds_of_work w }

-- as many tasks as pieces
pub tasks : (shape : Shape) (ws : List Work) (plan : PlanOf) → plan ≡ planned shape ws → length plan.tasks ≡ length ws
unfolding task_of
tasks shape ws plan is = ap (λ (q : PlanOf). length q.tasks) is ∙ length-map ws task_of

-- ---- a closed board

-- each piece of a board that was given up
pub undone_piece : (ws : List Work) (t : ℕ) (w : Work) → t < length ws → get_elem? (map Some ws) t ≡ some (Some (get_or ws t w))
undone_piece [] t w lt = absurd (omega (arith, lt))
undone_piece (v ∷ ws) zero w lt = refl
undone_piece (v ∷ ws) (suc t) w lt = undone_piece ws t w (omega (arith, lt))

pub one_piece : (o : EndedOf Work) (t : ℕ) (w v : Work) → IsPieceOf o t w → IsPieceOf o t v → w ≡ v
one_piece o t w v a b = ap from (some-injective (Some w) (Some v) (sym a ∙ b))
  where
    from : Option Work → Work
    from (Some x) = x
    from None = w

-- the pieces of other tasks stay
pub other_piece : (xs : List (Option Work)) (i t : ℕ) (x : Option Work) → i < t → get_elem? (set xs i x) t ≡ get_elem? xs t
other_piece [] i t x lt = refl
other_piece (y ∷ ys) zero zero x lt = absurd (omega (arith, lt))
other_piece (y ∷ ys) zero (suc t) x lt = refl
other_piece (y ∷ ys) (suc i) zero x lt = absurd (omega (arith, lt))
other_piece (y ∷ ys) (suc i) (suc t) x lt = other_piece ys i t x (omega (arith, lt))

module _ {b : StepBasis} {l : ℕ} {duty : Duty} {p : Problem} {shape : Shape} {xs : List (Box Lot)} {o : EndedOf Work} (ran : HasRun b l duty p shape xs o) where
  raw_piece : (t : ℕ) → t < length xs → Work
  raw_piece t lt = first_of ran.raw t (omega (arith, lt, ran.are.count))

  -- its pieces may be collected
  pub may_collect : (t : ℕ) → t < length xs → MayCollect p o t
  may_collect t lt =
      let w0 = raw_piece t lt in
      let w = get_or ran.raw t w0 in
      let there : t < length ran.raw = omega (arith, lt, ran.are.count) in
      let has = ran.pieces t w0 (omega arith) there in
      record {
        piece = has.piece;
        given = has.given;
        complete = may_complete p (planned shape ran.raw) w has.piece (ran.may.begin t w0 there) has.stands o ran.words.places ran.words.faces;
      }

  -- and what was collected is of what was run
  pub all_done : (many : ℕ) (ys : List (Box Lot)) → many ≡ length xs → AreCollected o many ys → (k : ℕ) (w : Work) (x : Box Lot) → k < length xs → IsDone (get_or ran.raw k w) (get_or ys k x)
  all_done many ys same h k w x lt =
      let there : k < length ran.raw = omega (arith, lt, ran.are.count) in
      let has = ran.pieces k w (omega arith) there in
      let one = h.each k has.piece x (omega (arith, lt, same)) has.given in
      record { piece = one.piece; finished = one.finished; stands = one.stands (get_or ran.raw k w) has.stands; lot = one.lot }

-- a piece can still be completed once another board has the same words at as many places
pub still_complete : (p : Problem) (o e : EndedOf Work) (v : Work) → e.places ≡ o.places → e.words ≡ o.words → MayComplete p o v → MayComplete p e v
still_complete p o e v places words h =
    subst (λ n. MayComplete p (record { places = n; registers = e.registers; words = e.words; pieces = e.pieces }) v) (sym places)
    (subst (λ ws. MayComplete p (record { places = o.places; registers = e.registers; words = ws; pieces = e.pieces }) v) (sym words) h)
