-- Pieces of lots in a phase that posts nothing, and what a closed board has of them. And what one has of lots that made their step.
use Rattle.std.proofs.Common.{◌≡◌, ◌∙◌, ℕ, zero, suc, ◌<◌, List, [], ◌∷◌, length, get_or, map, refl, sym, ap, subst, arith}
use Rattle.std.specs.Prelude.{slice_index}
use Rattle.std.specs.Global.{Box}
use Rattle.std.specs.List.{All, AllZip}
use Rattle.amr_def.specs.declared.problem.Problem.{Problem}
use Rattle.amr_board.specs.declared.board.Shape.{Shape}
use Rattle.amr_board.specs.Ended.{EndedOf, total_of}
use Rattle.amr_lots.specs.declared.lot.StepBasis.{StepBasis}
use Rattle.amr_lots.specs.declared.lot.Duty.{Duty}
use Rattle.amr_lots.specs.declared.lot.Duty.TheVariants.{Correct, Keep, Send, Step}
use Rattle.amr_lots.specs.declared.lot.Lot.{Lot}
use Rattle.amr_lots.specs.declared.lot.Work.{Work}
use Rattle.amr_lots.specs.Ready.{MayBeginIn}
use Rattle.amr_lots.specs.Duties.{IsServed, MayServe}
use Rattle.amr_lots.specs.Works.{IsUnderWay, StandsForIn, adds_in, adds_of_work, puts_in, puts_of_work}
use Rattle.amr_phase.specs.declared.plan.Task.{Task}
use Rattle.amr_phase.specs.Plans.{IsPlan, PlanOf, added, named, no_task, planned_total, total}
use Rattle.amr_register.proofs.EdgeLists.{first_of}
use Rattle.amr_register.specs.EdgeCells.{IsSameEdge, lists_of}
use Rattle.amr_advance.specs.declared.lots.Lots.{Lots}
use Rattle.amr_advance.specs.Phases.{AreCollected, ArePieces, HasAsMany, HasRun, HaveMadeStep, IsDone, IsPiece, MayBeRun, planned}
use Rattle.amr_advance.proofs.LentEdges.{lists_count}
use Rattle.amr_advance.proofs.Pieces.{all_done}
use Rattle.amr_advance.proofs.RunZips.{zip_length, zip_places}

-- ---- a piece that posts nothing

begin_in : (d : Duty) (plan : PlanOf) (w : Work) → MayServe d w.lot.value → MayBeginIn d plan w
begin_in Step plan w h = absurd h
begin_in Send plan w h = h
begin_in Correct plan w h = h
begin_in Keep plan w h = h

no_puts : (d : Duty) (w : Work) → MayServe d w.lot.value → puts_in d w ≡ []
no_puts Step w h = absurd h
no_puts Send w h = refl
no_puts Correct w h = refl
no_puts Keep w h = refl

no_adds : (d : Duty) (w : Work) → MayServe d w.lot.value → adds_in d w ≡ []
no_adds Step w h = absurd h
no_adds Send w h = refl
no_adds Correct w h = refl
no_adds Keep w h = refl

is_served : (d : Duty) (w v : Work) → MayServe d w.lot.value → StandsForIn d w v → IsServed d w.lot.value v.lot.value
is_served Step w v may h = absurd may
is_served Send w v may h = h.1
is_served Correct w v may h = h.1
is_served Keep w v may h = h.1

-- ---- a plan without posts

abbrev none_of : Work → Task
none_of w = no_task

at_none : (ws : List Work) (t : ℕ) → get_or (map none_of ws) t no_task ≡ no_task
at_none [] t = refl
at_none (w ∷ ws) zero = refl
at_none (w ∷ ws) (suc t) = at_none ws t

total_none : (f : Task → ℕ) (ws : List Work) → f no_task ≡ 0 → total f (map none_of ws) ≡ 0
total_none f [] h = refl
total_none f (w ∷ ws) h = let rest = total_none f ws h in omega (arith, h, rest)

no_plan : (places words : ℕ) (ws : List Work) → IsPlan (record { places = places; words = words; tasks = map none_of ws })
no_plan places words ws = record {
  puts_in_range = λ t k lt. absurd (let e = ap (λ (x : Task). length x.puts) (at_none ws t) in omega (arith, lt, e));
  adds_in_range = λ t k lt. absurd (let e = ap (λ (x : Task). length x.adds) (at_none ws t) in omega (arith, lt, e));
  apart = λ place. let e = total_none (λ (t : Task). total (named place) t.puts) ws refl in omega (arith, e);
  puts_fit = λ t k lt. absurd (let e = ap (λ (x : Task). length x.puts) (at_none ws t) in omega (arith, lt, e));
  totals_fit = λ word. let e = total_none (λ (t : Task). total (added word) t.adds) ws refl in omega (arith, e);
}

tasks_none : (ws : List Work) → ((k : ℕ) (w : Work) → k < length ws → (puts_of_work (get_or ws k w) ≡ []) × (adds_of_work (get_or ws k w) ≡ [])) → map (λ (w : Work). record { puts = puts_of_work w; adds = adds_of_work w }) ws ≡ map none_of ws
tasks_none [] h = refl
tasks_none (w ∷ ws) h =
    let first = h 0 w (omega arith) in
    let rest = tasks_none ws (λ k v lt. h (suc k) v (omega (arith, lt))) in
    λ i. record { puts = first.0 i; adds = first.1 i } ∷ rest i

module _ (b : StepBasis) (l : ℕ) (d : Duty) (p : Problem) (of_p : b.problem.value ≡ p) (xs : List (Box Lot)) (may : All (λ (x : Box Lot). MayServe d x.value) xs) where
  module _ (ws : List Work) (raw : ArePieces b l d xs ws) where
    one : (k : ℕ) (w : Work) → k < length ws → IsPiece b l d k (get_or xs k w.lot) (get_or ws k w)
    one k w lt = raw.each k w.lot w (omega (arith, lt, raw.count))

    may_here : (k : ℕ) (w : Work) → k < length ws → MayServe d (get_or ws k w).lot.value
    may_here k w lt = subst (λ (x : Box Lot). MayServe d x.value) (sym (one k w lt).of_lot) (may k w.lot (omega (arith, lt, raw.count)))

    no_posts : (k : ℕ) (w : Work) → k < length ws → (puts_of_work (get_or ws k w) ≡ []) × (adds_of_work (get_or ws k w) ≡ [])
    no_posts k w lt =
        ((λ i. puts_in ((one k w lt).of_duty i) (get_or ws k w)) ∙ no_puts d (get_or ws k w) (may_here k w lt), (λ i. adds_in ((one k w lt).of_duty i) (get_or ws k w)) ∙ no_adds d (get_or ws k w) (may_here k w lt))

    -- so they may be put on a board
    pub may_be_served : (shape : Shape) → MayBeRun p shape ws
    may_be_served shape = record {
      plan = subst (λ ts. IsPlan (record { places = shape.places; words = shape.words; tasks = ts })) (sym (tasks_none ws no_posts)) (no_plan shape.places shape.words ws);
      begin = λ k w lt. record {
        problem = (λ i. ((one k w lt).of_basis i).problem.value) ∙ of_p;
        raw = (one k w lt).raw;
        duty = subst (λ (e : Duty). MayBeginIn e (planned shape ws) (get_or ws k w)) (sym (one k w lt).of_duty) (begin_in d (planned shape ws) (get_or ws k w) (may_here k w lt));
      };
    }

  -- and once they are collected, their lots are served
  pub all_served : {shape : Shape} {o : EndedOf Work} (ran : HasRun b l d p shape xs o) (many : ℕ) (ys : List (Box Lot)) → many ≡ length xs → AreCollected o many ys → AllZip (λ (x y : Box Lot). IsServed d x.value y.value) xs ys
  all_served ran many ys same h = zip_places (λ (x y : Box Lot). IsServed d x.value y.value) xs ys (sym same ∙ sym h.count) (λ k x lt.
      let w0 = first_of ran.raw k (omega (arith, lt, ran.are.count)) in
      let piece = ran.are.each k x w0 lt in
      let done = all_done ran many ys same h k w0 x lt in
      let w = get_or ran.raw k w0 in
      let here : MayServe d w.lot.value = subst (λ (y : Box Lot). MayServe d y.value) (sym piece.of_lot) (may k x lt) in
      let served = is_served d w done.piece here (subst (λ (e : Duty). StandsForIn e w done.piece) piece.of_duty done.stands.does) in
      subst (λ (y : Box Lot). IsServed d (get_or xs k x).value y.value) (sym done.lot) (subst (λ (y : Box Lot). IsServed d y.value done.piece.lot.value) piece.of_lot served))

-- ---- lots that made their step

done_as_many : (b : StepBasis) (l k : ℕ) (x y : Box Lot) (w : Work) → IsPiece b l Step k x w → IsDone w y → HasAsMany x y
done_as_many b l k x y w one done =
    let under : IsUnderWay w done.piece = subst (λ (e : Duty). StandsForIn e w done.piece) one.of_duty done.stands.does in
    let vs = w.lot.value.edges.items in
    let us = done.piece.lot.value.edges.items in
    let many : length us ≡ length vs = omega (arith, lists_count vs, lists_count us, zip_length (AllZip IsSameEdge) (lists_of vs) (lists_of us) under.edges.same) in
    record {
      patches = ap (λ (z : Box Lot). length z.value.patches.items) done.lot ∙ under.count ∙ ap (λ (z : Box Lot). length z.value.patches.items) one.of_lot;
      edges = ap (λ (z : Box Lot). length z.value.edges.items) done.lot ∙ many ∙ ap (λ (z : Box Lot). length z.value.edges.items) one.of_lot;
    }

pub as_many_itself : (xs : List (Box Lot)) → AllZip HasAsMany xs xs
as_many_itself xs = zip_places HasAsMany xs xs refl (λ k x lt. record { patches = refl; edges = refl })

module _ {b : StepBasis} {l : ℕ} {p : Problem} {shape : Shape} {xs : List (Box Lot)} {o : EndedOf Work} (ran : HasRun b l Step p shape xs o) (many : ℕ) (ys : List (Box Lot)) (same : many ≡ length xs) (h : AreCollected o many ys) where
  pub as_many_lots : AllZip HasAsMany xs ys
  as_many_lots = zip_places HasAsMany xs ys (sym same ∙ sym h.count) (λ k x lt.
      let w0 = first_of ran.raw k (omega (arith, lt, ran.are.count)) in
      done_as_many b l k (get_or xs k x) (get_or ys k x) (get_or ran.raw k w0) (ran.are.each k x w0 lt) (all_done ran many ys same h k w0 x lt))

  pub step_made : (t u : Lots) → t.shape ≡ shape → u.lots.items ≡ ys → length u.totals.items ≡ length t.totals.items → ((word : ℕ) → word < length u.totals.items → slice_index u.totals.items word ≡ total_of o word) → length t.totals.items ≡ t.shape.words → HaveMadeStep b l xs t u
  step_made t u is_shape is_ys count totals words = record {
    raw = ran.raw;
    are = ran.are;
    count = ap length is_ys ∙ h.count ∙ same;
    lots = λ k w x lt. subst (λ (zs : List (Box Lot)). IsDone (get_or ran.raw k w) (get_or zs k x)) (sym is_ys) (all_done ran many ys same h k w x lt);
    words = count;
    totals = λ word lt.
        let there : word < shape.words = omega (arith, lt, ap (λ (z : Shape). z.words) is_shape) in
        totals word (omega (arith, lt, count, words)) ∙ ran.words.totals word there ∙ (λ i. planned_total (planned (sym is_shape i) ran.raw) word);
  }
