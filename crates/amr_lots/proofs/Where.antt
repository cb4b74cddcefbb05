-- Patches that make their step where their layouts are of one kind, one after another.
use Rattle.std.proofs.Common.{◌≡◌, ℕ, ◌+◌, ◌<◌, ◌≤◌, List, length, get_or, set, take, drop, sym, subst, arith}
use Rattle.std.proofs.lemmas.List.{get_or_default}
use Rattle.amr_def.specs.declared.problem.Problem.{Problem}
use Rattle.amr_patch.specs.declared.patches.Patch.{Patch}
use Rattle.amr_layout.specs.declared.PatchLayout.{PatchLayout}
use Rattle.amr_lots.specs.Lots.{HasStepped}
use Rattle.amr_lots.specs.LotSteps.{AreSizesAt, AreSizesOf, CanStepWhere, HaveStepped, MayStepIn, ReadsSome, sizes_of}
use Rattle.amr_lots.specs.Works.{places_read}
use Rattle.amr_lots.proofs.InPlaces.{AreChangedTo, each_changed, one_more_changed}

-- patch k made it or stayed
pub record IsSteppedWhere (p : Problem) (l : ℕ) (Steps Stays : PatchLayout → Type 0) (ts : List PatchLayout) (k : ℕ) (q r : Patch) : Type 0 where
  pub steps : (t : PatchLayout) → Steps (get_or ts k t) → HasStepped p l q r
  pub stays : (t : PatchLayout) → Stays (get_or ts k t) → r ≡ q

module _ (p : Problem) (l : ℕ) (Steps Stays : PatchLayout → Type 0) (ts : List PatchLayout) (qs rs : List Patch) (n : ℕ) (up : AreChangedTo (IsSteppedWhere p l Steps Stays ts) n qs rs) where
  -- the next patch, with its layout
  module _ (columns : ℕ) (can : CanStepWhere p l columns Steps ts qs) (a : Patch) (t : PatchLayout) (lt : n < length qs) where
    pub may_here : Steps (get_or ts n t) → MayStepIn p l columns (get_or rs n a)
    may_here s = subst (MayStepIn p l columns) (sym (up.rest n a (omega arith))) (can.steps n a t lt s)

    pub next_where : (b : Patch) → (Steps (get_or ts n t) → HasStepped p l (get_or rs n a) b) → (Stays (get_or ts n t) → b ≡ get_or rs n a) → AreChangedTo (IsSteppedWhere p l Steps Stays ts) (n + 1) qs (set rs n b)
    next_where b steps stays = one_more_changed (IsSteppedWhere p l Steps Stays ts) qs n rs up a b lt (record {
      steps = λ u s. steps (subst Steps (get_or_default ts n u t (omega (arith, lt, can.count))) s);
      stays = λ u s. stays (subst Stays (get_or_default ts n u t (omega (arith, lt, can.count))) s);
    })

  -- the sizes of what flows through the faces that it reads, from `done` on
  pub sizes_here : (sizes : List ℕ) → AreSizesOf p l sizes ts qs → (a : Patch) (t : PatchLayout) → n < length qs → ReadsSome (get_or ts n t) → (done : ℕ) → done ≡ length (places_read (take n ts)) → (m : ℕ) → m ≡ length (get_or ts n t).border.items
      → AreSizesAt p l (take m (drop done sizes)) (get_or ts n t) (get_or rs n a)
  sizes_here sizes are a t lt some done done_is m m_is =
      subst (λ i. AreSizesAt p l (take i (drop done sizes)) (get_or ts n t) (get_or rs n a)) (sym m_is)
      (subst (λ i. AreSizesAt p l (take (length (get_or ts n t).border.items) (drop i sizes)) (get_or ts n t) (get_or rs n a)) (sym done_is)
      (subst (AreSizesAt p l (sizes_of sizes ts n t) (get_or ts n t)) (sym (up.rest n a (omega arith))) (are.read n a t lt some)))

  -- after the last
  pub all_where : length qs ≤ n → HaveStepped p l Steps Stays ts qs rs
  all_where whole = record {
    count = up.count;
    steps = λ k q t lt s. (each_changed (IsSteppedWhere p l Steps Stays ts) qs n rs up whole k q lt).steps t s;
    stays = λ k q t lt s. (each_changed (IsSteppedWhere p l Steps Stays ts) qs n rs up whole k q lt).stays t s;
  }
