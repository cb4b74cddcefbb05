-- A plan in parts: what the parts ask of the patches, and that they and the messages fill each frame together.
use Rattle.std.proofs.Common.{◌≡◌, ◌∙◌, inl, inr, ◌⊎◌, ℕ, ◌+◌, ◌-◌, ◌*◌, ◌/◌, ◌<◌, ◌≤◌, Bool, pos, ◌+ℤ◌, List, [], ◌∷◌, length, get_or, take, drop, IsTrue, refl, sym, ap, subst, arith}
use Rattle.std.specs.Prelude.{min}
use Rattle.std.specs.List.{All, AllZip, Any}
use Rattle.std.specs.Global.{Vec}
use Rattle.std.proofs.Math.Nat.{div-eq_of_lt, mul-add-div_right}
use Rattle.std.specs.declared.option.Option.TheVariants.{None}
use Rattle.std.proofs.lemmas.Bool.{cases_eq}
use Rattle.std.proofs.lemmas.List.{get_or-drop, get_or-take, length-drop, length-take}
use Rattle.std.proofs.lemmas.List.Elements.{All-head, All-same, All-tail, length_all_zip}
use Rattle.amr_box.specs.declared.Cell.{Cell}
use Rattle.amr_box.specs.Cells.{Extent, along, holds}
use Rattle.amr_def.specs.declared.problem.Problem.{Problem}
use Rattle.amr_def.specs.Domain.{Domain, domain, home_cell, is_inside}
use Rattle.amr_def.specs.State.{Masses}
use Rattle.amr_def.specs.Value.{value_at}
use Rattle.amr_patch.specs.declared.patches.Patch.{Patch}
use Rattle.amr_patch.specs.Places.{in_frame}
use Rattle.amr_patch.specs.Patches.{ArePatchesApart, box, mass_in, masses_in}
use Rattle.amr_ghost.specs.Strips.{step}
use Rattle.amr_ghost.specs.Frames.{AreInDomain, is_beside, is_of_level}
use Rattle.amr_ghost.specs.GhostCells.{AreCopied, HasFrame, HasGhost, KeepsCells, size_along}
use Rattle.amr_ghost.specs.Plans.{HasCell, IsSource, IsSpan, PlansFrames}
use Rattle.amr_ghost.specs.Parts.{IsElsewhere, IsInParts, IsParted, IsRun, IsSourceBelow, IsSpanBelow, level_span, span_of}
use Rattle.amr_ghost.specs.Outer.{AreOuterFor, HasNoMass, HasOuter, IsOuterSource, IsOuterSpan, IsSpanBeside}
use Rattle.amr_ghost.specs.Messages.{AreMassesFor, AreMessagesTo, ArePacked, HasCopy, HasFilled, IsCopyFor, IsMessageFor, IsReceived, IsTaken}
use Rattle.amr_ghost.specs.declared.sides.Strip.{Strip}
use Rattle.amr_ghost.specs.declared.sources.Source.{Source}
use Rattle.amr_ghost.specs.declared.sources.Source.TheVariants.{Beside, Coarser, Outside}
use Rattle.amr_ghost.specs.declared.sources.GhostSpan.{GhostSpan}
use Rattle.amr_ghost.specs.declared.plan.FramePlan.{FramePlan}
use Rattle.amr_ghost.specs.declared.parts.FrameCopy.{FrameCopy}
use Rattle.amr_ghost.specs.declared.parts.FrameParts.{FrameParts}
use Rattle.amr_ghost.specs.declared.messages.Message.{Message}
use Rattle.amr_ghost.specs.declared.outer.OuterGhosts.{OuterGhosts}
use Rattle.amr_ghost.proofs.Beyond.{gap_none, home_is, outside_none}
use Rattle.amr_ghost.proofs.Levels.{some_patch}
use Rattle.amr_ghost.proofs.Spans.{span_copied}
use Rattle.amr_ghost.proofs.Zips.{still_mass, zip_box}

-- ---- the spans of a plan

span_in : (d : Domain) (ps : List Patch) (plan : FramePlan) → All (IsSpan d ps) plan.spans.items → (s : GhostSpan) → Any (λ x. x ≡ s) plan.spans.items → IsSpan d ps s
span_in d ps plan spans s a = subst (IsSpan d ps) (a.3 ∙ a.4) (spans a.0 a.1 a.2)

-- the runs have all patches that a plan tells of
source_small : (d : Domain) (ps : List Patch) (s : Strip) (source : Source) (n : ℕ) → IsSource d ps s source → length ps ≤ n → IsSourceBelow n source
source_small d ps s Outside n is few = tt
source_small d ps s (Beside j h) n is few = let there = is.there in omega (arith, there, few)
source_small d ps s (Coarser h) n is few = tt

pub plan_small : (d : Domain) (ps : List Patch) (plan : FramePlan) (width runs : ℕ) → All (IsSpan d ps) plan.spans.items → length ps ≤ runs * width → All (IsSpanBelow (runs * width)) plan.spans.items
plan_small d ps plan width runs spans few = λ k s lt.
    let span : GhostSpan = get_or plan.spans.items k s in
    let is : IsSpan d ps span = spans k s lt in
    let there : span.patch < length ps = is.there in
    let low : span.patch < runs * width = omega (arith, there, few) in
    (low, source_small d ps span.strip span.source (runs * width) is.source few)

-- ---- outer ghost cells

-- a source that is no patch of the level goes by the domain alone
outer_source : (d : Domain) (ps : List Patch) (s : Strip) (source : Source) → IsSource d ps s source → IsElsewhere source → IsOuterSource d s source
outer_source d ps s Outside is other = is
outer_source d ps s (Beside j h) is other = absurd other
outer_source d ps s (Coarser h) is other = record { home = is.home; room = is.room; inside = is.inside }

-- and no patch has a mass there
no_masses : (d : Domain) (ps : List Patch) (s : Strip) (source : Source) → AreInDomain d ps → 0 < s.count → ((k : ℕ) → k < s.count → IsTrue (is_inside (size_along s.axis d) (along s.axis s.from +ℤ pos k))) → IsSource d ps s source → IsElsewhere source → (k : ℕ) → k < s.count → masses_in ps (home_cell d (step s.axis s.from k)) ≡ None
no_masses d ps s Outside lie some inside is other k t =
    let h : Cell = home_cell d s.from in
    ap (masses_in ps) (sym (home_is d s.axis s.from h s.count refl some inside k t)) ∙ outside_none d s.axis s.from h s.count refl some inside ps lie is k t
no_masses d ps s (Beside j h) lie some inside is other k t = absurd other
no_masses d ps s (Coarser h) lie some inside is other k t = ap (masses_in ps) (sym (home_is d s.axis s.from h s.count is.home some inside k t)) ∙ gap_none d s.axis s.from h s.count is.home some inside ps s.count is.gap k t

module _ (d : Domain) (ps : List Patch) (plan : FramePlan) (width runs : ℕ) (parts : FrameParts) (planned : All (IsSpan d ps) plan.spans.items) (parted : IsParted plan width runs parts) where
  part_span : (t : ℕ) (v : Vec GhostSpan) (k : ℕ) (s : GhostSpan) → t < runs → k < length (get_or parts.outer.items t v).items → IsSpan d ps (level_span (t * width) (get_or (get_or parts.outer.items t v).items k s))
  part_span t v k s below lt = span_in d ps plan planned (level_span (t * width) (get_or (get_or parts.outer.items t v).items k s)) (parted.outer t v below k s lt).2

  -- what find_values asks of the spans of a run
  pub outer_spans : (t : ℕ) (v : Vec GhostSpan) → t < runs → All (IsOuterSpan d) (get_or parts.outer.items t v).items
  outer_spans t v below = λ k s lt.
      let x : GhostSpan = get_or (get_or parts.outer.items t v).items k s in
      let is : IsSpan d ps (level_span (t * width) x) = part_span t v k s below lt in
      record {
        some = is.some;
        small = is.small;
        inside = (is.ghost_strip (some_patch ps (t * width + x.patch) is.there)).inside;
        source = outer_source d ps x.strip x.source is.source (parted.outer t v below k s lt).1;
      }

  -- and that the values which it finds are those of the level's cells
  pub outer_massless : AreInDomain d ps → (t : ℕ) (v : Vec GhostSpan) → t < runs → All (HasNoMass d (masses_in ps)) (get_or parts.outer.items t v).items
  outer_massless lie t v below = λ k s lt.
      let x : GhostSpan = get_or (get_or parts.outer.items t v).items k s in
      let is : IsSpan d ps (level_span (t * width) x) = part_span t v k s below lt in
      no_masses d ps x.strip x.source lie is.some (is.ghost_strip (some_patch ps (t * width + x.patch) is.there)).inside is.source (parted.outer t v below k s lt).1

-- so what it found is
pub outer_valued : (p : Problem) (l : ℕ) (old : Masses) (ps : List Patch) (plan : FramePlan) (width runs : ℕ) (parts : FrameParts) → All (IsSpan (domain p l) ps) plan.spans.items → IsParted plan width runs parts → AreInDomain (domain p l) ps → (t : ℕ) (v : Vec GhostSpan) (x : OuterGhosts) → t < runs → x.spans.items ≡ (get_or parts.outer.items t v).items → ((m : Masses) → All (HasNoMass (domain p l) m) x.spans.items → AreOuterFor (value_at p l m old) (is_of_level p l m) x) → AreOuterFor (value_at p l (masses_in ps) old) (is_of_level p l (masses_in ps)) x
outer_valued p l old ps plan width runs parts planned parted lie t v x below spans found =
    let d = domain p l in
    let m = masses_in ps in
    found m (subst (All (HasNoMass d m)) (sym spans) (outer_massless d ps plan width runs parts planned parted lie t v below))

-- ---- runs

-- the number of a run, by the number of one of its patches
run_number : (width t k : ℕ) → k < width → (t * width + k) / width ≡ t
run_number width t k lt =
    let some : 0 < width = omega (arith, lt) in
    let none : k / width ≡ 0 = div-eq_of_lt lt in
    mul-add-div_right some t k ∙ (omega (arith, none))

same_run : (width t u k m : ℕ) → k < width → m < width → t * width + k ≡ u * width + m → t ≡ u
same_run width t u k m low high e = sym (run_number width t k low) ∙ ap (λ n. n / width) e ∙ run_number width u m high

-- each run of a list of patches
abbrev run_of : ℕ → ℕ → List Patch → List Patch
run_of width u qs = take width (drop (u * width) qs)

run_count : (width u : ℕ) (qs : List Patch) → length (run_of width u qs) ≡ min width (length qs - u * width)
run_count width u qs = length-take width (drop (u * width) qs) ∙ ap (min width) (length-drop (u * width) qs)

run_is : (width u : ℕ) (qs : List Patch) → IsRun width u qs (run_of width u qs)
run_is width u qs = record {
  small = omega (arith, run_count width u qs);
  same = λ k q lt. get_or-take width (drop (u * width) qs) k q (omega (arith, lt, run_count width u qs)) ∙ get_or-drop (u * width) qs k q;
  there = λ k lt. omega (arith, lt, run_count width u qs);
  whole = λ k below lt. omega (arith, below, lt, run_count width u qs);
}

-- ---- the copies from run u to run t

module _ (d : Domain) (ps qs : List Patch) (plan : FramePlan) (width runs : ℕ) (parts : FrameParts) (planned : All (IsSpan d ps) plan.spans.items) (parted : IsParted plan width runs parts) (kept : AllZip KeepsCells ps qs) where
  same_count : length ps ≡ length qs
  same_count = length_all_zip KeepsCells ps qs kept

  run_box : (t : ℕ) (rs : List Patch) → IsRun width t qs rs → (k : ℕ) (q : Patch) → k < length rs → box (get_or rs k q) ≡ box (get_or ps (t * width + k) q)
  run_box t rs run k q lt = let there = run.there k lt in ap box (run.same k q lt) ∙ zip_box ps qs (t * width + k) q q kept (omega (arith, there, same_count))

  -- a patch of the level that lies in a run
  in_run : (t : ℕ) (rs : List Patch) → IsRun width t qs rs → (k : ℕ) → k < width → t * width + k < length ps → k < length rs
  in_run t rs run k lt there = run.whole k lt (omega (arith, there, same_count))

  -- a copy is a span of the level
  copy_span : (u t k : ℕ) (v : Vec FrameCopy) (c : FrameCopy) → u < runs → t < runs → k < length (get_or parts.copies.items (u * runs + t) v).items → IsSpan d ps (span_of (t * width) (u * width) (get_or (get_or parts.copies.items (u * runs + t) v).items k c))
  copy_span u t k v c from_there there lt = span_in d ps plan planned (span_of (t * width) (u * width) (get_or (get_or parts.copies.items (u * runs + t) v).items k c)) (parted.copies u t v from_there there k c lt).2

  -- a copy takes masses of the patches of the one run
  takes : (u t : ℕ) (us : List Patch) (c : FrameCopy) → IsRun width u qs us → c.source < width → IsSpan d ps (span_of (t * width) (u * width) c) → IsTaken us c
  takes u t us c run low is =
      let there : c.source < length us = in_run u us run c.source low is.source.there in
      record {
        there = there;
        small = is.small;
        room = is.source.room;
        held = λ q k lt. subst (λ (b : Extent). IsTrue (holds b (step c.strip.axis c.from k))) (sym (run_box u us run c.source q there)) (is.source.held q k lt);
      }

  -- and gives them to ghost cells beside those of the other
  receives : (u t : ℕ) (rs : List Patch) (c : FrameCopy) → IsRun width t qs rs → c.patch < width → IsSpan d ps (span_of (t * width) (u * width) c) → IsReceived rs c
  receives u t rs c run low is =
      let there : c.patch < length rs = in_run t rs run c.patch low is.there in
      record {
        there = there;
        some = is.some;
        small = is.small;
        room = is.room;
        ghosts = λ q k lt. subst (λ (b : Extent). IsTrue (in_frame b (step c.strip.axis c.strip.from k))) (sym (run_box t rs run c.patch q there)) ((is.ghost_strip q).ghosts k lt);
        beside = λ q k lt. subst (λ (b : Extent). IsTrue (is_beside b (step c.strip.axis c.strip.from k))) (sym (run_box t rs run c.patch q there)) ((is.ghost_strip q).beside k lt);
      }

  -- the outer spans of run t lie beside its patches
  pub outer_beside : (t : ℕ) (rs : List Patch) (v : Vec GhostSpan) → t < runs → IsRun width t qs rs → All (IsSpanBeside rs) (get_or parts.outer.items t v).items
  outer_beside t rs v below run = λ k s lt.
      let x : GhostSpan = get_or (get_or parts.outer.items t v).items k s in
      let part = parted.outer t v below k s lt in
      let is : IsSpan d ps (level_span (t * width) x) = span_in d ps plan planned (level_span (t * width) x) part.2 in
      let there : x.patch < length rs = in_run t rs run x.patch part.0 is.there in
      record {
        there = there;
        some = is.some;
        small = is.small;
        room = is.room;
        ghosts = λ q j t_j. subst (λ (b : Extent). IsTrue (in_frame b (step x.strip.axis x.strip.from j))) (sym (run_box t rs run x.patch q there)) ((is.ghost_strip q).ghosts j t_j);
        beside = λ q j t_j. subst (λ (b : Extent). IsTrue (is_beside b (step x.strip.axis x.strip.from j))) (sym (run_box t rs run x.patch q there)) ((is.ghost_strip q).beside j t_j);
      }

  pub copies_taken : (u t : ℕ) (us : List Patch) (v : Vec FrameCopy) → u < runs → t < runs → IsRun width u qs us → All (IsTaken us) (get_or parts.copies.items (u * runs + t) v).items
  copies_taken u t us v from_there there run = λ k c lt. takes u t us (get_or (get_or parts.copies.items (u * runs + t) v).items k c) run (parted.copies u t v from_there there k c lt).1 (copy_span u t k v c from_there there lt)

  pub copies_received : (u t : ℕ) (rs : List Patch) (v : Vec FrameCopy) → u < runs → t < runs → IsRun width t qs rs → All (IsReceived rs) (get_or parts.copies.items (u * runs + t) v).items
  copies_received u t rs v from_there there run = λ k c lt. receives u t rs (get_or (get_or parts.copies.items (u * runs + t) v).items k c) run (parted.copies u t v from_there there k c lt).0 (copy_span u t k v c from_there there lt)

-- ---- what is packed is what the copies are to give

packed_for : (V : Cell → ℕ) (M : Cell → Bool) (us : List Patch) (q : Patch) (cs : List FrameCopy) (masses : List ℕ) → ArePacked us cs masses → All (IsCopyFor V M us) cs → AreMassesFor V M cs masses
packed_for V M us q [] masses packed copied = tt
packed_for V M us q (c ∷ cs) masses packed copied =
    let first : AreCopied V M (get_or us c.source q) c.strip.axis c.strip.from c.from c.strip.count = All-head (IsCopyFor V M us) c cs copied q in (
      record { values = λ k lt. first.values k lt ∙ sym (packed.0 q k lt); marks = first.marks },
      packed_for V M us q cs (drop c.strip.count masses) packed.1 (All-tail (IsCopyFor V M us) c cs copied),
    )

-- what has no copies is for nothing
none_for : (V : Cell → ℕ) (M : Cell → Bool) (cs : List FrameCopy) (masses : List ℕ) → cs ≡ [] → AreMassesFor V M cs masses
none_for V M cs masses none = subst (λ (ds : List FrameCopy). AreMassesFor V M ds masses) (sym none) tt

-- a list that has a place has a message
some_message : (xs : List Message) (k : ℕ) → k < length xs → Message
some_message [] k lt = absurd (omega (arith, lt))
some_message (x ∷ xs) k lt = x

-- ---- the frames of run t

module _ (p : Problem) (l : ℕ) (old : Masses) (ps qs rs fs : List Patch) (plan : FramePlan) (width runs t : ℕ) (parts : FrameParts) (v : Vec FrameCopy) (messages : List Message) (planned : PlansFrames (domain p l) ps plan) (parted : IsParted plan width runs parts) (kept : AllZip KeepsCells ps qs) (below : t < runs) (run : IsRun width t qs rs) (apart : ArePatchesApart ps)
    (w : Vec GhostSpan) (given : OuterGhosts) (spans : given.spans.items ≡ (get_or parts.outer.items t w).items) (valued : AreOuterFor (value_at p l (masses_in ps) old) (is_of_level p l (masses_in ps)) given)
    (sent : AreMessagesTo parts width runs t qs messages) (filled : HasFilled given (get_or parts.copies.items (t * runs + t) v).items messages rs fs) where
  abbrev value : Cell → ℕ
  value = value_at p l (masses_in ps) old

  abbrev mark : Cell → Bool
  mark = is_of_level p l (masses_in ps)

  abbrev copies : ℕ → List FrameCopy
  copies u = (get_or parts.copies.items (u * runs + t) v).items

  -- what a copy from a run takes are the values of the level's cells
  copied : (u : ℕ) (us : List Patch) (c : FrameCopy) → IsRun width u qs us → c.source < length us → IsSpan (domain p l) ps (span_of (t * width) (u * width) c) → IsCopyFor value mark us c
  copied u us c from_run here is q =
      let there : u * width + c.source < length ps = is.source.there in
      let level : AreCopied value mark (get_or ps (u * width + c.source) q) c.strip.axis c.strip.from c.from c.strip.count = span_copied p l ps old (u * width + c.source) q (box (get_or ps (t * width + c.patch) q)) c.strip.axis c.strip.from c.from c.strip.count c.strip.count apart there is.source.home is.some (omega arith) (is.ghost_strip q) is.source.held in
      record {
        values = λ k lt. level.values k lt
            ∙ sym (still_mass ps qs (u * width + c.source) q q (step c.strip.axis c.from k) (step c.strip.axis c.from k) kept there refl (is.source.held q k lt))
            ∙ ap (λ (r : Patch). mass_in r (step c.strip.axis c.from k)) (sym (from_run.same c.source q here));
        marks = level.marks;
      }

  all_copied : (u : ℕ) (us : List Patch) → u < runs → IsRun width u qs us → All (IsCopyFor value mark us) (copies u)
  all_copied u us from_there from_run = λ k c lt.
      let taken = copies_taken (domain p l) ps qs plan width runs parts planned.spans parted kept u t us v from_there below from_run k c lt in
      copied u us (get_or (copies u) k c) from_run taken.there (copy_span (domain p l) ps qs plan width runs parts planned.spans parted kept u t k v c from_there below lt)

  -- what the run copies within itself, and what the messages bring
  own_copied : All (IsCopyFor value mark rs) (copies t)
  own_copied = all_copied t rs below run

  message_for : (q : Patch) (u : ℕ) (x : Message) → u < runs → (u ≡ t) ⊎ (u ≡ t → ⊥) → IsMessageFor value mark (get_or messages u x)
  message_for q u x from_there (inl same) = none_for value mark (get_or messages u x).copies.items (get_or messages u x).masses.items (ap (λ n. (get_or messages n x).copies.items) same ∙ sent.own x)
  message_for q u x from_there (inr other) =
      let us : List Patch = run_of width u qs in
      packed_for value mark us q (get_or messages u x).copies.items (get_or messages u x).masses.items
      (sent.packed u x us from_there (run_is width u qs))
      (All-same (IsCopyFor value mark us) (get_or messages u x).copies.items (copies u) (sent.copies u x v from_there other) (all_copied u us from_there (run_is width u qs)))

  all_messages : Patch → All (IsMessageFor value mark) messages
  all_messages q = λ u x lt. let count = sent.count in message_for q u x (omega (arith, lt, count)) (cases_eq u t)

  -- an outer ghost cell gets its value
  all_outer : Patch → All (HasOuter value mark fs) (get_or parts.outer.items t w).items
  all_outer q = All-same (HasOuter value mark fs) (get_or parts.outer.items t w).items given.spans.items (sym spans) (filled.outer value mark valued own_copied (all_messages q))

  from_outer : (k : ℕ) (q : Patch) (c : Cell) (s : GhostSpan) → HasCell (t * width + k) c s → Any (λ (x : GhostSpan). level_span (t * width) x ≡ s) (get_or parts.outer.items t w).items → HasGhost value mark (get_or fs k q) c
  from_outer k q c s has a =
      let x : GhostSpan = a.1 in
      let is : HasCell (t * width + k) c (level_span (t * width) x) = subst (HasCell (t * width + k) c) (sym a.4) has in
      let same : x.patch ≡ k = let e : t * width + x.patch ≡ t * width + k = is.of_patch in omega (arith, e) in
      let set : HasOuter value mark fs x = subst (HasOuter value mark fs) a.3 (all_outer q a.0 x a.2) in
      subst (λ n. HasGhost value mark (get_or fs n q) c) same (subst (λ (e : Cell). HasGhost value mark (get_or fs x.patch q) e) (sym is.is) ((set q).at is.place is.within))

  -- each copy to the run is made: within the run, or by the message from another
  all_made : Patch → (u : ℕ) → u < runs → (u ≡ t) ⊎ (u ≡ t → ⊥) → All (HasCopy value mark fs) (copies u)
  all_made q u from_there (inl same) = subst (λ n. All (HasCopy value mark fs) (copies n)) (sym same) (filled.set value mark valued own_copied (all_messages q))
  all_made q u from_there (inr other) =
      let sender : u < length messages = let count = sent.count in omega (arith, from_there, count) in
      let x : Message = some_message messages u sender in
      All-same (HasCopy value mark fs) (copies u) (get_or messages u x).copies.items (sym (sent.copies u x v from_there other)) (filled.received value mark valued own_copied (all_messages q) u x sender)

  -- so a ghost cell that a copy fills has its own
  from_copy : (k : ℕ) (q : Patch) (c : Cell) (s : GhostSpan) (u : ℕ) → u < runs → HasCell (t * width + k) c s → Any (λ (x : FrameCopy). span_of (t * width) (u * width) x ≡ s) (copies u) → HasGhost value mark (get_or fs k q) c
  from_copy k q c s u from_there has a =
      let x : FrameCopy = a.1 in
      let is : HasCell (t * width + k) c (span_of (t * width) (u * width) x) = subst (HasCell (t * width + k) c) (sym a.4) has in
      let same : x.patch ≡ k = let e : t * width + x.patch ≡ t * width + k = is.of_patch in omega (arith, e) in
      let made : HasCopy value mark fs x = subst (HasCopy value mark fs) a.3 (all_made q u from_there (cases_eq u t) a.0 x a.2) in
      subst (λ n. HasGhost value mark (get_or fs n q) c) same (subst (λ (e : Cell). HasGhost value mark (get_or fs x.patch q) e) (sym is.is) ((made q).at is.place is.within))

  -- the run that a span of a patch of this run is beside is this one
  this_run : (to i k : ℕ) (c : Cell) (s : GhostSpan) → i < width → k < length rs → to * width + i ≡ s.patch → HasCell (t * width + k) c s → to ≡ t
  this_run to i k c s low lt patch has = same_run width to t i k low (let small = run.small in omega (arith, lt, small)) (patch ∙ has.of_patch)

  by_part : (k : ℕ) (q : Patch) (c : Cell) (s : GhostSpan) → k < length rs → HasCell (t * width + k) c s → IsInParts width runs parts s → HasGhost value mark (get_or fs k q) c
  by_part k q c s lt has (inl b) =
      let a = b.is w in
      let x : GhostSpan = a.1 in
      let low : x.patch < width = subst (λ (y : GhostSpan). y.patch < width) a.3 (parted.outer b.to w b.there a.0 x a.2).0 in
      let same : b.to ≡ t = this_run b.to x.patch k c s low lt (ap (λ (y : GhostSpan). y.patch) a.4) has in
      from_outer k q c s has (subst (λ n. Any (λ (y : GhostSpan). level_span (n * width) y ≡ s) (get_or parts.outer.items n w).items) same a)
  by_part k q c s lt has (inr b) =
      let a = b.is v in
      let x : FrameCopy = a.1 in
      let low : x.patch < width = subst (λ (y : FrameCopy). y.patch < width) a.3 (parted.copies b.from b.to v b.from_there b.there a.0 x a.2).0 in
      let same : b.to ≡ t = this_run b.to x.patch k c s low lt (ap (λ (y : GhostSpan). y.patch) a.4) has in
      from_copy k q c s b.from b.from_there has (subst (λ n. Any (λ (y : FrameCopy). span_of (n * width) (b.from * width) y ≡ s) (get_or parts.copies.items (b.from * runs + n) v).items) same a)

  by_span : (k : ℕ) (q : Patch) (c : Cell) → k < length rs → Any (HasCell (t * width + k) c) plan.spans.items → HasGhost value mark (get_or fs k q) c
  by_span k q c lt a = by_part k q c a.1 lt a.4 (subst (IsInParts width runs parts) a.3 (parted.whole a.0 a.1 a.2))

  -- each ghost cell beside a patch of the run has the value and the mark of its cell
  pub run_frames : (k : ℕ) (q : Patch) → k < length rs → HasFrame p l (masses_in ps) old (get_or fs k q)
  run_frames k q lt = record {
    at = λ c h.
        let now : box (get_or fs k q) ≡ box (get_or rs k q) = zip_box rs fs k q q filled.kept lt in
        let here : IsTrue (is_beside (box (get_or rs k q)) c) = subst (λ (b : Extent). IsTrue (is_beside b c)) now h in
        let was : box (get_or rs k q) ≡ box (get_or ps (t * width + k) q) = run_box (domain p l) ps qs plan width runs parts planned.spans parted kept t rs run k q lt in
        let there : t * width + k < length ps = let e = length_all_zip KeepsCells ps qs kept in let f = run.there k lt in omega (arith, e, f) in
        by_span k q c lt ((planned.frames (t * width + k) there).at q c (subst (λ (b : Extent). IsTrue (is_beside b c)) was here));
  }
