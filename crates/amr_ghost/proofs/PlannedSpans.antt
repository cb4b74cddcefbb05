-- Spans of ghost cells: what a look-up tells of one, what its values are, and that spans together have each ghost cell.
use Rattle.std.proofs.Common.{◌≡◌, ℕ, ◌+◌, ◌-◌, ◌<◌, ◌≤◌, Bool, true, false, ℤ, pos, ◌+ℤ◌, ◌<ℤ◌, List, [], ◌∷◌, ◌++◌, length, get_or, refl, sym, ap, subst, ◌∙◌, arith}
use Rattle.std.specs.Prelude.{nat_lt}
use Rattle.std.specs.List.{Any}
use Rattle.std.proofs.lemmas.Bool.Decides.{nat_tests}
use Rattle.std.proofs.lemmas.Int.{ints}
use Rattle.std.proofs.lemmas.List.{get_or_append_left, length-append}
use Rattle.std.proofs.lemmas.List.Quantifiers.{Any-push}
use Rattle.amr_box.specs.declared.Cell.{Cell}
use Rattle.amr_box.specs.declared.Axis.{Axis}
use Rattle.amr_box.specs.Cells.{Extent, IsNear, along}
use Rattle.amr_def.specs.declared.problem.Problem.{Problem}
use Rattle.amr_def.specs.Domain.{Domain, domain, home_cell, in_domain}
use Rattle.amr_patch.specs.declared.patches.Patch.{Patch}
use Rattle.amr_patch.specs.Patches.{box, in_patches}
use Rattle.amr_patch.specs.Orders.{IsHolder}
use Rattle.amr_ghost.specs.Strips.{HasRoom, step}
use Rattle.amr_ghost.specs.GhostCells.{IsGhostStrip, side_axis, side_count, side_from}
use Rattle.amr_ghost.specs.Plans.{HasCell, HaveFrame, HaveStrip, IsSource, IsSpan, KeepSpans, StandForHeld, StandInGap}
use Rattle.amr_ghost.specs.declared.sides.Side.{Side}
use Rattle.amr_ghost.specs.declared.sides.Side.TheVariants.{East, North, South, West}
use Rattle.amr_ghost.specs.declared.sides.Strip.{Strip}
use Rattle.amr_ghost.specs.declared.sources.Source.{Source}
use Rattle.amr_ghost.specs.declared.sources.GhostSpan.{GhostSpan}
use Rattle.amr_ghost.proofs.BoxSides.{beside_of, high_inside, parts_of}
use Rattle.amr_ghost.proofs.Homes.{step_step}
use Rattle.amr_ghost.proofs.Levels.{few_along}
use Rattle.amr_ghost.proofs.Spans.{room_inside, span_held}
use Rattle.amr_box.specs.declared.Axis.TheVariants.{X, Y}

-- ---- what a look-up tells

pub room_in_domain : (p : Problem) (l : ℕ) (h : Cell) → l ≤ 4 → in_domain (domain p l) h ≡ true → HasRoom h
room_in_domain p l h few here =
    let parts = parts_of (domain p l) h here in
    record {
      x = below (domain p l).columns h.x (few_along p l X few) (high_inside (domain p l).columns h.x parts.0);
      y = below (domain p l).rows h.y (few_along p l Y few) (high_inside (domain p l).rows h.y parts.1);
    }
  where
    below : (n : ℕ) (z : ℤ) → n ≤ 4096 → z <ℤ pos n → z <ℤ pos 33554433
    below n z s h = omega (arith, ints)

module _ (d : Domain) (ps : List Patch) (i : ℕ) (s t : Strip) (axis : t.axis ≡ s.axis) (from : t.from ≡ s.from) where
  pub first_span : (source : Source) → 0 < t.count → t.count ≤ s.count → i < length ps → s.count ≤ 8192 → HasRoom s.from → ((q : Patch) → IsGhostStrip d (box (get_or ps i q)) s.axis s.from s.count) → IsSource d ps t source → IsSpan d ps (record { patch = i; strip = t; source = source })
  first_span source some few there small room strip h = record {
    there = there;
    some = some;
    small = omega (arith, few, small);
    room = rw from room;
    ghost_strip = λ q. rw (axis, from) (first_of_strip q);
    source = h;
  }
    where
      first_of_strip : (q : Patch) → IsGhostStrip d (box (get_or ps i q)) s.axis s.from t.count
      first_of_strip q = record {
        ghosts = λ k lt. (strip q).ghosts k (omega (arith, lt, few));
        beside = λ k lt. (strip q).beside k (omega (arith, lt, few));
        inside = λ k lt. (strip q).inside k (omega (arith, lt, few));
      }

  pub held_source : (j n : ℕ) (e : Patch) (b : Extent) (h : Cell) → h ≡ home_cell d s.from → e ≡ get_or ps j e → b ≡ box e → IsNear (box e) → IsHolder ps h j → along s.axis h +ℤ pos n ≡ along s.axis b.hi +ℤ pos 1 → t.count ≤ n → StandForHeld d ps t j h
  held_source j n e b h home is same near holder end most =
      let one : b ≡ box (get_or ps j e) = same ∙ ap box is in
      let ahead : along s.axis h +ℤ pos n ≡ along s.axis (box (get_or ps j e)).hi +ℤ pos 1 = subst (λ (x : Extent). along s.axis h +ℤ pos n ≡ along s.axis x.hi +ℤ pos 1) one end in
      record {
        home = rw from home;
        room = room_inside (box (get_or ps j e)) h (subst (λ (x : Patch). IsNear (box x)) is near) (holder.holds_it e);
        there = holder.inside;
        held = λ q k lt. rw axis (span_held ps j e q s.axis h n k holder ahead (omega (arith, lt, most)));
      }

  pub gap_source : (h : Cell) → h ≡ home_cell d s.from → HasRoom h → in_domain d h ≡ true → ((k : ℕ) → k < t.count → in_patches ps (step s.axis h k) ≡ false) → StandInGap d ps t h
  gap_source h home room here gap = record {
    home = rw from home;
    room = room;
    inside = here;
    gap = λ k lt. rw axis (gap k lt);
  }

-- ---- the values of a span

-- a strip that goes on from a later cell
pub further : (axis : Axis) (c c' : Cell) (done k : ℕ) → c' ≡ step axis c done → step axis c' k ≡ step axis c (done + k)
further axis c c' done k is = ap (λ (s : Cell). step axis s k) is ∙ step_step axis c done k

-- ---- spans one after the other

pub any_more : {A : Type 0} (P : A → Type 0) (xs : List A) (y : A) → Any P xs → Any P (xs ++ y ∷ [])
any_more P xs y a = (a.0, a.1, omega (arith, a.2, length-append xs (y ∷ [])), get_or_append_left xs (y ∷ []) a.1 a.0 a.2 ∙ a.3, a.4)

pub keep_refl : (ss : List GhostSpan) → KeepSpans ss ss
keep_refl ss = record { at = λ i c h. h }

pub keep_trans : (ss ts us : List GhostSpan) → KeepSpans ss ts → KeepSpans ts us → KeepSpans ss us
keep_trans ss ts us first then = record { at = λ i c h. then.at i c (first.at i c h) }

pub keep_push : (ss : List GhostSpan) (s : GhostSpan) → KeepSpans ss (ss ++ s ∷ [])
keep_push ss s = record { at = λ i c h. any_more (HasCell i c) ss s h }

pub still_strip : (ss ts : List GhostSpan) (i : ℕ) (axis : Axis) (c : Cell) (count : ℕ) → KeepSpans ss ts → HaveStrip ss i axis c count → HaveStrip ts i axis c count
still_strip ss ts i axis c count kept h = record { at = λ k lt. kept.at i (step axis c k) (h.at k lt) }

pub no_strip : (ss : List GhostSpan) (i : ℕ) (axis : Axis) (c : Cell) → HaveStrip ss i axis c 0
no_strip ss i axis c = record { at = λ k lt. absurd (omega arith) }

-- a strip is had up to a place, and the next span begins there
pub strip_push : (ss : List GhostSpan) (s : GhostSpan) (i : ℕ) (axis : Axis) (c c' : Cell) (done : ℕ) → s.patch ≡ i → s.strip.axis ≡ axis → s.strip.from ≡ c' → c' ≡ step axis c done → HaveStrip ss i axis c done → HaveStrip (ss ++ s ∷ []) i axis c (done + s.strip.count)
strip_push ss s i axis c c' done patch along_it from is h = record { at = λ k lt. by_place k lt (nat_lt k done) refl }
  where
    later : (k j : ℕ) → k ≡ done + j → j < s.strip.count → HasCell i (step axis c k) s
    later k j e lt = record {
      of_patch = patch;
      place = j;
      within = lt;
      is = ap (step axis c) e ∙ sym (further axis c c' done j is) ∙ ap (λ (t : Cell). step axis t j) (sym from) ∙ ap (λ (a : Axis). step a s.strip.from j) (sym along_it);
    }

    by_place : (k : ℕ) → k < done + s.strip.count → (b : Bool) → nat_lt k done ≡ b → Any (HasCell i (step axis c k)) (ss ++ s ∷ [])
    by_place k lt true e = any_more (HasCell i (step axis c k)) ss s (h.at k (grind arith))
    by_place k lt false e = Any-push (HasCell i (step axis c k)) ss s (later k (k - done) (past e) (omega (arith, lt, past e)))
      where
        past : nat_lt k done ≡ false → k ≡ done + (k - done)
        past e = grind (arith, nat_tests)

-- ---- the sides of a patch, one after the other

abbrev pub HaveSide : List Patch → List GhostSpan → ℕ → Side → Type 0
HaveSide ps ss i side = (q : Patch) → HaveStrip ss i (side_axis side) (side_from (box (get_or ps i q)) side) (side_count (box (get_or ps i q)) side)

-- the strip that a call answers is the side
pub side_strips : (ps : List Patch) (ss : List GhostSpan) (i : ℕ) (side : Side) (axis : Axis) (from : Cell) (count : ℕ) (b : Extent) → ((q : Patch) → box (get_or ps i q) ≡ b) → axis ≡ side_axis side → from ≡ side_from b side → count ≡ side_count b side → HaveStrip ss i axis from count → HaveSide ps ss i side
side_strips ps ss i side axis from count b same a f n h q = rw (same q, ← a, ← f, ← n) h

pub still_have : (ps : List Patch) (ss ts : List GhostSpan) (i : ℕ) (side : Side) → KeepSpans ss ts → HaveSide ps ss i side → HaveSide ps ts i side
still_have ps ss ts i side kept h q = still_strip ss ts i (side_axis side) (side_from (box (get_or ps i q)) side) (side_count (box (get_or ps i q)) side) kept (h q)

pub whole_spans : (ps : List Patch) (ss : List GhostSpan) (i : ℕ) → HaveSide ps ss i West → HaveSide ps ss i East → HaveSide ps ss i South → HaveSide ps ss i North → HaveFrame ps ss i
whole_spans ps ss i west east south north = record { at = λ q c h. beside_of (λ s. Any (HasCell i s) ss) (box (get_or ps i q)) (each q) c h }
  where
    each : (q : Patch) (side : Side) (k : ℕ) → k < side_count (box (get_or ps i q)) side → Any (HasCell i (step (side_axis side) (side_from (box (get_or ps i q)) side) k)) ss
    each q West k t = (west q).at k t
    each q East k t = (east q).at k t
    each q South k t = (south q).at k t
    each q North k t = (north q).at k t

pub still_whole : (ps : List Patch) (ss ts : List GhostSpan) (i : ℕ) → KeepSpans ss ts → HaveFrame ps ss i → HaveFrame ps ts i
still_whole ps ss ts i kept h = record { at = λ q c t. kept.at i c (h.at q c t) }
