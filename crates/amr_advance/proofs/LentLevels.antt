-- Lots to which a level is lent so that they find the values of their outer ghost cells, or from which it is taken back.
use Rattle.std.proofs.Common.{◌≡◌, ◌∙◌, ◌⊎◌, inl, inr, ℕ, ◌<◌, ◌≤◌, List, length, get_or, refl, sym, ap, subst, arith}
use Rattle.std.specs.Arc.{arc_value}
use Rattle.std.specs.declared.option.Option.{Option}
use Rattle.std.specs.declared.option.Option.TheVariants.{None, Some}
use Rattle.std.specs.declared.sync.Arc.{Arc}
use Rattle.std.specs.Global.{Box, Global, Vec}
use Rattle.std.specs.List.{All, AllZip}
use Rattle.std.proofs.lemmas.Bool.{cases_lt}
use Rattle.std.proofs.lemmas.List.{get_or_default}
use Rattle.std.proofs.lemmas.List.Elements.{AllZip-get_or, length_all_zip}
use Rattle.amr_def.specs.declared.problem.Problem.{Problem}
use Rattle.amr_def.specs.State.{Masses}
use Rattle.amr_patch.specs.declared.levels.Level.{Level}
use Rattle.amr_ghost.specs.declared.outer.OuterGhosts.{OuterGhosts}
use Rattle.amr_ghost.specs.declared.sources.GhostSpan.{GhostSpan}
use Rattle.amr_ghost.specs.Frames.{old_masses}
use Rattle.amr_ghost.specs.Outer.{HasOuterPlaces, lent, value_count}
use Rattle.amr_lots.specs.declared.lot.Lot.{Lot}
use Rattle.amr_lots.specs.FrameValues.{FollowFrom, HasValuesBy}
use Rattle.amr_lots.proofs.InPlaces.{AreChangedTo}
use Rattle.amr_register.proofs.EdgeLists.{zip_from, zip_weak}
use Rattle.amr_advance.proofs.RunZips.{zip_places}
use Rattle.amr_advance.specs.Outer.{HasFound, IsLent, IsReadied, KeepsAllButLent, KeepsAllButOuter, lot_with_outer}

-- ---- one lot

others_twice : (a b c : Lot) → KeepsAllButOuter a b → KeepsAllButOuter b c → KeepsAllButOuter a c
others_twice a b c h g = g ∙ ap (lot_with_outer c.workspace.outer) h

with_place : (x y : OuterGhosts) → y.spans ≡ x.spans → y.values ≡ x.values → HasOuterPlaces x → HasOuterPlaces y
with_place x y spans values h = (λ i. length (values i).items) ∙ h ∙ (λ i. value_count (sym spans i).items)

-- by a level that is lent
by_level : (p : Problem) (l : ℕ) (x : OuterGhosts) (k : Level) (o : Option (Arc Level Global)) → lent o ≡ Some k → FollowFrom p l (old_masses (Some k)) x o
by_level p l x k None h = let wrong : None ≡ Some k = h in cc
by_level p l x k (Some a) h = ap old_masses h

-- where none is
by_none : (p : Problem) (l : ℕ) (m : Masses) (x : OuterGhosts) (o : Option (Arc Level Global)) → lent o ≡ None → HasValuesBy p l m x → FollowFrom p l m x o
by_none p l m x None h values = values
by_none p l m x (Some a) h values = let wrong : Some (arc_value a) ≡ None = h in cc

lent_is_kept : (k : Option Level) (a b : Box Lot) → IsLent k a b → KeepsAllButLent a b
lent_is_kept k a b h = record { spans = h.spans; values = h.values; others = h.others }

kept_twice : (a b c : Box Lot) → KeepsAllButLent a b → KeepsAllButLent b c → KeepsAllButLent a c
kept_twice a b c h g = record { spans = g.spans ∙ h.spans; values = g.values ∙ h.values; others = others_twice a.value b.value c.value h.others g.others }

kept_itself : (a : Box Lot) → KeepsAllButLent a a
kept_itself a = record { spans = refl; values = refl; others = refl }

readied_lent : (p : Problem) (l : ℕ) (k : Level) (a b : Box Lot) → IsLent (Some k) a b → IsReadied p l (old_masses (Some k)) a b
readied_lent p l k a b h = record {
  spans = h.spans;
  places = with_place a.value.workspace.outer b.value.workspace.outer h.spans h.values;
  values = by_level p l b.value.workspace.outer k b.value.workspace.outer.coarser h.level;
  others = h.others;
}

readied_found : (p : Problem) (l : ℕ) (m : Masses) (a b c d : Box Lot) → KeepsAllButLent a b → IsLent None b c → HasFound p l m c d → IsReadied p l m a d
readied_found p l m a b c d h back found = record {
  spans = found.spans ∙ back.spans ∙ h.spans;
  places = λ _. found.places;
  values = by_none p l m d.value.workspace.outer d.value.workspace.outer.coarser (ap lent found.coarser ∙ back.level) found.values;
  others = others_twice a.value b.value d.value h.others (others_twice b.value c.value d.value back.others found.others);
}

-- ---- all lots

pub zip3 : (R S T : Box Lot → Box Lot → Type 0) (xs ys zs : List (Box Lot)) → AllZip R xs ys → AllZip S ys zs → ((k : ℕ) (x : Box Lot) → k < length xs → R (get_or xs k x) (get_or ys k x) → S (get_or ys k x) (get_or zs k x) → T (get_or xs k x) (get_or zs k x)) → AllZip T xs zs
zip3 R S T xs ys zs h g then =
    let n = length_all_zip R xs ys h in
    let m = length_all_zip S ys zs g in
    zip_places T xs zs (n ∙ m) (λ k d lt. then k d lt (AllZip-get_or R xs ys k d d h lt) (AllZip-get_or S ys zs k d d g (omega (arith, lt, n))))

-- lent to those before a place
pub some_kept : (k : Option Level) (n : ℕ) (xs ys : List (Box Lot)) → AreChangedTo (λ j. IsLent k) n xs ys → AllZip KeepsAllButLent xs ys
some_kept k n xs ys h = zip_from KeepsAllButLent xs ys h.count (λ j d e lt. subst (KeepsAllButLent (get_or xs j d)) (get_or_default ys j d e (omega (arith, lt, h.count))) (each j d (cases_lt j n)))
  where
    each : (j : ℕ) (d : Box Lot) → ((j < n) ⊎ (n ≤ j)) → KeepsAllButLent (get_or xs j d) (get_or ys j d)
    each j d (inr le) = subst (KeepsAllButLent (get_or xs j d)) (sym (h.rest j d le)) (kept_itself (get_or xs j d))
    each j d (inl lt) = lent_is_kept k (get_or xs j d) (get_or ys j d) (h.done j d lt)

pub all_readied : (p : Problem) (l : ℕ) (k : Level) (xs ys : List (Box Lot)) → AllZip (IsLent (Some k)) xs ys → AllZip (IsReadied p l (old_masses (Some k))) xs ys
all_readied p l k xs ys h = zip_weak (IsLent (Some k)) (IsReadied p l (old_masses (Some k))) xs ys (readied_lent p l k) h

-- lent to some, and taken back
pub given_back : (xs ys zs : List (Box Lot)) → AllZip KeepsAllButLent xs ys → AllZip (IsLent None) ys zs → AllZip KeepsAllButLent xs zs
given_back xs ys zs h back = zip3 KeepsAllButLent (IsLent None) KeepsAllButLent xs ys zs h back (λ k x lt a b. kept_twice (get_or xs k x) (get_or ys k x) (get_or zs k x) a (lent_is_kept None (get_or ys k x) (get_or zs k x) b))

-- taken back from, and found then
abbrev Later : Problem → ℕ → Masses → Box Lot → Box Lot → Type 0
Later p l m b d = (c : Box Lot) × IsLent None b c × HasFound p l m c d

-- and then found without them
pub all_found : (p : Problem) (l : ℕ) (m : Masses) (xs ys zs us : List (Box Lot)) → AllZip KeepsAllButLent xs ys → AllZip (IsLent None) ys zs → AllZip (HasFound p l m) zs us → AllZip (IsReadied p l m) xs us
all_found p l m xs ys zs us h back found =
    zip3 KeepsAllButLent (Later p l m) (IsReadied p l m) xs ys us h
    (zip3 (IsLent None) (HasFound p l m) (Later p l m) ys zs us back found (λ k x lt b f. (get_or zs k x, b, f)))
    (λ k x lt a later. readied_found p l m (get_or xs k x) (get_or ys k x) later.0 (get_or us k x) a later.1 later.2)

-- what a lot may find stays
pub still_find : (d : (x : Box Lot) → Type 0) (xs ys : List (Box Lot)) → AllZip KeepsAllButLent xs ys → ((a b : Box Lot) → KeepsAllButLent a b → d a → d b) → All d xs → All d ys
still_find d xs ys h step may = λ k x lt.
    let n = length_all_zip KeepsAllButLent xs ys h in
    let below : k < length xs = omega (arith, lt, n) in
    step (get_or xs k x) (get_or ys k x) (AllZip-get_or KeepsAllButLent xs ys k x x h below) (may k x below)

pub spans_kept : (d : (s : Vec GhostSpan) → Type 0) (a b : Box Lot) → KeepsAllButLent a b → d a.value.workspace.outer.spans → d b.value.workspace.outer.spans
spans_kept d a b h = subst d (sym h.spans)

pub places_kept : (a b : Box Lot) → KeepsAllButLent a b → HasOuterPlaces a.value.workspace.outer → HasOuterPlaces b.value.workspace.outer
places_kept a b h = with_place a.value.workspace.outer b.value.workspace.outer h.spans h.values

pub itself_kept : (xs : List (Box Lot)) → AllZip KeepsAllButLent xs xs
itself_kept xs = zip_places KeepsAllButLent xs xs refl (λ k x lt. kept_itself (get_or xs k x))
