use Rattle.std.proofs.Common.{rules, ◌≡◌, ℕ, ◌+◌, ◌*◌, length, sym, ap, subst, ◌∙◌, arith, ℤ, ◌+ℤ◌, ◌-ℤ◌, List, ◌∷◌}
use Rattle.std.specs.declared.option.Option.TheVariants.{Some}
use Rattle.std.specs.Map.Iter.{deref_pair}
use Rattle.std.specs.BTreeMap.{IsOrdered, is_at}
use Rattle.std.proofs.lemmas.Int.{ints}
use Rattle.std.proofs.lemmas.Map.Iter.{btree_map_turn, rest_all}
use Rattle.std.specs.Map.{lookup}
use mir.Val.{to_z, of_z}
use mir.Syntax.{w64}
use Rattle.std.proofs.lemmas.Result.{IfOk-weaker}
use Rattle.amr_box.specs.declared.Cell.{Cell}
use Rattle.amr_box.specs.Cells.{cell_cmp}
use Rattle.amr_def.specs.State.{Masses}
use Rattle.amr_def.specs.Flux.{Fluxes, net, updated}
use Rattle.amr_def.specs.LevelStep.{step, through_children}
use Rattle.amr_def.specs.Ledger.{first_of}
use Rattle.amr_def.proofs.Flows.{net_is}
use Rattle.amr_witness.specs.declared.PlainLevel.{PlainLevel}
use Rattle.amr_witness.specs.Maps.{boxes_in, masses_in, masses_of, old_of}
use Rattle.amr_witness.specs.Ready.{IsFace, AreReadyToStep, IsWithin, flux_bound}
use Rattle.amr_witness.specs.Parts.{new_mass, through_both, west_face, east_face, south_face, north_face, low_child, high_child}
use Rattle.amr_witness.proofs.MapLaws.{cell_cmp_total, none_updated, put_more}
use Rattle.amr_witness.proofs.Sizes.{power_of_four_high}
use Rattle.amr_witness.proofs.Values.{small_values}
use Rattle.amr_witness.proofs.FaceLaws.{west_inside, east_inside, south_inside, north_inside, cell_nearby, face_nearby, low_child_inside, high_child_inside, children_sum}
use Rattle.amr_witness.proofs.Levels.{no_flux, no_levels, no_boxes, no_masses_updated, first_ready, rest_ready, rest_middle_ready, plain_in, refluxed_in, first_is, after_in, boxes_after, cell_inside, mass_small, updated_at, four_least, bound_more}
use Rattle.amr_witness.proofs.advance.+step.Goals as goal

-- ---- flux

pub flux-returns-in_default-clause-value : goal.flux-returns-in_default-clause-value
flux-returns-in_default-clause-value t c = no_flux c.args.p.now c.args.level c.args.levels.now (old_of c.args.old) c.args.f c.in_default.ensures.cases

pub flux-returns-in_default-clause-bound : goal.flux-returns-in_default-clause-bound
flux-returns-in_default-clause-bound t c = (omega (arith, ints), omega (arith, ints))

pub flux-is_beside_covered-requires-clause-known : goal.flux-is_beside_covered-requires-clause-known
flux-is_beside_covered-requires-clause-known t c = omega (arith, c.requires.known, c.in-Some.ensures.cases.1)

pub flux-is_beside_covered-requires-clause-inside : goal.flux-is_beside_covered-requires-clause-inside
flux-is_beside_covered-requires-clause-inside t c = c.requires.inside

pub flux-through_both-requires : goal.flux-through_both-requires
flux-through_both-requires t c =
    let parts = c.in-Some.ensures.cases in
    let ks = c.args.levels.now in
    let here = c.in-Some.here.now in
    let rest = c.in-Some.finer.now in (
      omega (arith, c.decreases, parts.1),
      (
        omega (arith, c.requires.known, parts.1),
        (
          rest_ready c.args.p.now c.args.level ks here rest (old_of c.args.old) parts.0 c.requires.ready,
          (rest_middle_ready c.args.p.now c.args.level ks here rest (old_of c.args.old) parts.0 c.requires.ready, c.requires.inside),
        ),
      ),
    )

pub flux-flux_at-requires-clause-known : goal.flux-flux_at-requires-clause-known
flux-flux_at-requires-clause-known t c = omega (arith, c.requires.known, c.in-Some.ensures.cases.1)

pub flux-flux_at-requires-clause-inside : goal.flux-flux_at-requires-clause-inside
flux-flux_at-requires-clause-inside t c = c.requires.inside

pub flux-flux_at-requires-clause-small : goal.flux-flux_at-requires-clause-small
flux-flux_at-requires-clause-small t c =
    let old = old_of c.args.old in
    small_values c.args.p.now c.args.level _ old (masses_in c.in-Some.finer.now) (first_ready c.args.p.now c.args.level c.args.levels.now c.in-Some.here.now c.in-Some.finer.now old c.in-Some.ensures.cases.0 c.requires.ready)

pub flux-returns-then-is_beside_covered-clause-value : goal.flux-returns-then-is_beside_covered-clause-value
flux-returns-then-is_beside_covered-clause-value t c =
    let is = refluxed_in c.args.p.now c.args.level c.args.levels.now c.in-Some.here.now c.in-Some.finer.now (old_of c.args.old) c.in-Some.ensures.cases.0 c.args.f (sym c.is_beside_covered.ensures ∙ c.if-is_beside_covered.true) in
    IfOk-weaker c.through_both.result _ _ (λ z e. e ∙ is) c.through_both.ensures.value

pub flux-returns-then-is_beside_covered-clause-bound : goal.flux-returns-then-is_beside_covered-clause-bound
flux-returns-then-is_beside_covered-clause-bound t c =
    IfOk-weaker c.through_both.result _ _ (λ z w. subst (λ n. IsWithin (flux_bound n) z) c.in-Some.ensures.cases.1 w) c.through_both.ensures.bound

pub flux-returns-else-is_beside_covered-clause-value : goal.flux-returns-else-is_beside_covered-clause-value
flux-returns-else-is_beside_covered-clause-value t c =
    let plain = plain_in c.args.p.now c.args.level c.args.levels.now c.in-Some.here.now c.in-Some.finer.now (old_of c.args.old) c.in-Some.ensures.cases.0 c.args.f (sym c.is_beside_covered.ensures ∙ c.if-is_beside_covered.false) in
    let is : c.flux_at.result ≡ (step c.args.p.now c.args.level (masses_in c.args.levels.now) (old_of c.args.old)).fluxes c.args.f = c.flux_at.ensures.value ∙ plain in
    omega (arith, ints, is, c.flux_at.ensures.bound.0, c.flux_at.ensures.bound.1)

pub flux-returns-else-is_beside_covered-clause-bound : goal.flux-returns-else-is_beside_covered-clause-bound
flux-returns-else-is_beside_covered-clause-bound t c =
    let four = four_least (length c.args.levels.now) (omega (arith, c.in-Some.ensures.cases.1)) (omega (arith, c.requires.known)) in
    (omega (arith, ints, four, c.flux_at.ensures.bound.0, c.flux_at.ensures.bound.1), omega (arith, ints, four, c.flux_at.ensures.bound.0, c.flux_at.ensures.bound.1))

-- ---- net

pub net-flux-requires : goal.net-flux-requires
net-flux-requires t c =
    (omega (arith, c.decreases), (c.requires.few, (c.requires.ready, subst (IsFace c.args.p.now c.args.level) (sym c.west_face.ensures) (west_inside c.args.p.now c.args.level c.args.c c.requires.inside))))

pub net-east_face-requires : goal.net-east_face-requires
net-east_face-requires t c = cell_nearby c.args.p.now c.args.level c.args.c c.requires.inside c.requires.known

pub net-flux-requires-2 : goal.net-flux-requires-2
net-flux-requires-2 t c =
    (omega (arith, c.decreases), (c.requires.few, (c.requires.ready, subst (IsFace c.args.p.now c.args.level) (sym c.east_face.ensures) (east_inside c.args.p.now c.args.level c.args.c c.requires.inside))))

pub net-flux-requires-3 : goal.net-flux-requires-3
net-flux-requires-3 t c =
    (omega (arith, c.decreases), (c.requires.few, (c.requires.ready, subst (IsFace c.args.p.now c.args.level) (sym c.south_face.ensures) (south_inside c.args.p.now c.args.level c.args.c c.requires.inside))))

pub net-north_face-requires : goal.net-north_face-requires
net-north_face-requires t c = cell_nearby c.args.p.now c.args.level c.args.c c.requires.inside c.requires.known

pub net-flux-requires-4 : goal.net-flux-requires-4
net-flux-requires-4 t c =
    (omega (arith, c.decreases), (c.requires.few, (c.requires.ready, subst (IsFace c.args.p.now c.args.level) (sym c.north_face.ensures) (north_inside c.args.p.now c.args.level c.args.c c.requires.inside))))

pub net-overflow_sub-result : goal.net-overflow_sub-result
net-overflow_sub-result t c =
    let most = power_of_four_high (length c.args.levels.now) (omega (arith, c.requires.few)) in
    omega (arith, ints, most, c.in_ok-west.ensures.bound.0, c.in_ok-west.ensures.bound.1, c.in_ok-east.ensures.bound.0, c.in_ok-east.ensures.bound.1)

pub net-overflow_sub-result-2 : goal.net-overflow_sub-result-2
net-overflow_sub-result-2 t c =
    let most = power_of_four_high (length c.args.levels.now) (omega (arith, c.requires.few)) in
    omega (arith, ints, most, c.in_ok-south.ensures.bound.0, c.in_ok-south.ensures.bound.1, c.in_ok-north.ensures.bound.0, c.in_ok-north.ensures.bound.1)

pub net-overflow_add-result : goal.net-overflow_add-result
net-overflow_add-result t c =
    let most = power_of_four_high (length c.args.levels.now) (omega (arith, c.requires.few)) in
    omega (arith, ints, most, c.in_ok-west.ensures.bound.0, c.in_ok-west.ensures.bound.1, c.in_ok-east.ensures.bound.0, c.in_ok-east.ensures.bound.1, c.in_ok-south.ensures.bound.0, c.in_ok-south.ensures.bound.1, c.in_ok-north.ensures.bound.0, c.in_ok-north.ensures.bound.1)

pub net-returns-clause-value : goal.net-returns-clause-value
net-returns-clause-value t c =
    let most = power_of_four_high (length c.args.levels.now) (omega (arith, c.requires.few)) in
    let e : Fluxes = (step c.args.p.now c.args.level (masses_in c.args.levels.now) (old_of c.args.old)).fluxes in
    let west : c.in_ok-west.west ≡ e (west_face c.args.c) = c.in_ok-west.ensures.value ∙ ap e c.west_face.ensures in
    let east : c.in_ok-east.east ≡ e (east_face c.args.c) = c.in_ok-east.ensures.value ∙ ap e c.east_face.ensures in
    let south : c.in_ok-south.south ≡ e (south_face c.args.c) = c.in_ok-south.ensures.value ∙ ap e c.south_face.ensures in
    let north : c.in_ok-north.north ≡ e (north_face c.args.c) = c.in_ok-north.ensures.value ∙ ap e c.north_face.ensures in
    let sum : net e c.args.c ≡ (c.in_ok-west.west -ℤ c.in_ok-east.east) +ℤ (c.in_ok-south.south -ℤ c.in_ok-north.north) = net_is e c.args.c _ _ _ _ (sym west) (sym east) (sym south) (sym north) in
    omega (arith, ints, sum, most, c.in_ok-west.ensures.bound.0, c.in_ok-west.ensures.bound.1, c.in_ok-east.ensures.bound.0, c.in_ok-east.ensures.bound.1, c.in_ok-south.ensures.bound.0, c.in_ok-south.ensures.bound.1, c.in_ok-north.ensures.bound.0, c.in_ok-north.ensures.bound.1)

pub net-returns-clause-within : goal.net-returns-clause-within
net-returns-clause-within t c =
    let most = power_of_four_high (length c.args.levels.now) (omega (arith, c.requires.few)) in (
      omega (arith, ints, most, c.in_ok-west.ensures.bound.0, c.in_ok-west.ensures.bound.1, c.in_ok-east.ensures.bound.0, c.in_ok-east.ensures.bound.1, c.in_ok-south.ensures.bound.0, c.in_ok-south.ensures.bound.1, c.in_ok-north.ensures.bound.0, c.in_ok-north.ensures.bound.1),
      omega (arith, ints, most, c.in_ok-west.ensures.bound.0, c.in_ok-west.ensures.bound.1, c.in_ok-east.ensures.bound.0, c.in_ok-east.ensures.bound.1, c.in_ok-south.ensures.bound.0, c.in_ok-south.ensures.bound.1, c.in_ok-north.ensures.bound.0, c.in_ok-north.ensures.bound.1),
    )

-- ---- new_masses

pub new_masses-returns-in_default : goal.new_masses-returns-in_default
new_masses-returns-in_default t c = no_masses_updated c.new-next.result c.args.levels.now _ c.new-next.ensures.empty c.in_default.ensures.cases

pub new_masses-loop-c-init : goal.new_masses-loop-c-init
new_masses-loop-c-init t c =
    let m = c.in-Some.here.now.masses in
    let ks = c.args.levels.now in
    let old = old_of c.args.old in
    let e : Fluxes = (step c.args.p.now c.args.level (masses_in ks) old).fluxes in
    let start : c.into_iter-c-iterator.result ≡ m.entries = search rules in
    λ q none.
    none_updated c.new-next.result m _ e c.new-next.ensures.empty start q none
    ∙ ap (λ (x : Masses). updated x e q) (sym (first_is c.args.p.now c.args.level ks c.in-Some.here.now c.in-Some.field-0-1.now old c.in-Some.ensures.cases.0))

pub new_masses-net-requires : goal.new_masses-net-requires
new_masses-net-requires t c =
    let m = c.in-Some.here.now.masses in
    let parts = c.in-Some.ensures.cases in
    let ks = c.args.levels.now in
    let old = old_of c.args.old in
    let start : c.into_iter-c-iterator.result ≡ m.entries = search rules in
    let ordered : IsOrdered cell_cmp m = search rules in
    let there : masses_of m c.in-Some-2.c.now ≡ Some c.in-Some-2.mass.now =
    (btree_map_turn deref_pair c.loop-c.yielded c.into_iter-c-iterator.result c.loop-c.c-iterator c.next.new.self c.next.result (c.in-Some-2.c, c.in-Some-2.mass) c.loop-c.yielded_by c.in-Some-2.is c.next.ensures.steps cell_cmp_total m start ordered).1 in
    let ready = first_ready c.args.p.now c.args.level ks c.in-Some.here.now c.in-Some.field-0-1.now old parts.0 c.requires.ready in (
      omega (arith, c.decreases),
      (omega (arith, c.requires.known, parts.1), (c.requires.known, (c.requires.ready, cell_inside c.args.p.now c.args.level (masses_of m) (masses_in c.in-Some.field-0-1.now) old c.in-Some-2.c.now c.in-Some-2.mass.now ready there))),
    )

pub new_masses-new_mass-requires-clause-small : goal.new_masses-new_mass-requires-clause-small
new_masses-new_mass-requires-clause-small t c =
    let m = c.in-Some.here.now.masses in
    let parts = c.in-Some.ensures.cases in
    let ks = c.args.levels.now in
    let old = old_of c.args.old in
    let start : c.into_iter-c-iterator.result ≡ m.entries = search rules in
    let ordered : IsOrdered cell_cmp m = search rules in
    let there : masses_of m c.in-Some-2.c.now ≡ Some c.in-Some-2.mass.now =
    (btree_map_turn deref_pair c.loop-c.yielded c.into_iter-c-iterator.result c.loop-c.c-iterator c.next.new.self c.next.result (c.in-Some-2.c, c.in-Some-2.mass) c.loop-c.yielded_by c.in-Some-2.is c.next.ensures.steps cell_cmp_total m start ordered).1 in
    let ready = first_ready c.args.p.now c.args.level ks c.in-Some.here.now c.in-Some.field-0-1.now old parts.0 c.requires.ready in
    mass_small c.args.p.now c.args.level (masses_of m) (masses_in c.in-Some.field-0-1.now) old c.in-Some-2.c.now c.in-Some-2.mass.now ready there

pub new_masses-new_mass-requires-clause-within : goal.new_masses-new_mass-requires-clause-within
new_masses-new_mass-requires-clause-within t c =
    let w = c.in_ok-change.ensures.within in
    (omega (arith, ints, w.0, w.1), omega (arith, ints, w.0, w.1))

pub new_masses-loop-c-preserved : goal.new_masses-loop-c-preserved
new_masses-loop-c-preserved t c =
    let m = c.in-Some.here.now.masses in
    let parts = c.in-Some.ensures.cases in
    let ks = c.args.levels.now in
    let old = old_of c.args.old in
    let start : c.into_iter-c-iterator.result ≡ m.entries = search rules in
    let ordered : IsOrdered cell_cmp m = search rules in
    let there : masses_of m c.in-Some-2.c.now ≡ Some c.in-Some-2.mass.now =
    (btree_map_turn deref_pair c.loop-c.yielded c.into_iter-c-iterator.result c.loop-c.c-iterator c.next.new.self c.next.result (c.in-Some-2.c, c.in-Some-2.mass) c.loop-c.yielded_by c.in-Some-2.is c.next.ensures.steps cell_cmp_total m start ordered).1 in
    let ready = first_ready c.args.p.now c.args.level ks c.in-Some.here.now c.in-Some.field-0-1.now old parts.0 c.requires.ready in
    let e : Fluxes = (step c.args.p.now c.args.level (masses_in ks) old).fluxes in
    let w = c.in_ok-change.ensures.within in
    let same : to_z w64 (of_z w64 c.in_ok-change.change) ≡ c.in_ok-change.change = omega (arith, ints, w.0, w.1) in
    let value : c.new_mass.result ≡ new_mass c.in-Some-2.mass.now c.in_ok-change.change = c.new_mass.ensures ∙ ap (λ (z : ℤ). new_mass c.in-Some-2.mass.now z) same in
    let new : updated (first_of (masses_in ks)) e c.in-Some-2.c.now ≡ Some c.new_mass.result =
    ap (λ (x : Masses). updated x e c.in-Some-2.c.now) (first_is c.args.p.now c.args.level ks c.in-Some.here.now c.in-Some.field-0-1.now old parts.0)
    ∙ updated_at (masses_of m) e c.in-Some-2.c.now c.in-Some-2.mass.now c.in_ok-change.change there c.in_ok-change.ensures.value ∙ ap (λ (v : ℕ). Some v) (sym value) in
    put_more c.loop-c.next c.insert.new.self (updated (first_of (masses_in ks)) e) c.loop-c.c-iterator c.next.new.self c.in-Some-2.c.now c.in-Some-2.mass.now c.new_mass.result c.in-Some-2.ensures.steps c.loop-c.invariant c.in_ok-insert.ensures.updates.0 new

pub new_masses-returns : goal.new_masses-returns
new_masses-returns t c =
    let done = rest_all deref_pair c.loop-c.c-iterator c.next.new.self c.next.result c.in-None.is c.next.ensures.steps in
    record { at = λ q. c.loop-c.invariant q (ap (λ (es : List (Cell × ℕ)). lookup (is_at (cell_cmp q)) es) done) }

-- ---- step_levels

pub step_levels-returns-in_default-clause-masses : goal.step_levels-returns-in_default-clause-masses
step_levels-returns-in_default-clause-masses t c = no_levels c.args.p.now c.args.level c.args.levels.now c.new.result.items (old_of c.args.old) c.in_default.ensures.cases c.new.ensures.items

pub step_levels-returns-in_default-clause-boxes : goal.step_levels-returns-in_default-clause-boxes
step_levels-returns-in_default-clause-boxes t c = no_boxes c.args.levels.now c.new.result.items c.in_default.ensures.cases c.new.ensures.items

pub step_levels-returns-in_default-clause-count : goal.step_levels-returns-in_default-clause-count
step_levels-returns-in_default-clause-count t c = ap length c.new.ensures.items ∙ sym c.in_default.ensures.cases

pub step_levels-new_masses-requires : goal.step_levels-new_masses-requires
step_levels-new_masses-requires t c = (omega (arith, c.decreases), (c.requires.known, c.requires.ready))

pub step_levels-step_levels-requires : goal.step_levels-step_levels-requires
step_levels-step_levels-requires t c =
    let parts = c.in-Some.ensures.cases in
    (omega (arith, c.decreases, parts.1), (omega (arith, c.requires.known, parts.1), rest_ready c.args.p.now c.args.level c.args.levels.now c.in-Some.here.now c.in-Some.finer.now (old_of c.args.old) parts.0 c.requires.ready))

pub step_levels-step_levels-requires-2 : goal.step_levels-step_levels-requires-2
step_levels-step_levels-requires-2 t c =
    let parts = c.in-Some.ensures.cases in
    let lens : length c.as_slice-2.result.now ≡ length c.in-Some.finer.now = ap length c.as_slice-2.ensures.value ∙ c.in_ok-first.ensures.count in
    let masses = ap masses_in c.as_slice-2.ensures.value ∙ c.in_ok-first.ensures.masses in
    let middle = rest_middle_ready c.args.p.now c.args.level c.args.levels.now c.in-Some.here.now c.in-Some.finer.now (old_of c.args.old) parts.0 c.requires.ready in (
      omega (arith, c.decreases, parts.1, lens),
      (omega (arith, c.requires.known, parts.1, lens), subst (λ (ms : List Masses). AreReadyToStep c.args.p.now (c.args.level + 1) ms (masses_of c.in-Some.here.now.masses)) (sym masses) middle),
    )

pub step_levels-returns-clause-masses : goal.step_levels-returns-clause-masses
step_levels-returns-clause-masses t c =
    let new : PlainLevel = record { boxes = c.in_ok-boxes.boxes; masses = c.in_ok-masses.masses } in
    let two = c.in_ok-all.ensures.masses ∙ ap (λ (ks : List PlainLevel). (step c.args.p.now (c.args.level + 1) (masses_in ks) (masses_of c.in-Some.here.now.masses)).levels) c.as_slice-2.ensures.value in
    ap masses_in c.in_ok-insert.ensures.items
    ∙ after_in c.args.p.now c.args.level c.args.levels.now c.in-Some.here.now c.in-Some.finer.now (old_of c.args.old) c.in-Some.ensures.cases.0 c.in_ok-first.first.items c.in_ok-all.all.items new c.in_ok-masses.ensures c.in_ok-first.ensures.masses two

pub step_levels-returns-clause-boxes : goal.step_levels-returns-clause-boxes
step_levels-returns-clause-boxes t c =
    let new : PlainLevel = record { boxes = c.in_ok-boxes.boxes; masses = c.in_ok-masses.masses } in
    let two = c.in_ok-all.ensures.boxes ∙ ap boxes_in c.as_slice-2.ensures.value in
    ap boxes_in c.in_ok-insert.ensures.items
    ∙ boxes_after c.args.levels.now c.in-Some.here.now c.in-Some.finer.now c.in_ok-first.first.items c.in_ok-all.all.items new c.in-Some.ensures.cases.0 (c.in_ok-boxes.ensures.items ∙ c.as_slice.ensures.value) c.in_ok-first.ensures.boxes two

pub step_levels-returns-clause-count : goal.step_levels-returns-clause-count
step_levels-returns-clause-count t c =
    let new : PlainLevel = record { boxes = c.in_ok-boxes.boxes; masses = c.in_ok-masses.masses } in
    let more : length c.insert.new.self.items ≡ length (new ∷ c.in_ok-all.all.items) = ap length c.in_ok-insert.ensures.items in
    let lens : length c.as_slice-2.result.now ≡ length c.in-Some.finer.now = ap length c.as_slice-2.ensures.value ∙ c.in_ok-first.ensures.count in
    omega (arith, more, lens, c.in_ok-all.ensures.count, c.in-Some.ensures.cases.1)

-- ---- through_both

pub through_both-step_levels-requires : goal.through_both-step_levels-requires
through_both-step_levels-requires t c = (omega (arith, c.decreases), (c.requires.known, c.requires.ready))

pub through_both-through_children-requires : goal.through_both-through_children-requires
through_both-through_children-requires t c = (omega (arith, c.decreases), (c.requires.known, (c.requires.ready, c.requires.inside)))

pub through_both-through_children-requires-2 : goal.through_both-through_children-requires-2
through_both-through_children-requires-2 t c =
    let lens : length c.as_slice.result.now ≡ length c.args.finer.now = ap length c.as_slice.ensures.value ∙ c.in_ok-middle.ensures.count in
    let masses = ap masses_in c.as_slice.ensures.value ∙ c.in_ok-middle.ensures.masses in (
      omega (arith, c.decreases, lens),
      (omega (arith, c.requires.known, lens), (subst (λ (ms : List Masses). AreReadyToStep c.args.p.now (c.args.level + 1) ms (masses_of c.args.m.now)) (sym masses) c.requires.middle, c.requires.inside)),
    )

pub through_both-overflow_add-result : goal.through_both-overflow_add-result
through_both-overflow_add-result t c =
    let lens : length c.as_slice.result.now ≡ length c.args.finer.now = ap length c.as_slice.ensures.value ∙ c.in_ok-middle.ensures.count in
    let most = power_of_four_high (length c.args.finer.now) (omega (arith, c.requires.known)) in
    let one = c.in_ok-first.ensures.bound in
    let two = subst (λ (n : ℕ). IsWithin (2 * flux_bound n) c.in_ok-second.second) lens c.in_ok-second.ensures.bound in
    omega (arith, ints, most, one.0, one.1, two.0, two.1)

pub through_both-returns-clause-value : goal.through_both-returns-clause-value
through_both-returns-clause-value t c =
    let lens : length c.as_slice.result.now ≡ length c.args.finer.now = ap length c.as_slice.ensures.value ∙ c.in_ok-middle.ensures.count in
    let most = power_of_four_high (length c.args.finer.now) (omega (arith, c.requires.known)) in
    let one = c.in_ok-first.ensures.bound in
    let two = subst (λ (n : ℕ). IsWithin (2 * flux_bound n) c.in_ok-second.second) lens c.in_ok-second.ensures.bound in
    let masses = ap masses_in c.as_slice.ensures.value ∙ c.in_ok-middle.ensures.masses in
    let f = c.args.f in
    let second = c.in_ok-second.ensures.value ∙ ap (λ (ms : List Masses). through_children (step c.args.p.now (c.args.level + 1) ms (masses_of c.args.m.now)).fluxes f.axis f.x f.y) masses in
    let sum : c.in_ok-first.first +ℤ c.in_ok-second.second ≡ through_both c.args.p.now (c.args.level + 1) (masses_in c.args.finer.now) (masses_of c.args.m.now) f = λ i. c.in_ok-first.ensures.value i +ℤ second i in
    omega (arith, ints, sum, most, one.0, one.1, two.0, two.1)

pub through_both-returns-clause-bound : goal.through_both-returns-clause-bound
through_both-returns-clause-bound t c =
    let lens : length c.as_slice.result.now ≡ length c.args.finer.now = ap length c.as_slice.ensures.value ∙ c.in_ok-middle.ensures.count in
    let most = power_of_four_high (length c.args.finer.now) (omega (arith, c.requires.known)) in
    let one = c.in_ok-first.ensures.bound in
    let two = subst (λ (n : ℕ). IsWithin (2 * flux_bound n) c.in_ok-second.second) lens c.in_ok-second.ensures.bound in
    let more = bound_more (length c.args.finer.now) in
    (omega (arith, ints, more, most, one.0, one.1, two.0, two.1), omega (arith, ints, more, most, one.0, one.1, two.0, two.1))

-- ---- through_children

pub through_children-low_child-requires : goal.through_children-low_child-requires
through_children-low_child-requires t c = face_nearby c.args.p.now c.args.level c.args.f (omega (arith, c.requires.known)) c.requires.inside

pub through_children-high_child-requires : goal.through_children-high_child-requires
through_children-high_child-requires t c = face_nearby c.args.p.now c.args.level c.args.f (omega (arith, c.requires.known)) c.requires.inside

pub through_children-flux-requires : goal.through_children-flux-requires
through_children-flux-requires t c =
    (omega (arith, c.decreases), (c.requires.known, (c.requires.ready, subst (IsFace c.args.p.now (c.args.level + 1)) (sym c.low_child.ensures) (low_child_inside c.args.p.now c.args.level c.args.f c.requires.inside))))

pub through_children-flux-requires-2 : goal.through_children-flux-requires-2
through_children-flux-requires-2 t c =
    (omega (arith, c.decreases), (c.requires.known, (c.requires.ready, subst (IsFace c.args.p.now (c.args.level + 1)) (sym c.high_child.ensures) (high_child_inside c.args.p.now c.args.level c.args.f c.requires.inside))))

pub through_children-overflow_add-result : goal.through_children-overflow_add-result
through_children-overflow_add-result t c =
    let most = power_of_four_high (length c.args.finer.now) (omega (arith, c.requires.known)) in
    omega (arith, ints, most, c.in_ok-low.ensures.bound.0, c.in_ok-low.ensures.bound.1, c.in_ok-high.ensures.bound.0, c.in_ok-high.ensures.bound.1)

pub through_children-returns-clause-value : goal.through_children-returns-clause-value
through_children-returns-clause-value t c =
    let most = power_of_four_high (length c.args.finer.now) (omega (arith, c.requires.known)) in
    let e : Fluxes = (step c.args.p.now (c.args.level + 1) (masses_in c.args.finer.now) (masses_of c.args.m.now)).fluxes in
    let low : c.in_ok-low.low ≡ e (low_child c.args.f) = c.in_ok-low.ensures.value ∙ ap e c.low_child.ensures in
    let high : c.in_ok-high.high ≡ e (high_child c.args.f) = c.in_ok-high.ensures.value ∙ ap e c.high_child.ensures in
    let sum : c.in_ok-low.low +ℤ c.in_ok-high.high ≡ through_children e c.args.f.axis c.args.f.x c.args.f.y = (λ i. low i +ℤ high i) ∙ children_sum e c.args.f.axis c.args.f.x c.args.f.y in
    omega (arith, ints, sum, most, c.in_ok-low.ensures.bound.0, c.in_ok-low.ensures.bound.1, c.in_ok-high.ensures.bound.0, c.in_ok-high.ensures.bound.1)

pub through_children-returns-clause-bound : goal.through_children-returns-clause-bound
through_children-returns-clause-bound t c =
    let most = power_of_four_high (length c.args.finer.now) (omega (arith, c.requires.known)) in (
      omega (arith, ints, most, c.in_ok-low.ensures.bound.0, c.in_ok-low.ensures.bound.1, c.in_ok-high.ensures.bound.0, c.in_ok-high.ensures.bound.1),
      omega (arith, ints, most, c.in_ok-low.ensures.bound.0, c.in_ok-low.ensures.bound.1, c.in_ok-high.ensures.bound.0, c.in_ok-high.ensures.bound.1),
    )
