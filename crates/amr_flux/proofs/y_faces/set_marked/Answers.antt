use Rattle.std.proofs.Common.{◌≡◌, ℕ, ◌+◌, ◌<◌, ◌≤◌, ◌∙◌, true, false, Bool, pos, ℤ, List, length, refl, ap, sym, subst, arith, rules}
use Rattle.std.specs.Prelude.{slice_index, slice_index_or}
use mir.Val.{SFits}
use mir.Syntax.{w32}
use Rattle.std.proofs.lemmas.Int.{to_z-of_z}
use Rattle.amr_box.proofs.Tests.{opposite}
use Rattle.amr_def.specs.Domain.{columns}
use Rattle.amr_def.proofs.Sizes.{doubled_small}
use Rattle.amr_faces.specs.Shares.{signed}
use Rattle.amr_faces.specs.Numbers.{y_number}
use Rattle.amr_flux.specs.Tables.{count_below, y_marked}
use Rattle.amr_flux.proofs.Borders.{count_less, count_next, count_same}
use Rattle.amr_flux.proofs.Steps.{one_left, one_made, others_kept}
use Rattle.amr_flux.proofs.y_faces.set_marked.Goals as goal
use Rattle.amr_flux.proofs.y_faces.set_marked.Goals.{then-is_top_marked, else-is_top_marked}

pub bounds-border-used : goal.bounds-border-used
bounds-border-used c =
    let is : y_marked c.args.shape.w c.args.shape.h c.args.marks.now c.loop-i.i ≡ true = search rules in
    let test : ℕ → Bool = y_marked c.args.shape.w c.args.shape.h c.args.marks.now in
    count_less test c.loop-i.i c.args.shape.w _ _ is (search rules) c.requires.enough c.loop-i.invariant.count

pub offset_bounds-border-used : goal.offset_bounds-border-used
offset_bounds-border-used c =
    let is : y_marked c.args.shape.w c.args.shape.h c.args.marks.now c.loop-i.i ≡ true = search rules in
    let test : ℕ → Bool = y_marked c.args.shape.w c.args.shape.h c.args.marks.now in
    let below : c.loop-i.used < length c.args.border.now = count_less test c.loop-i.i c.args.shape.w _ _ is (search rules) c.requires.enough c.loop-i.invariant.count in
    search rules

pub overflow_add-used : goal.overflow_add-used
overflow_add-used c =
    let is : y_marked c.args.shape.w c.args.shape.h c.args.marks.now c.loop-i.i ≡ true = search rules in
    let test : ℕ → Bool = y_marked c.args.shape.w c.args.shape.h c.args.marks.now in
    let below : c.loop-i.used < length c.args.border.now = count_less test c.loop-i.i c.args.shape.w _ _ is (search rules) c.requires.enough c.loop-i.invariant.count in
    search rules

pub loop-i-preserved : goal.loop-i-preserved
loop-i-preserved c =
    let marks = c.args.marks.now in
    let border = c.args.border.now in
    let i = c.loop-i.i in
    let test : ℕ → Bool = y_marked c.args.shape.w c.args.shape.h marks in
    let f : ℕ → ℤ = λ i. signed (y_number c.args.p.now c.args.shape.level (c.args.shape.column + i)) (slice_index border (count_below test i)) in
    let P : List ℤ → Type 0 = λ es. (t : ℕ) → t < i + 1 → test t ≡ true → slice_index_or es t (pos 0) ≡ f t in
    let Q : List ℤ → Type 0 = λ es. (t : ℕ) → test t ≡ false → slice_index_or es t (pos 0) ≡ slice_index_or c.args.fluxes.now t (pos 0) in
    elim c.if-is_top_marked.branch [
      | then-is_top_marked b ↦
          let marked : test i ≡ true = search rules in
          let value : b.signed_flux.result ≡ f i =
          let number : b.y_courant.result ≡ y_number c.args.p.now c.args.shape.level (c.args.shape.column + i) = search rules in
          let small : SFits w32 b.y_courant.result = search rules in
          let is = simp to_z-of_z at b.signed_flux.ensures in
          is ∙ (λ t. signed (number t) (slice_index border (c.loop-i.invariant.count t))) in
          let fits : SFits w32 b.signed_flux.result = search rules in
          record {
            count = b.used-is ∙ ap (λ n. n + 1) c.loop-i.invariant.count ∙ sym (count_next test i marked);
            made = subst P (sym b.fluxes-is) (one_made test true c.loop-i.fluxes i f _ (search rules) (rw to_z-of_z value) c.loop-i.invariant.made);
            others = subst Q (sym b.fluxes-is) (others_kept test true c.loop-i.fluxes i f c.args.fluxes.now _ false (opposite marked) c.loop-i.invariant.others);
          }
      | else-is_top_marked b ↦
          let free : test i ≡ false = search rules in
          record {
            count = b.used-is ∙ c.loop-i.invariant.count ∙ sym (count_same test i free);
            made = subst P (sym b.fluxes-is) (one_left test true c.loop-i.fluxes i f (λ is. opposite is free) c.loop-i.invariant.made);
            others = subst Q (sym b.fluxes-is) c.loop-i.invariant.others;
          }
    ]

pub loop-i-init : goal.loop-i-init
loop-i-init c = record { count = refl; made = λ i h. absurd (omega arith); others = λ i free. refl }

pub is_top_marked-requires : goal.is_top_marked-requires
is_top_marked-requires c = record { few = c.requires.few; column = c.loop-i-test.true }

pub overflow_cast-i : goal.overflow_cast-i
overflow_cast-i c =
    let few : columns c.args.p.now c.args.shape.level ≤ 4096 = doubled_small c.args.p.now.nx c.args.shape.level c.args.p.now.limits.greatest_nx c.requires.level in
    record { fits = omega (arith, few, c.requires.inside, c.loop-i-test.true) }

pub overflow_add-shape : goal.overflow_add-shape
overflow_add-shape c =
    let few : columns c.args.p.now c.args.shape.level ≤ 4096 = doubled_small c.args.p.now.nx c.args.shape.level c.args.p.now.limits.greatest_nx c.requires.level in
    record { fits = omega (arith, few, c.requires.inside, c.loop-i-test.true) }

pub y_courant-requires : goal.y_courant-requires
y_courant-requires c = record { level = c.requires.level; inside = omega (arith, c.requires.inside, c.loop-i-test.true) }

pub signed_flux-requires : goal.signed_flux-requires
signed_flux-requires c =
    let test : ℕ → Bool = y_marked c.args.shape.w c.args.shape.h c.args.marks.now in
    let is : test c.loop-i.i ≡ true = search rules in
    c.requires.small.at c.loop-i.used (count_less test c.loop-i.i c.args.shape.w _ _ is c.loop-i-test.true c.requires.enough c.loop-i.invariant.count)

pub bounds-fluxes-i : goal.bounds-fluxes-i
bounds-fluxes-i c = omega arith

pub returns-clause-made : goal.returns-clause-made
returns-clause-made c = λ i h marked. c.loop-i.invariant.made i (omega (arith, h, c.loop-i.auto.i-end)) marked

pub returns-clause-others : goal.returns-clause-others
returns-clause-others c = c.loop-i.invariant.others
