use Rattle.std.proofs.Common.{◌≡◌, ℕ, List, ◌++◌, length, ap, ◌∙◌, arith}
use Rattle.std.specs.List.{flat_map, range_with_len}
use Rattle.std.proofs.lemmas.Int.{ints}
use Rattle.amr_box.specs.Cells.{width}
use Rattle.amr_payload.specs.Payload.{number_bytes}
use Rattle.amr_codec.specs.MassWidths.{width_of}
use Rattle.amr_patch.specs.BoxRows.{mass_in}
use Rattle.amr_codec.proofs.Appending.{range_more, span_bytes}
use Rattle.amr_codec.proofs.rows.put_row.Goals as goal

pub masses_near-masses-requires-clause-column : goal.masses_near-masses-requires-clause-column
masses_near-masses-requires-clause-column c = omega (arith, ints, c.width-columns.ensures.corners, c.loop-first-test.true)

pub put_masses-requires : goal.put_masses-requires
put_masses-requires c =
    let columns = c.width-columns.ensures in
    omega (arith, ints, columns.corners, columns.value, c.requires.near.west, c.requires.near.east, c.masses_near-masses.ensures.inside)

pub loop-first-preserved : goal.loop-first-preserved
loop-first-preserved c =
    let l = c.loop-first in
    let b = c.args.b.now in
    let out = c.args.out.now.items in
    let masses = c.masses_near-masses.result.now in
    let g : ℕ → List ℕ = number_bytes (width_of c.args.mass_width) in
    let h : ℕ → ℕ = mass_in c.args.level.now b c.args.row in
    let bytes = span_bytes g h l.first masses c.masses_near-masses.ensures.masses in
    record {
      put = c.in_ok-put_masses.ensures
          ∙ ap (λ (o : List ℕ). o ++ flat_map g masses) l.invariant.put
          ∙ ap (λ (t : List ℕ). (out ++ flat_map (λ i. g (h i)) (range_with_len 0 l.first)) ++ t) bytes
          ∙ range_more (λ i. g (h i)) out l.first (length masses);
      within = c.masses_near-masses.ensures.inside;
    }

pub returns : goal.returns
returns c =
    let l = c.loop-first in
    let b = c.args.b.now in
    let g : ℕ → List ℕ = λ i. number_bytes (width_of c.args.mass_width) (mass_in c.args.level.now b c.args.row i) in
    let all : l.first ≡ width b = omega (arith, c.loop-first-test.false, l.invariant.within, c.width-columns.ensures.value) in
    l.invariant.put ∙ ap (λ n. c.args.out.now.items ++ flat_map g (range_with_len 0 n)) all
