use Rattle.std.proofs.Common.{◌≡◌, ℕ, ◌+◌, ◌<◌, pos, ◌+ℤ◌, length, sym, ap, ◌∙◌, arith}
use Rattle.std.specs.Option.{unwrap_or}
use Rattle.std.specs.declared.option.Option.{Option}
use Rattle.std.proofs.lemmas.Int.{ints}
use Rattle.std.proofs.lemmas.List.{get_or-take, length-take}
use Rattle.amr_box.specs.Cells.{cell}
use Rattle.amr_def.specs.State.{mass_of}
use Rattle.amr_patch.specs.Levels.{level_of}
use Rattle.amr_codec.proofs.spans.masses_near.Goals as goal

pub unreachable-requires : goal.unreachable-requires
unreachable-requires c =
    let there = c.requires.cells.at c.cell_in.result c.cell_in.ensures.inside in
    let none = c.in-None.ensures.there in
    absurd (cc)

pub overflow_sub-left : goal.overflow_sub-left
overflow_sub-left c = omega (arith, ints, c.width.ensures.corners, c.requires.column)

pub returns-clause-some : goal.returns-clause-some
returns-clause-some c =
    let wide : c.args.first < c.width.result = omega (arith, ints, c.width.ensures.corners, c.requires.column) in
    omega (arith, length-take {A = ℕ} c.min.result c.in-Some.span.now, c.min.ensures, wide, c.in-Some.ensures.some)

pub returns-clause-inside : goal.returns-clause-inside
returns-clause-inside c =
    let wide : c.args.first < c.width.result = omega (arith, ints, c.width.ensures.corners, c.requires.column) in
    omega (arith, length-take {A = ℕ} c.min.result c.in-Some.span.now, c.min.ensures, wide, c.width.ensures.value)

pub returns-clause-masses : goal.returns-clause-masses
returns-clause-masses c k below =
    let span = c.in-Some.span.now in
    let m = (level_of c.args.level.now).masses in
    let b = c.args.b.now in
    let inside : k < c.min.result = omega (arith, below, length-take {A = ℕ} c.min.result span) in
    let there : k < length span = omega (arith, below, length-take {A = ℕ} c.min.result span) in
    let x : b.lo.x +ℤ pos c.args.first +ℤ pos k ≡ b.lo.x +ℤ pos (c.args.first + k) = omega (arith, ints) in
    get_or-take c.min.result span k 0 inside
    ∙ sym (ap (λ (o : Option ℕ). unwrap_or o 0) (c.in-Some.ensures.masses k there))
    ∙ (λ i. mass_of m (cell ((c.cell_in.ensures.place i).x +ℤ pos k) (c.cell_in.ensures.place i).y))
    ∙ (λ i. mass_of m (cell (x i) (b.lo.y +ℤ pos c.args.row)))
