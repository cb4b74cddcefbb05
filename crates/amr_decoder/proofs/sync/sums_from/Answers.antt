use Rattle.std.proofs.Common.{◌≡◌, ◌+◌, ◌<◌, ℕ, refl, subst, arith}
use Rattle.std.proofs.lemmas.Int.{ints}
use Rattle.amr_box.specs.declared.Cell.{Cell}
use Rattle.amr_patch.specs.Levels.{level_of}
use Rattle.amr_patch.proofs.Rows.{sides}
use Rattle.amr_decoder.specs.Synced.{IsSum, IsSumAt}
use Rattle.amr_decoder.proofs.Fours.{four_from, some_weaker, sum_from}
use Rattle.amr_decoder.proofs.sync.sums_from.Goals as goal

pub masses_from-lower-requires-clause-row : goal.masses_from-lower-requires-clause-row
masses_from-lower-requires-clause-row c = let o = c.requires.over in omega (arith, ints, o.south, o.north, c.requires.row)

pub masses_from-upper-requires-clause-row : goal.masses_from-upper-requires-clause-row
masses_from-upper-requires-clause-row c = let o = c.requires.over in omega (arith, ints, o.south, o.north, c.requires.row)

pub overflow_mul-row-2 : goal.overflow_mul-row-2
overflow_mul-row-2 c = let o = c.requires.over.placed in omega (arith, ints, o.south, o.near.north, c.requires.row)

pub overflow_add-row : goal.overflow_add-row
overflow_add-row c = let o = c.requires.over.placed in omega (arith, ints, o.south, o.near.north, c.requires.row)

pub overflow_mul-first-2 : goal.overflow_mul-first-2
overflow_mul-first-2 c = let o = c.requires.over.placed in omega (arith, ints, o.west, o.near.east, c.requires.column)

pub overflow_cast-result : goal.overflow_cast-result
overflow_cast-result c =
    let o = c.requires.over.placed in
    let s = sides c.args.parents.now o.near in
    omega (arith, ints, c.in-Some.ensures.within, c.masses_from-masses.ensures.inside, s.wide, o.west, o.near.east)

pub returns-in-None-clause-none : goal.returns-in-None-clause-none
returns-in-None-clause-none c none all =
    let m = c.masses_from-masses in
    c.in-None.ensures.none refl (λ k lt low high.
    four_from c.args.coarse.now c.args.fine.now c.args.b.now c.args.parents.now c.requires.over c.args.row c.args.first m.result.now c.masses_from-lower.result.now c.masses_from-upper.result.now m.ensures.masses c.masses_from-lower.ensures.masses c.masses_from-upper.ensures.masses k lt low high
    (all (c.args.first + k) (omega (arith, lt, m.ensures.inside))))

pub returns-in-Some-eq0-clause-sums : goal.returns-in-Some-eq0-clause-sums
returns-in-Some-eq0-clause-sums c =
    let coarse = c.args.coarse.now in
    let fine = c.args.fine.now in
    let parents = c.args.parents.now in
    some_weaker c.one_sum.result (λ (n : ℕ). (n ≡ 1) × IsSum (level_of coarse).masses (level_of fine).masses c.cell_in.result) (λ (n : ℕ). (k : ℕ) → k < n → IsSumAt coarse fine parents c.args.row (c.args.first + k))
    (λ n h k lt.
    let none : c.args.first ≡ c.args.first + k = omega (arith, h.0, lt) in
    subst (λ (j : ℕ). IsSumAt coarse fine parents c.args.row j) none (subst (λ (d : Cell). IsSum (level_of coarse).masses (level_of fine).masses d) c.cell_in.ensures.place h.1))
    c.one_sum.ensures.some

pub returns-in-Some-clause-sums : goal.returns-in-Some-clause-sums
returns-in-Some-clause-sums c k lt =
    let m = c.masses_from-masses in
    let e = c.in-Some.ensures in
    sum_from c.args.coarse.now c.args.fine.now c.args.b.now c.args.parents.now c.requires.over c.args.row c.args.first m.result.now c.masses_from-lower.result.now c.masses_from-upper.result.now m.ensures.masses c.masses_from-lower.ensures.masses c.masses_from-upper.ensures.masses k
    (omega (arith, lt, e.within)) (omega (arith, lt, e.lower)) (omega (arith, lt, e.upper)) (e.sums k lt)
