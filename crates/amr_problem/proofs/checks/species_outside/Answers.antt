use Rattle.std.proofs.Common.{◌∙◌, sym, ap, ℕ, ℤ, ◌<ℤ◌, ◌≤ℤ◌, pos, get_or, [], option_map, SFits, w64, rules, arith}
use Rattle.std.proofs.lemmas.Int.{ints, to_z-of_z}
use Rattle.amr_problem.specs.declared.fault.ProblemFault.TheVariants.{SpeciesOutside}
use Rattle.amr_problem.proofs.SpeciesLaws.{known_here, none_unknown, unknown_here}
use Rattle.amr_problem.proofs.checks.species_outside.Goals as goal

pub loop-index-preserved : goal.loop-index-preserved
loop-index-preserved c =
    let blocks = c.args.blocks.now in
    let i = c.loop-index.index in
    let own : ℤ = get_or (get_or blocks i []) 5 (pos 0) in
    let fits : SFits w64 own = search rules in
    let known : own <ℤ c.args.species = omega (arith, ints) in
    let so_far = rw (to_z-of_z w64 c.args.species c.ranges.species) at c.loop-index.invariant in
    rw (to_z-of_z w64 c.args.species c.ranges.species) (so_far ∙ known_here c.args.species blocks i [] c.loop-index-test.true known)

pub returns-then-own-species : goal.returns-then-own-species
returns-then-own-species c =
    let blocks = c.args.blocks.now in
    let i = c.loop-index.index in
    let own : ℤ = get_or (get_or blocks i []) 5 (pos 0) in
    let fits : SFits w64 own = search rules in
    let unknown : c.args.species ≤ℤ own = omega (arith, ints) in
    let so_far = rw (to_z-of_z w64 c.args.species c.ranges.species) at c.loop-index.invariant in
    rw (to_z-of_z w64 own fits) (sym (ap (option_map (λ (e : ℕ × ℤ). SpeciesOutside e.0 e.1)) (so_far ∙ unknown_here c.args.species blocks i [] c.loop-index-test.true unknown)))

pub returns : goal.returns
returns c =
    let so_far = rw (to_z-of_z w64 c.args.species c.ranges.species) at c.loop-index.invariant in
    sym (ap (option_map (λ (e : ℕ × ℤ). SpeciesOutside e.0 e.1)) (so_far ∙ none_unknown c.args.species c.args.blocks.now c.loop-index.index (omega arith)))
