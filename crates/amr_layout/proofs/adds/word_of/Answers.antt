use Rattle.amr_patch.specs.Patches.{in_patches}
use Rattle.std.proofs.Common.{◌≡◌, not, ◌&&◌, pos, sym, ap, subst, ◌∙◌, to_z, of_z, w64, arith}
use Rattle.std.specs.Prelude.{Contains, IfSome}
use Rattle.std.proofs.lemmas.Int.{ints}
use Rattle.amr_box.specs.declared.Cell.{Cell}
use Rattle.amr_def.specs.Domain.{home_cell, in_domain}
use Rattle.amr_def.specs.State.{is_covered}
use Rattle.amr_layout.specs.Arounds.{around_of}
use Rattle.amr_layout.specs.Surroundings.{IsReachable, domain_around, inward, is_coarse_fine, is_open, outside}
use Rattle.amr_layout.proofs.Edges.{inside_reachable}
use Rattle.amr_layout.proofs.Going.{beyond_at, coarse_at, coarse_goes, coarse_word, level_keeps, none_flows, open_at, open_goes, open_word}
use Rattle.amr_layout.proofs.adds.word_of.Goals as goal
use Rattle.amr_layout.proofs.adds.word_of.Goals.{After-in_domain, After-is_some}

-- the cell beyond, and whether the domain and the level have it
home : (c : After-in_domain) → c.home_cell-home.result ≡ home_cell (domain_around (around_of c.args.s)) (outside c.args.b.now c.args.f)
home c = c.home_cell-home.ensures ∙ (λ i. home_cell (c.domain-dom.ensures i) (c.outside.ensures i))

there : (c : After-in_domain) → c.in_domain.result ≡ in_domain (domain_around (around_of c.args.s)) c.home_cell-home.result
there c = c.in_domain.ensures ∙ ap (λ d. in_domain d c.home_cell-home.result) c.domain-dom.ensures

opens : (c : After-in_domain) → is_open (around_of c.args.s) c.args.b.now c.args.f ≡ not c.in_domain.result
opens c = open_at (around_of c.args.s) c.args.b.now c.args.f c.home_cell-home.result (home c) c.in_domain.result (there c)

coarse : (c : After-is_some) → is_coarse_fine (around_of c.args.s) c.args.b.now c.args.f ≡ (c.in_domain.result && not c.is_some.result)
coarse c =
    let at = (goal.at.After-is_some c).After-in_domain in
    coarse_at (around_of c.args.s) c.args.b.now c.args.f c.home_cell-home.result (home at) c.in_domain.result c.is_some.result (there at) (c.is_some.ensures ∙ c.look_beside.ensures.some ∙ ap (λ ps. in_patches ps c.home_cell-home.result) (sym c.requires.search.whole))

some_flows : (c : After-in_domain) → inward c.args.s.problem.now c.args.s.level c.args.b.now c.args.f ≡ pos 0 → ⊥
some_flows c z = let e = c.inward-inward.ensures ∙ z in c.if-inward-eq0.false (omega (arith, ints, e))

reads : (c : After-in_domain) → to_z w64 (of_z w64 c.inward-inward.result) ≡ inward c.args.s.problem.now c.args.s.level c.args.b.now c.args.f
reads c = let read : to_z w64 (of_z w64 c.inward-inward.result) ≡ c.inward-inward.result = omega (arith, ints) in read ∙ c.inward-inward.ensures

pub returns-then-inward-eq0-clause-told : goal.returns-then-inward-eq0-clause-told
returns-then-inward-eq0-clause-told c = sym (none_flows (around_of c.args.s) c.args.b.now c.args.f (sym c.inward-inward.ensures ∙ omega (arith, ints, c.if-inward-eq0.true)))

pub ledger_word-requires : goal.ledger_word-requires
ledger_word-requires c = subst IsReachable (sym c.inside.ensures) (inside_reachable c.args.b.now c.args.f c.requires.near)

pub returns-then-not-in_domain-clause-told : goal.returns-then-not-in_domain-clause-told
returns-then-not-in_domain-clause-told c =
    let at = (goal.at.returns-then-not-in_domain-clause-told c).After-in_domain in
    c.ledger_word.ensures.told ∙ ap (λ (q : Cell). not (is_covered (around_of c.args.s).finer q)) c.inside.ensures
    ∙ sym (open_goes (around_of c.args.s) c.args.b.now c.args.f (some_flows at) (opens at ∙ ap not c.if-not-in_domain.true))

pub returns-then-not-in_domain-clause-word : goal.returns-then-not-in_domain-clause-word
returns-then-not-in_domain-clause-word c =
    let at = (goal.at.returns-then-not-in_domain-clause-word c).After-in_domain in
    subst (λ n. IfSome c.ledger_word.result (λ w. w ≡ n)) (sym (open_word (around_of c.args.s) c.args.b.now c.args.f (to_z w64 (of_z w64 c.inward-inward.result)) (reads at) (opens at ∙ ap not c.if-not-in_domain.true)))
    c.ledger_word.ensures.word

pub returns-then-is_some-clause-told : goal.returns-then-is_some-clause-told
returns-then-is_some-clause-told c =
    let at = goal.at.returns-then-is_some-clause-told c in
    sym (level_keeps (around_of c.args.s) c.args.b.now c.args.f (opens at.After-in_domain ∙ ap not c.if-not-in_domain.false) (coarse at.After-is_some ∙ (λ i. c.if-not-in_domain.false i && not (c.if-is_some.true i))))

pub register_word-word-requires-clause-there : goal.register_word-word-requires-clause-there
register_word-word-requires-clause-there c =
    let at = goal.at.register_word-word-requires-clause-there c in
    subst (λ (q : Cell). Contains c.args.s.cells.now q) (sym (beyond_at (around_of c.args.s) c.args.b.now c.args.f c.home_cell-home.result (home at.After-in_domain) c.parent-cell.result c.parent-cell.ensures.value))
    (c.requires.there (coarse at.After-is_some ∙ (λ i. c.if-not-in_domain.false i && not (c.if-is_some.false i))))

pub returns-clause-told : goal.returns-clause-told
returns-clause-told c =
    let at = goal.at.returns-clause-told c in
    sym (coarse_goes (around_of c.args.s) c.args.b.now c.args.f (some_flows at.After-in_domain) (opens at.After-in_domain ∙ ap not c.if-not-in_domain.false) (coarse at.After-is_some ∙ (λ i. c.if-not-in_domain.false i && not (c.if-is_some.false i))))

pub returns-clause-word : goal.returns-clause-word
returns-clause-word c =
    let at = (goal.at.returns-clause-word c).After-in_domain in
    c.register_word-word.ensures ∙ sym (coarse_word (around_of c.args.s) c.args.b.now c.args.f (to_z w64 (of_z w64 c.inward-inward.result)) c.parent-cell.result (reads at)
    (beyond_at (around_of c.args.s) c.args.b.now c.args.f c.home_cell-home.result (home at) c.parent-cell.result c.parent-cell.ensures.value) (opens at ∙ ap not c.if-not-in_domain.false))
