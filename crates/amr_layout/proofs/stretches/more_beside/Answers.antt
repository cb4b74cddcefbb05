use Rattle.amr_patch.specs.Patches.{in_patches}
use Rattle.amr_layout.specs.Arounds.{around_of}
use Rattle.std.proofs.Common.{◌≡◌, ◌-◌, true, pos, ◌+ℤ◌, ◌≤ℤ◌, sym, ap, subst, ◌∙◌, arith}
use Rattle.std.proofs.lemmas.Int.{ints}
use Rattle.amr_box.specs.Cells.{holds}
use Rattle.amr_def.specs.Domain.{Domain, domain, home_cell, in_domain}
use Rattle.amr_patch.proofs.Rows.{inside}
use Rattle.amr_layout.specs.Surroundings.{IsNearFace, outside}
use Rattle.amr_layout.proofs.Edges.{edge_near}
use Rattle.amr_layout.proofs.AlongSides.{of_patch, x_beside, x_stretch, x_within, y_beside, y_stretch, y_within}
use Rattle.amr_layout.proofs.stretches.more_beside.Goals as goal

pub outside-requires : goal.outside-requires
outside-requires c = subst IsNearFace (sym c.edge_face-f.ensures) (edge_near c.args.b.now c.args.n c.requires.near c.requires.there)

pub steps_to-requires-clause-below : goal.steps_to-requires-clause-below
steps_to-requires-clause-below c =
    let low : c.edge_face-f.result.y ≤ℤ c.args.b.now.hi.y = x_within c.args.b.now c.requires.near c.args.n c.requires.there c.edge_face-f.result (sym c.edge_face-f.ensures) c.in-X.is in
    omega (arith, ints, low, c.hi.ensures.y)

pub steps_to-requires-in-Y-clause-below : goal.steps_to-requires-in-Y-clause-below
steps_to-requires-in-Y-clause-below c =
    let low : c.edge_face-f.result.x ≤ℤ c.args.b.now.hi.x = y_within c.args.b.now c.requires.near c.args.n c.requires.there c.edge_face-f.result (sym c.edge_face-f.ensures) c.in-Y.is in
    omega (arith, ints, low, c.hi-in-Y.ensures.x)

pub steps_to-requires-clause-other_below : goal.steps_to-requires-clause-other_below
steps_to-requires-clause-other_below c =
    let low : c.home_cell-home.result.y ≤ℤ c.bx-q.result.hi.y = (inside c.bx-q.result c.home_cell-home.result (sym c.holds.ensures ∙ c.if-not-holds.false)).north in
    omega (arith, ints, low, c.hi-in-X.ensures.y)

pub returns-in-X-clause-count : goal.returns-in-X-clause-count
returns-in-X-clause-count c =
    let b = c.args.b.now in
    let f = c.edge_face-f.result in
    let h = c.home_cell-home.result in
    let q = c.bx-q.result in
    let d : Domain = domain c.args.s.problem.now c.args.s.level in
    let home : h ≡ home_cell d (outside b f) = c.home_cell-home.ensures ∙ ap (λ (e : Domain). home_cell e c.outside.result) c.domain-dom.ensures ∙ ap (home_cell d) c.outside.ensures in
    let there : in_domain d h ≡ true = ap (λ (e : Domain). in_domain e h) (sym c.domain-dom.ensures) ∙ sym c.in_domain.ensures ∙ c.if-not-in_domain.false in
    let held : holds q h ≡ true = sym c.holds.ensures ∙ c.if-not-holds.false in
    let within : (f.y +ℤ pos c.steps_to.result) ≤ℤ b.hi.y = omega (arith, ints, c.steps_to.ensures.within, c.hi.ensures.y) in
    let reach : (h.y +ℤ pos c.steps_to.result) ≤ℤ q.hi.y = omega (arith, ints, c.steps_to.ensures.other_within, c.hi-in-X.ensures.y) in
    (x_beside (around_of c.args.s) b q c.requires.near c.requires.inside c.args.n c.steps_to.result f h (sym c.edge_face-f.ensures) home there held
    (λ k e. ap (λ ps. in_patches ps k) c.requires.all ∙ of_patch c.args.s.patches.now k c.args.at c.index-s-at.result q (omega arith) c.index-s-at.is c.bx-q.ensures.value e)
    c.in-X.is within reach).0

pub returns-in-X-clause-beside : goal.returns-in-X-clause-beside
returns-in-X-clause-beside c m after upto =
    let b = c.args.b.now in
    let f = c.edge_face-f.result in
    let h = c.home_cell-home.result in
    let q = c.bx-q.result in
    let d : Domain = domain c.args.s.problem.now c.args.s.level in
    let home : h ≡ home_cell d (outside b f) = c.home_cell-home.ensures ∙ ap (λ (e : Domain). home_cell e c.outside.result) c.domain-dom.ensures ∙ ap (home_cell d) c.outside.ensures in
    let there : in_domain d h ≡ true = ap (λ (e : Domain). in_domain e h) (sym c.domain-dom.ensures) ∙ sym c.in_domain.ensures ∙ c.if-not-in_domain.false in
    let held : holds q h ≡ true = sym c.holds.ensures ∙ c.if-not-holds.false in
    let within : (f.y +ℤ pos (m - c.args.n)) ≤ℤ b.hi.y = omega (arith, ints, c.steps_to.ensures.within, c.hi.ensures.y) in
    let reach : (h.y +ℤ pos (m - c.args.n)) ≤ℤ q.hi.y = omega (arith, ints, c.steps_to.ensures.other_within, c.hi-in-X.ensures.y) in
    x_stretch (around_of c.args.s) b q c.requires.near c.requires.inside c.args.n (m - c.args.n) f h (sym c.edge_face-f.ensures) home there held
    (λ k e. ap (λ ps. in_patches ps k) c.requires.all ∙ of_patch c.args.s.patches.now k c.args.at c.index-s-at.result q (omega arith) c.index-s-at.is c.bx-q.ensures.value e)
    c.in-X.is within reach m (omega arith) (omega arith)

pub returns-in-Y-clause-count : goal.returns-in-Y-clause-count
returns-in-Y-clause-count c =
    let b = c.args.b.now in
    let f = c.edge_face-f.result in
    let h = c.home_cell-home.result in
    let q = c.bx-q.result in
    let d : Domain = domain c.args.s.problem.now c.args.s.level in
    let home : h ≡ home_cell d (outside b f) = c.home_cell-home.ensures ∙ ap (λ (e : Domain). home_cell e c.outside.result) c.domain-dom.ensures ∙ ap (home_cell d) c.outside.ensures in
    let there : in_domain d h ≡ true = ap (λ (e : Domain). in_domain e h) (sym c.domain-dom.ensures) ∙ sym c.in_domain.ensures ∙ c.if-not-in_domain.false in
    let held : holds q h ≡ true = sym c.holds.ensures ∙ c.if-not-holds.false in
    let within : (f.x +ℤ pos c.steps_to-in-Y.result) ≤ℤ b.hi.x = omega (arith, ints, c.steps_to-in-Y.ensures.within, c.hi-in-Y.ensures.x) in
    let reach : (h.x +ℤ pos c.steps_to-in-Y.result) ≤ℤ q.hi.x = omega (arith, ints, c.steps_to-in-Y.ensures.other_within, c.hi-in-Y-2.ensures.x) in
    (y_beside (around_of c.args.s) b q c.requires.near c.requires.inside c.args.n c.steps_to-in-Y.result f h (sym c.edge_face-f.ensures) home there held
    (λ k e. ap (λ ps. in_patches ps k) c.requires.all ∙ of_patch c.args.s.patches.now k c.args.at c.index-s-at.result q (omega arith) c.index-s-at.is c.bx-q.ensures.value e)
    c.in-Y.is within reach).0

pub returns-in-Y-clause-beside : goal.returns-in-Y-clause-beside
returns-in-Y-clause-beside c m after upto =
    let b = c.args.b.now in
    let f = c.edge_face-f.result in
    let h = c.home_cell-home.result in
    let q = c.bx-q.result in
    let d : Domain = domain c.args.s.problem.now c.args.s.level in
    let home : h ≡ home_cell d (outside b f) = c.home_cell-home.ensures ∙ ap (λ (e : Domain). home_cell e c.outside.result) c.domain-dom.ensures ∙ ap (home_cell d) c.outside.ensures in
    let there : in_domain d h ≡ true = ap (λ (e : Domain). in_domain e h) (sym c.domain-dom.ensures) ∙ sym c.in_domain.ensures ∙ c.if-not-in_domain.false in
    let held : holds q h ≡ true = sym c.holds.ensures ∙ c.if-not-holds.false in
    let within : (f.x +ℤ pos (m - c.args.n)) ≤ℤ b.hi.x = omega (arith, ints, c.steps_to-in-Y.ensures.within, c.hi-in-Y.ensures.x) in
    let reach : (h.x +ℤ pos (m - c.args.n)) ≤ℤ q.hi.x = omega (arith, ints, c.steps_to-in-Y.ensures.other_within, c.hi-in-Y-2.ensures.x) in
    y_stretch (around_of c.args.s) b q c.requires.near c.requires.inside c.args.n (m - c.args.n) f h (sym c.edge_face-f.ensures) home there held
    (λ k e. ap (λ ps. in_patches ps k) c.requires.all ∙ of_patch c.args.s.patches.now k c.args.at c.index-s-at.result q (omega arith) c.index-s-at.is c.bx-q.ensures.value e)
    c.in-Y.is within reach m (omega arith) (omega arith)
