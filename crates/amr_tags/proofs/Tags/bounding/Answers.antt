use Rattle.std.proofs.Common.{◌≡◌, ◌∙◌, ◌<◌, arith, false, refl, subst, sym, List, ℕ}
use Rattle.amr_box.specs.declared.Cell.{Cell}
use Rattle.amr_tags.specs.Edges.{HasOne, in_part}
use Rattle.amr_tags.specs.TagSets.{IsLeastBox, TagSet, has}
use Rattle.amr_tags.proofs.Halving.{none_in_part, not-none, one_in_part, whole-part}
use Rattle.amr_tags.proofs.Tags.bounding.Goals as goal

pub returns-then-count_part-eq0-clause-none : goal.returns-then-count_part-eq0-clause-none
returns-then-count_part-eq0-clause-none c =
    let b = c.self.inside.bx in
    let zero : c.count_part.result ≡ 0 = omega (arith, c.if-count_part-eq0.true) in
    let none = none_in_part b b c.deref.result.now (whole-part b c.self.invariant.near) (sym c.count_part.ensures ∙ zero) in
    (λ _. subst (λ (t : TagSet). (q : Cell) → has t q ≡ false) c.self.view_is (subst (λ (words : List ℕ). (q : Cell) → in_part b words b q ≡ false) c.deref.ensures.value none), λ _. refl)

pub least-requires-clause-some : goal.least-requires-clause-some
least-requires-clause-some c =
    let b = c.self.inside.bx in
    let more : 0 < c.count_part.result = omega (arith, c.if-count_part-eq0.false) in
    subst (λ (words : List ℕ). HasOne (in_part b words b)) (c.deref.ensures.value ∙ sym c.deref-2.ensures.value) (one_in_part b b c.deref.result.now (subst (λ (n : ℕ). 0 < n) c.count_part.ensures more))

pub returns-clause-least : goal.returns-clause-least
returns-clause-least c =
    let b = c.self.inside.bx in
    subst (λ (t : TagSet). IsLeastBox c.least.result (λ q. has t q)) c.self.view_is (subst (λ (words : List ℕ). IsLeastBox c.least.result (in_part b words b)) c.deref-2.ensures.value c.least.ensures)

pub returns-clause-none : goal.returns-clause-none
returns-clause-none c = (λ never. absurd (cc), λ h. absurd (not-none c.least.result (λ q. has c.args.self.now q) (returns-clause-least c) h))
