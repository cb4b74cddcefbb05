use Rattle.std.proofs.Common.{◌≡◌, ℕ, ◌+◌, ◌<◌, ◌++◌, ◌∷◌, [], ◌∙◌, Bool, true, false, ◌&&◌, not, cond, length, refl, get_or, sym, ap, arith}
use Rattle.std.specs.Prelude.{is_some}
use Rattle.std.specs.Global.{Vec}
use Rattle.std.proofs.lemmas.List.{get_or_default, length-set}
use Rattle.amr_box.specs.declared.Face.{Face}
use Rattle.amr_box.specs.Cells.{holds}
use Rattle.amr_def.specs.Domain.{domain_of, home_cell}
use Rattle.amr_def.specs.Flux.{high_cell}
use Rattle.amr_patch.specs.declared.patches.Patch.{Patch}
use Rattle.amr_patch.specs.Patches.{box, in_patches}
use Rattle.amr_layout.specs.declared.PutAt.{PutAt}
use Rattle.amr_layout.specs.Places.{are_grouped, holder_of, home_face, leads_on}
use Rattle.amr_layout.proofs.Groups.{holder_at}
use Rattle.amr_layout.proofs.Placing.{got_still, one_more, put_of}
use Rattle.amr_layout.proofs.places.put_border.Goals as goal

-- where no patch has the cell, or another one of the reader's group has it
not_held : (held grouped : Bool) → held ≡ false → held && not grouped ≡ false
not_held held grouped e = ap (λ t. t && not grouped) e

held_near : (held grouped : Bool) → grouped ≡ true → held && not grouped ≡ false
held_near true grouped e = ap not e
held_near false grouped e = refl

held_far : (held grouped : Bool) → held ≡ true → grouped ≡ false → held && not grouped ≡ true
held_far held grouped e g = (λ i. e i && not (g i))

-- what a face that is told adds
counted : (f : Face) (n : ℕ) (t : Bool) → (b : Bool) → t ≡ b → n + length (cond t (f ∷ []) []) ≡ n + length (cond b (f ∷ []) [])
counted f n t b e = ap (λ u. n + length (cond u (f ∷ []) [])) e

pub returns-in_default-clause-told : goal.returns-in_default-clause-told
unfolding leads_on
returns-in_default-clause-told c =
    let d = domain_of c.args.dom.now in
    let ps = c.args.patches.now in
    let h = home_cell d (high_cell c.args.f) in
    let at : c.high_cell.result ≡ h = c.high_cell.ensures ∙ ap high_cell c.home_face-face.ensures in
    let none : in_patches ps h ≡ false = ap (in_patches ps) (sym at) ∙ sym c.look_beside.ensures.some ∙ ap is_some c.in_default.is in
    sym (not_held (in_patches ps h) (are_grouped c.args.reader.each c.args.reader.patch (holder_of ps h)) none)

pub returns-in_default-clause-got : goal.returns-in_default-clause-got
returns-in_default-clause-got c = got_still (domain_of c.args.dom.now) c.args.patches.now c.args.places.now _ c.args.f _ (sym (returns-in_default-clause-told c)) refl refl (record { lists = c.requires.places.lists; gap = c.look_beside.ensures.gap })

pub returns-then-are_grouped-clause-told : goal.returns-then-are_grouped-clause-told
unfolding leads_on
returns-then-are_grouped-clause-told c =
    let d = domain_of c.args.dom.now in
    let ps = c.args.patches.now in
    let h = home_cell d (high_cell c.args.f) in
    let j = c.in-Some.owner in
    let at : c.high_cell.result ≡ h = c.high_cell.ensures ∙ ap high_cell c.home_face-face.ensures in
    let own : (e : Patch) → holds (box (get_or ps j e)) h ≡ true = λ e. ap (holds (box (get_or ps j e))) (sym at) ∙ c.in-Some.ensures.found.holds_it e in
    let near : are_grouped c.args.reader.each c.args.reader.patch (holder_of ps h) ≡ true =
    ap (are_grouped c.args.reader.each c.args.reader.patch) (holder_at ps h j c.requires.look_up.apart c.in-Some.ensures.found.inside own) ∙ sym c.are_grouped.ensures ∙ c.if-are_grouped.true in
    sym (held_near (in_patches ps h) (are_grouped c.args.reader.each c.args.reader.patch (holder_of ps h)) near)

pub returns-then-are_grouped-clause-got : goal.returns-then-are_grouped-clause-got
returns-then-are_grouped-clause-got c = got_still (domain_of c.args.dom.now) c.args.patches.now c.args.places.now _ c.args.f _ (sym (returns-then-are_grouped-clause-told c)) refl refl (record { lists = c.requires.places.lists; gap = c.in-Some.ensures.gap })

pub returns-clause-told : goal.returns-clause-told
unfolding leads_on
returns-clause-told c =
    let d = domain_of c.args.dom.now in
    let ps = c.args.patches.now in
    let j = c.in-Some.owner in
    let h = home_cell d (high_cell c.args.f) in
    let at : c.high_cell.result ≡ h = c.high_cell.ensures ∙ ap high_cell c.home_face-face.ensures in
    let own : (e : Patch) → holds (box (get_or ps j e)) h ≡ true = λ e. ap (holds (box (get_or ps j e))) (sym at) ∙ c.in-Some.ensures.found.holds_it e in
    let on : in_patches ps h ≡ true = ap (in_patches ps) (sym at) ∙ sym c.in-Some.ensures.some in
    let far : are_grouped c.args.reader.each c.args.reader.patch (holder_of ps h) ≡ false =
    ap (are_grouped c.args.reader.each c.args.reader.patch) (holder_at ps h j c.requires.look_up.apart c.in-Some.ensures.found.inside own) ∙ sym c.are_grouped.ensures ∙ c.if-are_grouped.false in
    sym (held_far (in_patches ps h) (are_grouped c.args.reader.each c.args.reader.patch (holder_of ps h)) on far)

pub returns-clause-got : goal.returns-clause-got
returns-clause-got c =
    let d = domain_of c.args.dom.now in
    let ps = c.args.patches.now in
    let lists = c.args.places.now.lists.items in
    let j = c.in-Some.owner in
    let n = c.args.places.now.count in
    let face : c.home_face-face.result ≡ home_face d c.args.f = c.home_face-face.ensures in
    let at : c.high_cell.result ≡ high_cell (home_face d c.args.f) = c.high_cell.ensures ∙ ap high_cell face in
    let own : (e : Patch) → holds (box (get_or ps j e)) (high_cell (home_face d c.args.f)) ≡ true = λ e. ap (holds (box (get_or ps j e))) (sym at) ∙ c.in-Some.ensures.found.holds_it e in
    let there : j < length ps = c.in-Some.ensures.found.inside in
    let new : Vec PutAt = c.push.new.self in
    let had : c.index_mut.result.now ≡ get_or lists j new = c.index_mut.ensures.value ∙ get_or_default lists j c.index_mut.result.now new (omega (arith, c.requires.places.lists, there)) in
    let pushed : new.items ≡ (get_or lists j new).items ++ put_of d n c.args.f ∷ [] =
    c.in_ok-push.ensures.items ∙ ap (λ (v : Vec PutAt). v.items ++ record { place = n; face = c.home_face-face.result } ∷ []) had ∙ ap (λ (g : Face). (get_or lists j new).items ++ record { place = n; face = g } ∷ []) face in
    let told : true ≡ leads_on d ps c.args.reader.each c.args.reader.patch c.args.f = returns-clause-told c in
    record {
      count = omega (arith, counted c.args.f c.args.places.now.count true _ told);
      places = record { lists = length-set lists j new ∙ c.requires.places.lists; gap = c.in-Some.ensures.gap };
      put = λ done put. one_more d ps done c.args.f n lists j new (leads_on d ps c.args.reader.each c.args.reader.patch c.args.f) c.requires.look_up.apart (sym told) own there pushed put;
    }
