use Rattle.std.proofs.Common.{◌∙◌, ℤ, ◌+ℤ◌, ◌-ℤ◌, ◌<ℤ◌, pos, negsuc, ◌^◌, ap, refl, subst, sym, arith}
use Rattle.std.proofs.lemmas.Int.{ints}
use Rattle.amr_box.specs.declared.Cell.{Cell}
use Rattle.amr_box.specs.Cells.{cell}
use Rattle.amr_register.specs.Entries.{entry_at}
use Rattle.amr_register.specs.Fields.{cells_in, edges_in, entry_in, sides_in}
use Rattle.amr_register.proofs.EdgeLists.{same_edges_itself}
use Rattle.amr_register.proofs.EntryLaws.{entry_of_other, entry_of_place, entry_of_set}
use Rattle.amr_register.proofs.OwnedFlows.{kept_as}
use Rattle.amr_register.proofs.Taken.{same_at}
use Rattle.amr_register.proofs.register.Register.absorb.Goals as goal

pub index_mut-requires : goal.index_mut-requires
unfolding cells_in
index_mut-requires c = omega (arith, c.requires.there, c.args.self.now.entry_count)

pub overflow_add-index_mut : goal.overflow_add-index_mut
unfolding cells_in entry_in
overflow_add-index_mut c =
    let self = c.args.self.now in
    let q : Cell = cell (pos 0) (pos 0) in
    let is = entry_of_place self.cells.items self.entries.items c.args.k q self.rising self.entry_count c.requires.there ∙ same_at self.entries.items c.args.k (pos 0) c.index_mut.result.now (omega (arith, c.requires.there, self.entry_count)) ∙ sym c.index_mut.ensures.value in
    let low = subst (λ (z : ℤ). negsuc (2 ^ 62) <ℤ (z +ℤ pos c.args.gain -ℤ pos c.args.loss)) is (c.requires.low q) in
    let high = subst (λ (z : ℤ). (z +ℤ pos c.args.gain -ℤ pos c.args.loss) <ℤ pos (2 ^ 62)) is (c.requires.high q) in
    omega (arith, ints, low, high)

pub returns-clause-added : goal.returns-clause-added
unfolding cells_in entry_in
returns-clause-added c = λ q at.
    let self = c.args.self.now in
    let is = entry_of_place self.cells.items self.entries.items c.args.k q self.rising self.entry_count c.requires.there ∙ same_at self.entries.items c.args.k (pos 0) c.index_mut.result.now (omega (arith, c.requires.there, self.entry_count)) ∙ sym c.index_mut.ensures.value in
    let low = subst (λ (z : ℤ). negsuc (2 ^ 62) <ℤ (z +ℤ pos c.args.gain -ℤ pos c.args.loss)) is (c.requires.low q) in
    let high = subst (λ (z : ℤ). (z +ℤ pos c.args.gain -ℤ pos c.args.loss) <ℤ pos (2 ^ 62)) is (c.requires.high q) in
    entry_of_set self.cells.items self.entries.items c.args.k _ q q self.rising self.entry_count c.requires.there at
    ∙ kept_as _ (c.index_mut.result.now +ℤ pos c.args.gain -ℤ pos c.args.loss) _ (omega (arith, ints, low, high)) (λ i. (sym is ∙ ap (entry_at self.cells.items self.entries.items) (sym at)) i +ℤ pos c.args.gain -ℤ pos c.args.loss)

pub returns-clause-others : goal.returns-clause-others
unfolding cells_in entry_in
returns-clause-others c = λ q ne.
    let self = c.args.self.now in
    entry_of_other self.cells.items self.entries.items c.args.k _ q q self.entry_count c.requires.there ne

pub returns-clause-cells : goal.returns-clause-cells
unfolding cells_in sides_in edges_in
returns-clause-cells c = record { cells = refl; sides = refl; edges = same_edges_itself _ }
