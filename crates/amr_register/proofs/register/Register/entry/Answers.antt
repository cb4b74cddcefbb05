use Rattle.std.proofs.Common.{◌∙◌, sym, pos, arith}
use Rattle.std.proofs.lemmas.Int.{ints}
use Rattle.amr_register.specs.Fields.{cells_in, entry_in}
use Rattle.amr_register.proofs.EntryLaws.{entry_of_place}
use Rattle.amr_register.proofs.OwnedFlows.{kept_as}
use Rattle.amr_register.proofs.Taken.{same_at}
use Rattle.amr_register.proofs.register.Register.entry.Goals as goal

pub index-requires : goal.index-requires
unfolding cells_in
index-requires c = omega (arith, c.requires, c.args.self.now.entry_count)

pub returns : goal.returns
unfolding cells_in entry_in
returns c = λ q.
    let self = c.args.self.now in
    kept_as _ c.index.result.now _ (omega (arith, ints))
    (c.index.ensures ∙ same_at self.entries.items c.args.k c.index.result.now (pos 0) (omega (arith, c.requires, self.entry_count)) ∙ sym (entry_of_place self.cells.items self.entries.items c.args.k q self.rising self.entry_count c.requires))
