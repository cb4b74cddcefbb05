use Rattle.std.proofs.Common.{◌∙◌, ℤ, List, ap, arith, length, pos, refl}
use Rattle.std.specs.Prelude.{slice_index_or, vec_len}
use Rattle.std.proofs.lemmas.List.{get_or-replicate, length-replicate}
use Rattle.amr_register.specs.Fields.{cells_in, edges_in, entry_in, sides_in}
use Rattle.amr_register.proofs.EdgeLists.{same_edges_itself}
use Rattle.amr_register.proofs.EntryLaws.{no_entries}
use Rattle.amr_register.proofs.register.Register.clear.Goals as goal

pub returns-clause-zero : goal.returns-clause-zero
unfolding entry_in
returns-clause-zero c = λ q.
    let n = vec_len c.args.self.now.entries in
    let all = c.fill.ensures.items (λ y e. e) in
    no_entries c.args.self.now.cells.items c.fill.new.self.items q (λ k lt. ap (λ (es : List ℤ). slice_index_or es k (pos 0)) all ∙ get_or-replicate n k (pos 0) (pos 0) (omega (arith, lt, ap length all, length-replicate n (pos 0))))

pub returns-clause-cells : goal.returns-clause-cells
unfolding cells_in sides_in edges_in
returns-clause-cells c = record { cells = refl; sides = refl; edges = same_edges_itself _ }
