use Rattle.std.proofs.Common.{◌≡◌, ◌^◌, ◌<◌, true, List, length, map, subst, sym}
use Rattle.std.specs.List.{All, AllZip, Contains}
use Rattle.amr_box.specs.declared.Cell.{Cell}
use Rattle.amr_def.specs.Domain.{domain}
use Rattle.amr_patch.specs.declared.patches.Patch.{Patch}
use Rattle.amr_patch.specs.Levels.{patches_of}
use Rattle.amr_patch.specs.Patches.{box, in_patches}
use Rattle.amr_register.specs.declared.sides.CoveredSides.{CoveredSides}
use Rattle.amr_register.specs.RegisterCells.{is_register_cell}
use Rattle.amr_register.specs.EdgeCells.{AreEdgesIn, HaveEachOnce, IsAmong, lists_of}
use Rattle.amr_register.specs.Fields.{cells_in, edges_in, entry_in, sides_in}
use Rattle.amr_register.proofs.CellLists.{where_passes}
use Rattle.amr_register.proofs.EdgesTaken.{edges_are}
use Rattle.amr_register.proofs.EntryLaws.{no_entries}
use Rattle.amr_register.proofs.register.Register.over.Goals as goal

pub edge_lists-requires-clause-there : goal.edge_lists-requires-clause-there
edge_lists-requires-clause-there c =
    subst (λ (qs : List Patch). All (λ (q : Cell). in_patches qs q ≡ true) c.deref.result.now) (sym c.patches.ensures.all)
    (subst (λ (cs : List Cell). All (λ (q : Cell). in_patches (patches_of c.args.coarse.now) q ≡ true) cs) (sym c.deref.ensures.value) c.requires.there)

pub edge_lists-requires-clause-few : goal.edge_lists-requires-clause-few
edge_lists-requires-clause-few c = subst (λ (cs : List Cell). length cs < 2 ^ 32) (sym c.deref.ensures.value) c.requires.few

pub returns-clause-cells : goal.returns-clause-cells
unfolding cells_in sides_in edges_in
returns-clause-cells c = λ p l m fine is.
    let cells : List Cell = c.args.band.cells.items in
    let sides : List CoveredSides = c.args.band.sides.items in
    let lists = lists_of c.in_ok-edges.edges.items in
    let among : All (All (IsAmong cells sides)) lists = subst (λ (cs : List Cell). All (All (IsAmong cs sides)) lists) c.deref.ensures.value (subst (λ (ss : List CoveredSides). All (All (IsAmong c.deref.result.now ss)) lists) c.deref-2.ensures.value c.in_ok-edges.ensures.among) in
    record {
      cells = is.cells;
      sides = is.sides;
      edges = edges_are (domain p l) m fine cells sides lists (λ q has. where_passes (domain p l) (is_register_cell (domain p l) m fine) q (subst (λ (cs : List Cell). Contains cs q) is.cells has)) is.sides among;
      placed = subst (λ (cs : List Cell). HaveEachOnce cs lists) c.deref.ensures.value c.in_ok-edges.ensures.once;
    }

pub returns-clause-edges : goal.returns-clause-edges
unfolding edges_in
returns-clause-edges c = record { lists = subst (λ (qs : List Patch). AllZip AreEdgesIn (map box qs) (lists_of c.in_ok-edges.edges.items)) c.patches.ensures.all c.in_ok-edges.ensures.boxes }

pub returns-clause-zero : goal.returns-clause-zero
unfolding entry_in
returns-clause-zero c = λ q. no_entries c.args.band.cells.items c.in_ok-entries.entries.items q (λ k lt. c.in_ok-entries.ensures.zero k)
