-- Entries from which the net flows of edge cells are taken away; and that the cells of lists are edge cells.
use Rattle.std.proofs.Common.{◌≡◌, ◌∙◌, ℕ, ◌<◌, true, ℤ, ◌-ℤ◌, List, [], length, get_or, sym, ap, subst, arith}
use Rattle.std.specs.List.{All, Contains}
use Rattle.std.proofs.lemmas.List.Elements.{Contains-get_or}
use Rattle.amr_box.specs.declared.Cell.{Cell}
use Rattle.amr_def.specs.Domain.{Domain}
use Rattle.amr_def.specs.State.{Masses, is_covered}
use Rattle.amr_register.specs.declared.edges.EdgeCell.{EdgeCell}
use Rattle.amr_register.specs.declared.sides.CoveredSides.{CoveredSides}
use Rattle.amr_register.specs.RegisterCells.{is_register_cell}
use Rattle.amr_register.specs.Beside.{HasSides, HaveSides}
use Rattle.amr_register.specs.EdgeCells.{AreEdges, HaveEachOnce, IsAmong, edge_at, number_of}
use Rattle.amr_register.specs.Entries.{AreRising, entry_at}
use Rattle.amr_register.specs.Written.{AreAllWritten, by_number, without_net}
use Rattle.amr_register.proofs.EntryLaws.{entry_of_place}
use Rattle.amr_register.proofs.Taken.{no_cell, no_edge, no_sides}

-- the numbers of the cells are those of entries
pub all_numbers : (cs : List Cell) (es : List ℤ) (xs : List (List EdgeCell)) → length es ≡ length cs → HaveEachOnce cs xs → All (All (λ e. e.number < length es)) xs
all_numbers cs es xs count h k d lt i e below = let n = (h.numbered k d lt i e below).inside in omega (arith, n, count)

pub entry_taken : (cs : List Cell) (es after : List ℤ) (xs : List (List EdgeCell)) (flow : Cell → ℤ) → AreRising cs → length es ≡ length cs → length after ≡ length cs → HaveEachOnce cs xs → All (All (λ e. e.net ≡ flow e.cell)) xs
    → AreAllWritten number_of without_net xs (by_number es) (by_number after) (length xs) → (c : Cell) → Contains cs c → entry_at cs after c ≡ entry_at cs es c -ℤ flow c
entry_taken cs es after xs flow rises count after_count h flows wrote c (k, lt, at) =
    let p = h.listed k lt in
    let inside = p.has.inside in
    let x : EdgeCell = edge_at xs p.place no_edge in
    let number : x.number ≡ k = p.has.number no_edge in
    let is_c : x.cell ≡ c = (h.numbered p.place.list [] inside.list p.place.at no_edge inside.at).cell c ∙ ap (λ (j : ℕ). get_or cs j c) number ∙ at in
    let net : x.net ≡ flow c = flows p.place.list [] inside.list p.place.at no_edge inside.at ∙ ap flow is_c in
    let taken : by_number after k ≡ by_number es k -ℤ x.net = subst (λ (j : ℕ). by_number after j ≡ by_number es j -ℤ x.net) number (wrote.done p.place no_edge inside.list inside) in
    let was = sym (ap (entry_at cs es) at) ∙ entry_of_place cs es k c rises count lt in
    let is = sym (ap (entry_at cs after) at) ∙ entry_of_place cs after k c rises after_count lt in
    is ∙ taken ∙ (λ i. sym was i -ℤ net i)

-- cells of lists that are among register cells, with their sides
pub edges_are : (d : Domain) (m fine : Masses) (cs : List Cell) (ss : List CoveredSides) (xs : List (List EdgeCell)) → ((c : Cell) → Contains cs c → is_register_cell d m fine c ≡ true) → HaveSides d (is_covered fine) cs ss → All (All (IsAmong cs ss)) xs → AreEdges d m fine xs
edges_are d m fine cs ss xs passes sides among k es lt i e below =
    let x : EdgeCell = get_or (get_or xs k es) i e in
    let here : IsAmong cs ss x = among k es lt i e below in
    let n = x.number in
    record {
      cell = ap (is_register_cell d m fine) (here.numbered.cell no_cell) ∙ passes (get_or cs n no_cell) (Contains-get_or cs n no_cell here.numbered.inside);
      sides = subst (λ (c : Cell). HasSides d (is_covered fine) c x.sides) (sym (here.numbered.cell no_cell)) (subst (λ (s : CoveredSides). HasSides d (is_covered fine) (get_or cs n no_cell) s) (sym (here.sides no_sides)) (sides n no_cell no_sides here.numbered.inside));
    }
