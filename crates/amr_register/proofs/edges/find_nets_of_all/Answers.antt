use Rattle.std.proofs.Common.{◌≡◌, ◌∙◌, List, ap, arith, sym, subst}
use Rattle.std.specs.Prelude.{slice_index_or}
use Rattle.std.specs.List.{All, AllZip}
use Rattle.std.specs.Global.{Vec}
use Rattle.std.specs.Vec.{with_items}
use Rattle.std.proofs.lemmas.List.{with_items_is}
use Rattle.amr_patch.specs.declared.patches.Patch.{Patch}
use Rattle.amr_patch.specs.Patches.{box}
use Rattle.amr_register.specs.declared.edges.EdgeCell.{EdgeCell}
use Rattle.amr_register.specs.EdgeCells.{AreEdgesIn, HasNet, IsSmallNet}
use Rattle.amr_register.proofs.Changed.{one_changed}
use Rattle.amr_register.proofs.NetLists.{IsFound, all_found, all_small, list_inside, lists_count}
use Rattle.amr_register.proofs.Taken.{same_at}
use Rattle.amr_register.proofs.edges.find_nets_of_all.Goals as goal

pub bounds-lists-k : goal.bounds-lists-k
bounds-lists-k c = omega (arith, c.loop-k-test.true, c.loop-k.invariant.count, lists_count c.args.patches.now c.args.lists.now c.requires.edges)

pub find_nets-requires-clause-edges : goal.find_nets-requires-clause-edges
find_nets-requires-clause-edges c =
    let q = c.index-patches-k.result in
    let v = c.index-lists-k.result in
    let items : c.deref_mut.result.now ≡ (slice_index_or c.args.lists.now c.loop-k.k v).items = c.deref_mut.ensures.value ∙ ap (λ (w : Vec EdgeCell). w.items) (c.loop-k.invariant.left c.loop-k.k v (omega arith)) in
    subst (AreEdgesIn (box q)) (sym items)
    (subst (λ (x : Patch). AreEdgesIn (box x) (slice_index_or c.args.lists.now c.loop-k.k v).items) (sym c.index-patches-k.is) (list_inside c.args.patches.now c.args.lists.now c.loop-k.k q v c.requires.edges c.loop-k-test.true))

pub loop-k-preserved : goal.loop-k-preserved
loop-k-preserved c =
    let k = c.loop-k.k in
    let v = c.index-lists-k.result in
    let new = c.find_nets.new.edges in
    let items : (with_items (slice_index_or c.loop-k.lists k v) new).items ≡ new = with_items_is (slice_index_or c.loop-k.lists k v) new (c.find_nets.auto.edges ∙ c.deref_mut.ensures.len) in
    let nets : (q : Patch) → AllZip (HasNet c.args.p.now c.args.l (slice_index_or c.args.patches.now k q)) (slice_index_or c.loop-k.lists k v).items new = λ q.
    subst (λ (x : Patch). AllZip (HasNet c.args.p.now c.args.l x) (slice_index_or c.loop-k.lists k v).items new) (c.index-patches-k.is ∙ same_at c.args.patches.now k c.index-patches-k.result q c.loop-k-test.true)
    (subst (λ (es : List EdgeCell). AllZip (HasNet c.args.p.now c.args.l c.index-patches-k.result) es new) c.deref_mut.ensures.value c.find_nets.ensures.nets) in
    one_changed (IsFound c.args.p.now c.args.l c.args.patches.now) c.args.lists.now c.loop-k.lists k (with_items (slice_index_or c.loop-k.lists k v) new) v c.loop-k.invariant (omega (arith, c.loop-k-test.true, c.loop-k.invariant.count, lists_count c.args.patches.now c.args.lists.now c.requires.edges))
    (λ q. subst (AllZip (HasNet c.args.p.now c.args.l (slice_index_or c.args.patches.now k q)) (slice_index_or c.loop-k.lists k v).items) (sym items) (nets q), subst (All IsSmallNet) (sym items) c.find_nets.ensures.small)

pub returns-clause-nets : goal.returns-clause-nets
returns-clause-nets c = all_found c.args.p.now c.args.l c.args.patches.now c.args.lists.now c.loop-k.lists c.loop-k.k (lists_count c.args.patches.now c.args.lists.now c.requires.edges) c.loop-k-test.false c.loop-k.invariant

pub returns-clause-small : goal.returns-clause-small
returns-clause-small c = all_small c.args.p.now c.args.l c.args.patches.now c.args.lists.now c.loop-k.lists c.loop-k.k (lists_count c.args.patches.now c.args.lists.now c.requires.edges) c.loop-k-test.false c.loop-k.invariant
