use Rattle.std.proofs.Common.{◌≡◌, ℕ, suc, ◌+◌, ◌<◌, ◌∙◌, [], ◌∷◌, ◌++◌, List, length, get_or, set, ap, sym, subst, arith, w64, add-one}
use Rattle.std.proofs.Math.Facts.{Fits-of_lt}
use Rattle.std.proofs.lemmas.List.{get_or_default, get_or-map, length-map, map-set}
use Rattle.std.specs.Global.{Vec}
use Rattle.amr_balance.specs.Shares.{IsLeast, lists_in}
use Rattle.amr_balance.proofs.SoFar.{IsSoFar, none_so_far, one_so_far, load_small, shared_evenly, zeros}
use Rattle.amr_balance.proofs.share.Goals as goal

pub loop-k-init : goal.loop-k-init
loop-k-init c =
    let all_zero : (w : ℕ) → get_or c.in_ok-loads.loads.items w 0 ≡ 0 = λ w. ap (λ (l : List ℕ). get_or l w 0) (c.in_ok-loads.ensures.items_if_clones_equal (λ y e. e)) ∙ zeros c.args.workers w in
    none_so_far c.args.areas.now c.args.workers c.in_ok-loads.loads.items (lists_in c.in_ok-lots.lots.items) (omega (arith, c.in_ok-loads.ensures.len)) c.in_ok-lots.ensures.count all_zero c.in_ok-lots.ensures.empty

pub overflow_add-index_mut : goal.overflow_add-index_mut
overflow_add-index_mut c =
    let w = c.least_loaded-w.result in
    let there : w < length c.loop-k.loads.items = subst (λ (l : List ℕ). w < length l) c.deref.ensures.value c.least_loaded-w.ensures.there in
    let read : c.index_mut.result.now ≡ get_or c.loop-k.loads.items w 0 = c.index_mut.ensures.value ∙ get_or_default c.loop-k.loads.items w c.index_mut.result.now 0 there in
    Fits-of_lt {w = w64} (omega (arith, read, load_small c.args.areas.now c.args.workers c.loop-k.k c.loop-k.loads.items (lists_in c.loop-k.lots.items) w c.loop-k.invariant (omega arith) (omega (arith, c.loop-k.invariant.loads_count))))

pub loop-k-preserved : goal.loop-k-preserved
loop-k-preserved c =
    let w = c.least_loaded-w.result in
    let k = c.loop-k.k in
    let loads = c.loop-k.loads.items in
    let lots = c.loop-k.lots.items in
    let areas = c.args.areas.now in
    let there : w < length loads = subst (λ (l : List ℕ). w < length l) c.deref.ensures.value c.least_loaded-w.ensures.there in
    let lot_there : w < length lots = omega (arith, there, length-map lots (λ (v : Vec ℕ). v.items), c.loop-k.invariant.loads_count, c.loop-k.invariant.lots_count) in
    let read : c.index_mut.result.now ≡ get_or loads w 0 = c.index_mut.ensures.value ∙ get_or_default loads w c.index_mut.result.now 0 there in
    let lot_read : c.index_mut-in-loop-k.result.now.items ≡ get_or (lists_in lots) w [] =
    ap (λ (v : Vec ℕ). v.items) c.index_mut-in-loop-k.ensures.value ∙ sym (get_or-map (λ (v : Vec ℕ). v.items) lots w c.index_mut-in-loop-k.result.now [] lot_there) in
    let least : IsLeast c.args.workers (λ v. get_or loads v 0) w = subst (λ (n : ℕ). IsLeast n (λ v. get_or loads v 0) w) c.loop-k.invariant.loads_count
    (subst (λ (l : List ℕ). IsLeast (length l) (λ v. get_or l v 0) w) c.deref.ensures.value c.least_loaded-w.ensures) in
    let more = one_so_far areas c.args.workers k loads (lists_in lots) w c.loop-k.invariant least in
    let loads_are : set loads w (get_or loads w 0 + get_or areas k 0) ≡ set loads w (c.index_mut.result.now + get_or areas k 0) = ap (λ x. set loads w (x + get_or areas k 0)) (sym read) in
    let lots_are : set (lists_in lots) w (get_or (lists_in lots) w [] ++ k ∷ []) ≡ lists_in (set lots w c.push.new.self) =
    ap (λ (l : List ℕ). set (lists_in lots) w l) (ap (λ (l : List ℕ). l ++ k ∷ []) (sym lot_read) ∙ sym c.in_ok-push.ensures.items) ∙ sym (map-set (λ (v : Vec ℕ). v.items) lots w c.push.new.self) in
    subst (λ (n : ℕ). IsSoFar areas c.args.workers n (set loads w (c.index_mut.result.now + get_or areas k 0)) (lists_in (set lots w c.push.new.self))) (sym (add-one k))
    (subst (λ (ls : List ℕ). IsSoFar areas c.args.workers (suc k) ls (lists_in (set lots w c.push.new.self))) loads_are
    (subst (λ (ls : List (List ℕ)). IsSoFar areas c.args.workers (suc k) (set loads w (get_or loads w 0 + get_or areas k 0)) ls) lots_are more))

pub returns-clause-balance : goal.returns-clause-balance
returns-clause-balance c =
    let all : c.loop-k.k ≡ length c.args.areas.now = omega arith in
    shared_evenly c.args.areas.now c.args.workers c.loop-k.loads.items (lists_in c.loop-k.lots.items) c.requires.some
    (subst (λ (n : ℕ). IsSoFar c.args.areas.now c.args.workers n c.loop-k.loads.items (lists_in c.loop-k.lots.items)) all c.loop-k.invariant)
