-- How many boxes the levels of a state have.
use Rattle.std.proofs.Common.{◌≡◌, ℕ, suc, ◌+◌, ◌*◌, ◌^◌, ◌<◌, ◌≤◌, List, [], ◌∷◌, length, map, get_or, take, sum, subst, sym, ap, ◌∙◌, arith, mul-le-mul}
use Rattle.std.specs.List.{sum_by}
use Rattle.std.proofs.Math.Nat.{pow-le-pow_right}
use Rattle.std.proofs.lemmas.List.{length-map}
use Rattle.std.proofs.lemmas.List.Sums.{sum-map, sum_by-cons, sum_by_more, sum_by-take-le}
use Rattle.amr_box.specs.Cells.{Extent}
use Rattle.amr_def.specs.declared.problem.Problem.{Problem}
use Rattle.amr_def.specs.Facts.{IsSound}
use Rattle.amr_def.specs.State as defined
use Rattle.amr_def.specs.State.{State, no_level}
use Rattle.amr_patch.specs.declared.levels.Level.{Level}
use Rattle.amr_patch.specs.Levels.{level_of}
use Rattle.amr_patch.proofs.Items.{level_item}
use Rattle.amr_payload.specs.Payload.{level_cells}
use Rattle.amr_payload.proofs.Counting.{few_boxes}
use Rattle.amr_payload.proofs.ReadStates.{IsTower}
use Rattle.amr_payload.proofs.WriteStates.{has_tower}
use Rattle.amr_trial.specs.Summary.{box_count}

-- the boxes of one level
abbrev pub boxes_in : defined.Level → ℕ
boxes_in k = length k.boxes

-- ---- one level after another

pub one_more_level : (levels : List Level) (i : ℕ) (level : Level) → i < length levels → level ≡ get_or levels i level → sum_by boxes_in (take (i + 1) (map level_of levels)) ≡ sum_by boxes_in (take i (map level_of levels)) + boxes_in (level_of level)
one_more_level levels i level inside is =
    let ks = map level_of levels in
    let within : i < length ks = subst (λ n. i < n) (sym (length-map levels level_of)) inside in
    sum_by_more boxes_in ks i no_level within ∙ ap (λ (k : defined.Level). sum_by boxes_in (take i ks) + boxes_in k) (sym (level_item levels i level inside is))

-- the boxes so far and those of the next level are within all
pub within_total : (levels : List Level) (i : ℕ) (level : Level) → i < length levels → level ≡ get_or levels i level → sum_by boxes_in (take i (map level_of levels)) + boxes_in (level_of level) ≤ sum (map boxes_in (map level_of levels))
within_total levels i level inside is =
    let ks = map level_of levels in
    omega (arith, one_more_level levels i level inside is, sum_by-take-le boxes_in ks (i + 1), sum-map boxes_in ks)

-- ---- a sound state has few

cells_small : (p : Problem) (l : ℕ) → l ≤ 3 → level_cells p l ≤ 4194304
cells_small p l coarse =
    let power : 4 ^ l ≤ 4 ^ 3 = pow-le-pow_right (omega arith) coarse in
    let area : p.nx * p.ny ≤ 256 * 256 = mul-le-mul p.limits.greatest_nx p.limits.greatest_ny in
    let all : p.nx * p.ny * 4 ^ l ≤ 256 * 256 * 4 ^ 3 = mul-le-mul area power in
    all

-- of levels that stand on one another, each has at most as many as the next coarser level has cells
finer_few : (p : Problem) (n l : ℕ) (below : defined.Level) (ks : List defined.Level) → IsTower p n l below ks → l + length ks ≤ 4 → sum_by boxes_in ks ≤ length ks * 4194304
finer_few p n l below [] tower deep = omega arith
finer_few p n l below (k ∷ ks) tower deep =
    let few = few_boxes p l k tower.0.good.level tower.0.aligned in
    let more = finer_few p n (suc l) k ks tower.1 (omega (arith, deep)) in
    omega (arith, sum_by-cons boxes_in k ks, few, cells_small p l (omega (arith, deep)), more)

pub boxes_fit : (p : Problem) (s : State) → IsSound p s → box_count s < 2 ^ 64
boxes_fit p s sound =
    let t = has_tower p s sound in
    let all : box_count s ≡ sum_by boxes_in (t.base ∷ t.finer) = ap (λ (ks : List defined.Level). sum (map boxes_in ks)) t.is ∙ sum-map boxes_in (t.base ∷ t.finer) in
    let one : length t.base.boxes ≡ 1 = ap (λ (bs : List Extent). length bs) t.boxes in
    let deep : 0 + length t.finer ≤ 4 = omega (arith, t.few, p.limits.greatest_max_level) in
    let finer = finer_few p s.step 0 t.base t.finer t.tower deep in
    omega (arith, all, sum_by-cons boxes_in t.base t.finer, one, finer, deep)
