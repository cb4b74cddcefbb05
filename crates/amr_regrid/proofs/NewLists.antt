-- New boxes of several levels.
use Rattle.std.proofs.Common.{◌≡◌, ℕ, zero, suc, ◌+◌, Bool, true, sym, ap, ◌∙◌, List, [], map}
use Rattle.amr_box.specs.declared.Cell.{Cell}
use Rattle.amr_box.specs.Cells.{Extent, in_boxes, parent}
use Rattle.amr_def.specs.declared.problem.Problem.{Problem}
use Rattle.amr_def.specs.Cluster.{cluster}
use Rattle.amr_def.specs.Domain.{domain, in_domain, refined}
use Rattle.amr_def.specs.NewBoxes.{first_boxes, new_boxes, wanted_blocks}
use Rattle.amr_def.proofs.Uncovered.{in_domain-yes}
use Rattle.amr_laws.proofs.Coverage.{new_boxes-good, of_parent}

-- the parents of the cells of the first boxes lie in the next coarser level
pub finer_inside : (p : Problem) (tagged : ℕ → Cell → Bool) (n l : ℕ) (bs : List Extent) → bs ≡ first_boxes (new_boxes p tagged n (l + 1)) → (c : Cell) → in_boxes bs c ≡ true → in_domain (domain p (l + 1)) (parent c) ≡ true
unfolding new_boxes
finer_inside p tagged zero l bs is c h = absurd (let e : in_boxes [] c ≡ true = sym (ap (λ (xs : List Extent). in_boxes xs c) is) ∙ h in cc)
finer_inside p tagged (suc n) l bs is c h =
    let finer = first_boxes (new_boxes p tagged n (suc (l + 1))) in
    let held = sym (ap (λ (xs : List Extent). in_boxes xs c) is) ∙ h in
    in_domain-yes p (l + 1) (parent c) (of_parent p tagged (l + 1) finer c ((new_boxes-good p tagged (l + 1) finer).inside c held))

-- boxes by tags that are the level's, over boxes that are the finer ones
pub boxes_by : (p : Problem) (tagged : ℕ → Cell → Bool) (l : ℕ) (test : Cell → Bool) (bs finer next : List Extent) → ((c : Cell) → test c ≡ tagged l c) → finer ≡ next
    → bs ≡ map (refined p.blocking) (cluster p.efficiency p.min_width (wanted_blocks p (λ k. test) l finer)) → bs ≡ map (refined p.blocking) (cluster p.efficiency p.min_width (wanted_blocks p tagged l next))
boxes_by p tagged l test bs finer next tags same is =
    let here : test ≡ tagged l = λ i c. tags c i in
    is ∙ (λ i. map (refined p.blocking) (cluster p.efficiency p.min_width (wanted_blocks p (λ k. here i) l (same i))))
