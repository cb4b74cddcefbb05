use Rattle.std.proofs.Common.{◌≡◌, ◌∙◌, ℕ, ◌+◌, ◌*◌, ◌/◌, ◌<◌, ◌≤◌, List, length, ap, subst, sym, arith}
use Rattle.std.specs.Prelude.{Result}
use Rattle.std.proofs.lemmas.Result.{IfOk-weaker}
use Rattle.amr_causes.specs.declared.no_memory.NoMemory.{NoMemory}
use Rattle.amr_def.specs.Domain.{Domain, domain}
use Rattle.amr_patch.specs.Levels.{level_of}
use Rattle.amr_register.specs.declared.bands.Band.{Band}
use Rattle.amr_register.specs.Bands.{AreBandsOf}
use Rattle.amr_register.proofs.BandLists as lists
use Rattle.amr_register.proofs.bands.whole_by_belts.Goals as goal

pub overflow_add-size : goal.overflow_add-size
overflow_add-size g c = omega (arith, lists.small_belt c.rows.result c.args.belts c.requires.some c.rows.ensures.small)

pub map_indices-requires-after_bounds : goal.map_indices-requires-after_bounds
map_indices-requires-after_bounds g c κs within = λ i lt.
    (omega (arith, lt, c.requires.few), lists.small_belt c.rows.result c.args.belts c.requires.some c.rows.ensures.small)

pub returns : goal.returns
returns g c =
    let p = c.args.pair.now.p.now in
    let m = (level_of c.args.pair.now.coarse.now).masses in
    let fine = (level_of c.args.pair.now.fine.now).masses in
    let size : ℕ = c.rows.result / c.args.belts + 1 in
    let bands : List (Result Band NoMemory) = c.deref.result.now in
    let count : length bands ≡ c.args.belts = omega (arith, c.deref.ensures.len, c.in_ok-bands.ensures.len) in
    let rows : c.rows.result ≡ (domain p c.args.pair.now.l).rows = c.rows.ensures.value ∙ ap (λ (d : Domain). d.rows) c.domain.ensures in
    let are : AreBandsOf p c.args.pair.now.l m fine size bands = subst (λ (xs : List (Result Band NoMemory)). AreBandsOf p c.args.pair.now.l m fine size xs) (sym c.deref.ensures.value) (λ k b lt.
    let there : k < c.args.belts = subst (λ (n : ℕ). k < n) count (subst (λ (xs : List (Result Band NoMemory)). k < length xs) (sym c.deref.ensures.value) lt) in
    (c.in_ok-bands.ensures.each k b there).1.met) in
    let enough : (domain p c.args.pair.now.l).rows ≤ length bands * size =
    subst (λ (n : ℕ). (domain p c.args.pair.now.l).rows ≤ n * size) (sym count) (subst (λ (n : ℕ). n ≤ c.args.belts * size) rows (lists.enough_rows c.rows.result c.args.belts c.requires.some)) in
    IfOk-weaker c.put_together.result _ _ (λ b h. lists.whole p c.args.pair.now.l m fine (length bands * size) b enough h) (c.put_together.ensures p c.args.pair.now.l m fine size are)
