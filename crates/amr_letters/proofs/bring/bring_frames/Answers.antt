use Rattle.std.proofs.Common.{◌≡◌, ◌∙◌, ℕ, Bor, List, length, ap, refl, sym, subst, arith}
use Rattle.std.specs.List.{All}
use Rattle.std.specs.Option.{option_map}
use Rattle.amr_patch.specs.declared.levels.Level.{Level}
use Rattle.amr_patch.specs.Patches.{SameFluxes, masses_in}
use Rattle.amr_ghost.specs.Frames.{KeepsCorners, SameMasses, old_masses}
use Rattle.amr_ghost.proofs.Zips.{zip_map}
use Rattle.amr_post.specs.declared.ranks.Rank.{Rank}
use Rattle.amr_letters.specs.Told.{HasPatchMasses}
use Rattle.amr_letters.specs.Filled.{KeepsAllButValues, SameFrameMarks, TellFrames}
use Rattle.amr_letters.proofs.Patches.{all_kept}
use Rattle.amr_letters.proofs.bring.bring_frames.Goals as goal

pub invariant_of-own : goal.invariant_of-own
invariant_of-own g c = record { ordered = c.requires.ordered; apart = c.requires.apart; counted = c.requires.own.counted }

pub frames_told-requires-clause-own : goal.frames_told-requires-clause-own
frames_told-requires-clause-own g c κs within = c.requires.own

pub frames_told-requires-clause-coarser : goal.frames_told-requires-clause-coarser
frames_told-requires-clause-coarser g c κs within = c.requires.coarser

pub returns-in_err-told-clause-marks : goal.returns-in_err-told-clause-marks
returns-in_err-told-clause-marks g c = zip_map KeepsAllButValues SameFrameMarks (λ q r h. h.marks) c.args.patches.now c.args.patches.now (all_kept c.args.patches.now)

pub returns-in_err-told-clause-masses : goal.returns-in_err-told-clause-masses
returns-in_err-told-clause-masses g c = zip_map KeepsAllButValues SameMasses (λ q r h. h.cells.masses) c.args.patches.now c.args.patches.now (all_kept c.args.patches.now)

pub returns-in_err-told-clause-corners : goal.returns-in_err-told-clause-corners
returns-in_err-told-clause-corners g c = zip_map KeepsAllButValues KeepsCorners (λ q r h. h.cells.corners) c.args.patches.now c.args.patches.now (all_kept c.args.patches.now)

pub returns-in_err-told-clause-fluxes : goal.returns-in_err-told-clause-fluxes
returns-in_err-told-clause-fluxes g c = zip_map KeepsAllButValues SameFluxes (λ q r h. h.cells.fluxes) c.args.patches.now c.args.patches.now (all_kept c.args.patches.now)

pub returns-in_err-told-clause-boxes : goal.returns-in_err-told-clause-boxes
returns-in_err-told-clause-boxes g c = refl

pub fill_frames-requires-clause-few : goal.fill_frames-requires-clause-few
fill_frames-requires-clause-few g c = c.in_ok-told.ensures.few

pub fill_frames-requires-clause-owned : goal.fill_frames-requires-clause-owned
fill_frames-requires-clause-owned g c = c.requires.own.counted

pub fill_frames-requires-clause-there : goal.fill_frames-requires-clause-there
fill_frames-requires-clause-there g c =
    let there : length c.as_slice.result.now ≡ c.args.ranks = ap (λ (rs : List Rank). length rs) c.as_slice.ensures.value ∙ c.in_ok-told.ensures.counted in
    λ k d lt. (let less = c.requires.own.ranked k d lt in omega (arith, less, there))

pub fill_frames-requires-clause-node_masses : goal.fill_frames-requires-clause-node_masses
fill_frames-requires-clause-node_masses g c = subst (λ (rs : List Rank). All (λ (r : Rank). HasPatchMasses r.node) rs) (sym c.as_slice.ensures.value) c.in_ok-told.ensures.small

pub returns-clause-filled : goal.returns-clause-filled
returns-clause-filled g c =
    let m = masses_in c.args.patches.now in
    let old = old_masses (option_map {T = Bor Level × Bor (List ℕ)} {U = Level} (λ k. k.0.now) c.args.coarser) in
    c.fill_frames.ensures.filled m old
    (subst (λ (rs : List Rank). TellFrames c.args.p.now c.args.l m old c.args.patches.now c.args.owners.now rs) (sym c.as_slice.ensures.value) c.in_ok-told.ensures.tells)

pub returns-clause-marks : goal.returns-clause-marks
returns-clause-marks g c = c.fill_frames.ensures.marks

pub returns-clause-masses : goal.returns-clause-masses
returns-clause-masses g c = c.fill_frames.ensures.masses

pub returns-clause-corners : goal.returns-clause-corners
returns-clause-corners g c = c.fill_frames.ensures.corners

pub returns-clause-fluxes : goal.returns-clause-fluxes
returns-clause-fluxes g c = c.fill_frames.ensures.fluxes

pub returns-clause-boxes : goal.returns-clause-boxes
returns-clause-boxes g c = c.fill_frames.ensures.boxes
