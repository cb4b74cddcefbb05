use Rattle.std.proofs.Common.{◌≡◌, ◌++◌, ℕ, List, length, drop, get_or, subst, sym, ap, ◌∙◌, arith}
use Rattle.std.specs.Int.{w8, w32}
use Rattle.std.specs.List.{flat_map}
use Rattle.std.proofs.lemmas.List.{length-map}
use Rattle.amr_def.specs.Facts.{IsLevel}
use Rattle.amr_def.specs.State.{Level, no_level}
use Rattle.amr_patch.specs.Levels.{level_of}
use Rattle.amr_patch.specs.Meshes.{state_of}
use Rattle.amr_payload.specs.Payload.{levels_bytes, number_bytes, row_bytes, state_bytes}
use Rattle.amr_codec.specs.Forms.{basis_of}
use Rattle.amr_codec.proofs.Appending.{put_twice}
use Rattle.amr_codec.proofs.encoders.put_state.Goals as goal

pub put_levels-requires-clause-few : goal.put_levels-requires-clause-few
put_levels-requires-clause-few c =
    let s = state_of c.args.mesh.now in
    let count : length c.levels-levels.result.now ≡ length s.levels = sym (length-map c.levels-levels.result.now level_of) ∙ ap length c.levels-levels.ensures.levels in
    omega (arith, count, c.requires.sound.few_levels, c.args.p.now.limits.greatest_max_level)

pub put_levels-requires-clause-levels : goal.put_levels-requires-clause-levels
put_levels-requires-clause-levels c l below =
    let s = state_of c.args.mesh.now in
    let count : length c.levels-levels.result.now ≡ length s.levels = sym (length-map c.levels-levels.result.now level_of) ∙ ap length c.levels-levels.ensures.levels in
    subst (λ (ks : List Level). IsLevel c.args.p.now l (get_or ks l no_level)) (sym c.levels-levels.ensures.levels) (c.requires.sound.nested.each l (omega (arith, below, count)))

pub returns : goal.returns
unfolding state_bytes
returns c =
    let s = state_of c.args.mesh.now in
    let on = basis_of c.args.basis.now in
    let o0 = c.args.out.now.items in
    let o1 = c.put_u32.new.out.items in
    let o2 = c.put_ledger.new.out.items in
    let o3 = c.put_count_of_levels.new.out.items in
    let o4 = c.put_levels.new.out.items in
    let count : length c.levels-levels.result.now ≡ length s.levels = sym (length-map c.levels-levels.result.now level_of) ∙ ap length c.levels-levels.ensures.levels in
    let c1 : List ℕ = number_bytes w8 (length s.levels) in
    let d1 : List ℕ = levels_bytes on.forms 0 s.levels in
    let a1 : List ℕ = number_bytes w32 s.step in
    let b1 : List ℕ = flat_map row_bytes (drop (length on.rows) s.rows) in
    let eb : o2 ≡ o1 ++ b1 = c.in_ok-put_ledger.ensures ∙ ap (λ (n : ℕ). o1 ++ flat_map row_bytes (drop n s.rows)) c.rows_before.ensures in
    let ea : o1 ≡ o0 ++ a1 = c.in_ok-put_u32.ensures ∙ ap (λ (n : ℕ). o0 ++ number_bytes w32 n) c.step-step.ensures in
    let ec : o3 ≡ o2 ++ c1 = c.in_ok-put_count_of_levels.ensures ∙ ap (λ (n : ℕ). o2 ++ number_bytes w8 n) count in
    let ed : o4 ≡ o3 ++ d1 = c.in_ok-put_levels.ensures ∙ ap (λ (ks : List Level). o3 ++ levels_bytes on.forms 0 ks) c.levels-levels.ensures.levels in
    let ab : o2 ≡ o0 ++ (a1 ++ b1) = put_twice o0 o1 o2 a1 b1 ea eb in
    let abc : o3 ≡ o0 ++ ((a1 ++ b1) ++ c1) = put_twice o0 o2 o3 (a1 ++ b1) c1 ab ec in
    put_twice o0 o3 o4 ((a1 ++ b1) ++ c1) d1 abc ed
