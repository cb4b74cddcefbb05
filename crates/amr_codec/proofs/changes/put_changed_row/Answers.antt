use Rattle.std.proofs.Common.{◌++◌, ℕ, List, ap, ◌∙◌}
use Rattle.std.specs.Int.{w8, w32}
use Rattle.std.specs.List.{flat_map, range_with_len}
use Rattle.std.proofs.lemmas.Bool.{both_ways}
use Rattle.std.proofs.lemmas.Result.{on_ok_weaker}
use Rattle.amr_box.specs.Cells.{width}
use Rattle.amr_patch.specs.BoxRows.{mass_in}
use Rattle.amr_patch.specs.Levels.{level_of}
use Rattle.amr_payload.specs.Payload.{number_bytes}
use Rattle.amr_codec.specs.Forms.{masses_before}
use Rattle.amr_codec.proofs.Appending.{put_twice}
use Rattle.amr_codec.proofs.KeptRows.{kept_bytes, new_bytes}
use Rattle.amr_codec.proofs.changes.put_changed_row.Goals as goal

pub returns-then-keeps_row : goal.returns-then-keeps_row
returns-then-keeps_row c =
    let same = kept_bytes (masses_before c.args.old) (level_of c.args.level.now).masses c.args.b.now c.args.row (c.keeps_row.ensures.0 c.if-keeps_row.true) in
    on_ok_weaker c.put_flag.result (λ put. put ∙ ap (λ (bs : List ℕ). c.args.out.now.items ++ bs) same) c.put_flag.ensures

pub returns : goal.returns
returns c =
    let level = c.args.level.now in
    let b = c.args.b.now in
    let row = c.args.row in
    let out = c.args.out.now.items in
    let masses : List ℕ = flat_map (λ i. number_bytes w32 (mass_in level b row i)) (range_with_len 0 (width b)) in
    let same = new_bytes (masses_before c.args.old) (level_of level).masses b row (λ kept. both_ways c.keeps_row.result c.if-keeps_row.false (c.keeps_row.ensures.1 kept)) in
    on_ok_weaker c.put_row.result
    (λ put. put_twice out c.put_flag-2.new.out.items c.put_row.new.out.items (number_bytes w8 1) masses c.in_ok-put_flag.ensures put ∙ ap (λ (bs : List ℕ). out ++ bs) same) c.put_row.ensures
