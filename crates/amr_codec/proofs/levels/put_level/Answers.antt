use Rattle.std.proofs.Common.{◌++◌, List, length, ap, ◌∙◌}
use Rattle.std.specs.Int.{w32}
use Rattle.std.specs.List.{flat_map}
use Rattle.amr_box.specs.Cells.{Extent}
use Rattle.amr_patch.specs.Levels.{level_of}
use Rattle.amr_payload.specs.Payload.{box_bytes, level_bytes, number_bytes}
use Rattle.amr_codec.specs.Forms.{form_of}
use Rattle.amr_codec.proofs.Appending.{put_twice}
use Rattle.amr_codec.proofs.levels.put_level.Goals as goal

pub returns : goal.returns
unfolding level_bytes
returns c =
    let k = level_of c.args.level.now in
    let out = c.args.out.now.items in
    put_twice out c.put_count_of_boxes.new.out.items c.put_boxes.new.out.items (number_bytes w32 (length k.boxes)) (flat_map (box_bytes (form_of c.args.form.now) k.masses) k.boxes)
    (c.in_ok-put_count_of_boxes.ensures ∙ ap (λ (bs : List Extent). out ++ number_bytes w32 (length bs)) c.boxes.ensures)
    c.in_ok-put_boxes.ensures
