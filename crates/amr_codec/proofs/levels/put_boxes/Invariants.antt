use Rattle.std.proofs.Common.{◌≡◌, ◌++◌, take}
use Rattle.std.specs.List.{flat_map}
use Rattle.amr_patch.specs.Levels.{level_of}
use Rattle.amr_payload.specs.Payload.{box_bytes}
use Rattle.amr_codec.specs.Forms.{form_of}
use Rattle.amr_codec.proofs.levels.put_boxes.Given as goal

-- the boxes so far are put
abbrev pub invariant-loop-b : goal.invariant-loop-b
invariant-loop-b l = l.out.items ≡ l.initial.out.items ++ flat_map (box_bytes (form_of l.form) (level_of l.level).masses) (take l.b-index (level_of l.level).boxes)
