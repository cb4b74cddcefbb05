-- The log taken again, from its first step on.
use Rattle.std.proofs.Common.{◌≡◌, ◌∙◌, sym, ◌+◌, ◌≤◌, ℕ, List, [], take, drop, length, Vec, Global, vec_len, vec_capacity, arith}
use Rattle.std.proofs.Common.{refl, subst, replicate}
use Rattle.std.proofs.lemmas.List.{take_all, drop_all, length-replicate}
use Rattle.amr_disk.specs.Calls.{Call, left_after, Leaves, LeavesAt}
use Rattle.amr_disk.specs.Image.{Torn, placed}
use Rattle.amr_disk.specs.Replay.{torn_same, torn_written, torn_placed, left_is_image}
use Rattle.amr_disk.specs.declared.leave.Leave.TheVariants.{Old, New, Filled}
use Rattle.amr_disk.specs.declared.leave.Leave.{Leave}
use Rattle.amr_disk.specs.declared.memory.MemDisk.{MemDisk}
use Rattle.amr_disk.specs.Left.{part_of}
use Rattle.amr_disk.specs.Log.{calls_of, size_of, reach_of}
use Rattle.amr_disk.specs.Memory.{made_of, calls_in}

-- after k steps of the disk's log: what is left of the whole is what the rest leaves from here on
pub record IsLeft (mode : Leave) (disk : MemDisk) (made image : Vec ℕ Global) (start k : ℕ) : Type 0 where
  pub left : left_after (part_of mode) image.items made.items (calls_of (drop k disk.steps.items) (drop start disk.written.items)) ≡ left_after (part_of mode) (made_of disk) (made_of disk) (calls_in disk)
  pub size : start + size_of (drop k disk.steps.items) ≡ length disk.written.items
  pub reach : reach_of (drop k disk.steps.items) ≤ disk.capacity
  pub made_fits : vec_len made ≤ disk.capacity
  pub image_fits : vec_len image ≤ disk.capacity
  pub made_room : disk.capacity ≤ vec_capacity made
  pub image_room : disk.capacity ≤ vec_capacity image

part_torn : (mode : Leave) (at : ℕ) (bytes old : List ℕ) → Torn at (length bytes) old (part_of mode at bytes old)
part_torn Old at bytes old = torn_same at (length bytes) old
part_torn New at bytes old = torn_written at bytes old
part_torn (Filled byte) at bytes old =
    subst (λ (n : ℕ). Torn at n old (placed byte at (replicate (length bytes) byte) old)) (length-replicate (length bytes) byte) (torn_placed byte at (replicate (length bytes) byte) old)

-- what is left is one of the images that a stop may leave
pub possible : (mode : Leave) (made : List ℕ) (calls : List Call) (image : List ℕ) → image ≡ left_after (part_of mode) made made calls → LeavesAt made calls (length calls) image
possible mode made calls image is =
    let whole : take (length calls) calls ≡ calls = take_all (length calls) calls (omega arith) in
    subst (λ (l : List Call). Leaves (λ x. x ≡ made) made l image) (sym whole)
    (subst (λ (x : List ℕ). Leaves (λ y. y ≡ made) made calls x) (sym is) (left_is_image (part_of mode) (part_torn mode) (λ x. x ≡ made) made made calls refl))

-- the whole log was taken
pub ended : (mode : Leave) (disk : MemDisk) (made image : Vec ℕ Global) (start k : ℕ) → IsLeft mode disk made image start k → length disk.steps.items ≤ k → image.items ≡ left_after (part_of mode) (made_of disk) (made_of disk) (calls_in disk)
ended mode disk made image start k run all =
    let none : drop k disk.steps.items ≡ [] = drop_all k disk.steps.items all in
    let rest : left_after (part_of mode) image.items made.items (calls_of (drop k disk.steps.items) (drop start disk.written.items)) ≡ image.items = rw none refl in
    sym rest ∙ run.left
