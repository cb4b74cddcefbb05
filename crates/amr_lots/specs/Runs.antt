-- Runs of a list, lots that are handed one each, and lots with one part changed.
use Rattle.std.specs.Prelude.{ℕ, ◌≡◌, ◌+◌, ◌*◌, ◌/◌, ◌%◌, List, length, take, drop, max, min}
use Rattle.std.specs.Global.{Box, Vec}
use Rattle.amr_ghost.specs.declared.messages.Message.{Message}
use Rattle.amr_patch.specs.declared.patches.Patch.{Patch}
use Rattle.amr_register.specs.declared.edges.EdgeCell.{EdgeCell}
use Rattle.amr_lots.specs.declared.lot.Lot.{Lot}

-- the k-th run of a list in runs of this size, the last of which may be shorter
abbrev pub run : {A : Type 0} → ℕ → ℕ → List A → List A
run size k xs = take size (drop (k * size) xs)

-- ---- how many runs

-- how many runs of so many patches hold n of them
abbrev pub run_count : ℕ → ℕ → ℕ
run_count size n = n / size + min 1 (n % size)

-- where so many lots are wanted of n patches, each has the fewest patches with which that many hold them all; the last may have fewer
abbrev pub lot_size : ℕ → ℕ → ℕ
lot_size wanted n = max 1 (run_count (max 1 wanted) n)

-- so there are as many lots as are wanted, or the fewer that hold all patches. None is empty.
abbrev pub lot_count : ℕ → ℕ → ℕ
lot_count wanted n = run_count (lot_size wanted n) n

-- ---- a lot with other parts

abbrev pub with_patches : Vec Patch → Lot → Lot
with_patches patches lot = record lot { patches = patches }

-- with other patches that keep masses
abbrev pub with_before : Vec Patch → Lot → Lot
with_before before lot = record lot { before = before }

abbrev pub with_edges : Vec (Vec EdgeCell) → Lot → Lot
with_edges edges lot = record lot { edges = edges }

abbrev pub with_messages : Vec Message → Vec Message → Lot → Lot
with_messages outbox inbox lot = record lot { workspace = record lot.workspace { outbox = outbox; inbox = inbox } }

abbrev pub with_outbox : Vec Message → Lot → Lot
with_outbox outbox lot = record lot { workspace = record lot.workspace { outbox = outbox } }

-- ---- what stays

-- all but its patches is as before
abbrev pub KeepOthers : Box Lot → Box Lot → Type 0
KeepOthers a b = b.value ≡ with_patches b.value.patches a.value

-- all but the register cells of its patches
abbrev pub KeepAllButEdges : Box Lot → Box Lot → Type 0
KeepAllButEdges a b = b.value ≡ with_edges b.value.edges a.value

-- all but the patches that keep masses
abbrev pub KeepAllButBefore : Box Lot → Box Lot → Type 0
KeepAllButBefore a b = b.value ≡ with_before b.value.before a.value

-- a lot has a message for each of so many lots, and one from each
abbrev pub HasBoxes : ℕ → Box Lot → Type 0
HasBoxes count x = (length x.value.workspace.outbox.items ≡ count) × (length x.value.workspace.inbox.items ≡ count)

-- all but its messages is as before, and it has as many messages
pub record IsDelivered (a b : Lot) : Type 0 where
  pub others : b ≡ with_messages b.workspace.outbox b.workspace.inbox a
  pub outbox : length b.workspace.outbox.items ≡ length a.workspace.outbox.items
  pub inbox : length b.workspace.inbox.items ≡ length a.workspace.inbox.items

abbrev pub KeepAllButMessages : Box Lot → Box Lot → Type 0
KeepAllButMessages a b = IsDelivered a.value b.value
