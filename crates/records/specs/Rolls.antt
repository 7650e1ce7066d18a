-- What a roll holds.
use Rattle.std.specs.Prelude.{◌≡◌, ℕ, min, List, length, take}
use Rattle.records.specs.declared.roll.Roll.{Roll}

-- The records of a roll: those in the first of its slots.
abbrev pub records : {T : Type 0} → Roll T → List T
records r = take r.count r.slots.now

-- How many slots a roll uses: at most 4,096.
abbrev pub room : {T : Type 0} → Roll T → ℕ
room r = min 4096 (length r.slots.now)

-- As many slots as before, and the same ones.
abbrev pub SameSlots : {T : Type 0} → Roll T → Roll T → Type 0
SameSlots old new = (room new ≡ room old) × (new.slots.ghost_name ≡ old.slots.ghost_name)
