-- Slots of processes: each stands for some that follow one another, so that there are at most 256 slots.
use Rattle.std.specs.Prelude.{ℕ, ◌/◌, nat_le, if◌then◌else◌}

-- how many processes a slot stands for, where there are this many processes: as few, among the powers of 2, as leave at most 256 slots
unfoldable pub slot_size : ℕ → ℕ
slot_size processes =
    if nat_le processes 256 then 1
    else (if nat_le processes 512 then 2
    else (if nat_le processes 1024 then 4
    else (if nat_le processes 2048 then 8
    else (if nat_le processes 4096 then 16
    else (if nat_le processes 8192 then 32
    else 64)))))

-- the slot of a process
abbrev pub slot_of : ℕ → ℕ → ℕ
slot_of processes p = p / slot_size processes
