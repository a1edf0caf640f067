-- The most that a module may have, in the profile and in whole designs.
use Rattle.std.specs.Prelude.{ℕ}
use Rattle.model.specs.declared.limits.ModuleLimits.{ModuleLimits}
use Rattle.model.specs.declared.limits.ModuleLimits.TheVariants.{Profile, Whole}

-- the most registers
abbrev pub most_registers : ModuleLimits → ℕ
most_registers Profile = 1024
most_registers Whole = 65536

-- the most processes
abbrev pub most_processes : ModuleLimits → ℕ
most_processes Profile = 256
most_processes Whole = 16384
