-- Which entries are told where registers are asked for.
use Rattle.std.specs.Borrow.{Bor}
use Rattle.std.specs.Prelude.{ℕ, Bool, true, List, [], ◌∷◌, ◌++◌, map, option_map, Option, Some, None}
use Rattle.std.specs.List.{list_any}
use Rattle.model.specs.Turns.{contains}
use Rattle.steps.specs.declared.entry_account.EntryActor.{EntryActor}
use Rattle.steps.specs.declared.entry_account.EntryActor.TheVariants as actors
use Rattle.steps.specs.Accounts.{Account}

-- the registers that are asked for, where any are
abbrev pub wanted_registers : Option (Bor (List ℕ)) → Option (List ℕ)
wanted_registers = option_map (λ list. list.now)

-- the register of an update
abbrev pub updated_registers : EntryActor → List ℕ
updated_registers (actors.Turn p) = []
updated_registers (actors.Update r v) = r ∷ []
updated_registers actors.Regions = []

-- the registers that the line of an entry names: that of its update, and those that its turn reads, changes and assigns
abbrev pub line_registers : Account → List ℕ
line_registers a =
    updated_registers a.actor ++ map (λ r. r.register) a.reads ++ map (λ c. c.register) a.changes ++ map (λ n. n.reg) a.assigned

-- whether an entry is told: its line names one of the registers that are asked for, or none are
abbrev pub is_wanted : Option (List ℕ) → Account → Bool
is_wanted None a = true
is_wanted (Some registers) a = list_any (contains registers) (line_registers a)
