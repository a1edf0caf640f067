-- Changes as they are noted, and whom they may wake.
use Rattle.std.specs.Prelude.{Bool, ◌==◌, if◌then◌else◌, List, length}
use Rattle.std.specs.List.{list_any}
use Rattle.model.specs.Design.{Trigger}
use Rattle.model.specs.Turns.{contains}
use Rattle.model.specs.States.{wakes}
use Rattle.footprints.specs.Footprints.{RegisterChange}
use Rattle.certificates.specs.declared.changes.NotedChange.{NotedChange}
use Rattle.certificates.specs.Masks.{registers_of}

-- a change of the definitions for one that was noted
abbrev pub register_change_of : NotedChange → RegisterChange
register_change_of c = record { register = c.register; before = c.before; after = c.after }

-- Whether a change may wake somebody who waits for these events: where it matches one, or where the widths of its values differ, and one is
-- of its register.
abbrev pub may_wake : List Trigger → RegisterChange → Bool
may_wake triggers c =
    if length c.before == length c.after then wakes triggers c.register c.before c.after else contains (registers_of triggers) c.register

-- whether one of these changes may do so
abbrev pub may_wake_any : List Trigger → List RegisterChange → Bool
may_wake_any triggers changes = list_any (λ c. may_wake triggers c) changes
