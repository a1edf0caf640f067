-- What is still to be put behind the text are the lines of the changes that are left.
use Rattle.std.proofs.Common.{◌≡◌, ◌++◌, drop}
use Rattle.std.specs.List.{filter}
use Rattle.waves.specs.Dump.{changes_text}
use Rattle.waves.specs.ScopedDump.{is_change_shown, shown_changes_text}
use Rattle.waves.proofs.scoped.push_shown_changes.Given as goal

abbrev pub invariant-loop-change : goal.invariant-loop-change
invariant-loop-change l =
    l.text.items ++ changes_text l.standing (filter (is_change_shown l.design.names) (drop l.change-index l.changes)) l.end
    ≡ l.fn.text.items ++ shown_changes_text l.design.names l.changes l.end
