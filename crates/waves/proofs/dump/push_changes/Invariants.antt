-- What is still to be put behind the text are the lines of the changes that are left.
use Rattle.std.proofs.Common.{◌≡◌, ◌++◌, drop}
use Rattle.waves.specs.Dump.{changes_text}
use Rattle.waves.proofs.dump.push_changes.Given as goal

abbrev pub invariant-loop-change : goal.invariant-loop-change
invariant-loop-change l =
    l.text.items ++ changes_text l.standing (drop l.change-index l.wave.changes.items) l.wave.end
    ≡ l.fn.text.items ++ changes_text 0 l.wave.changes.items l.wave.end
