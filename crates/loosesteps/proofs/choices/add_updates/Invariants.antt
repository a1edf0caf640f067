use Rattle.std.proofs.Common.{map}
use Rattle.loose.specs.Classes.{class_in}
use Rattle.loosesteps.specs.Choices.{AreGathered, update_transition}
use Rattle.loosesteps.proofs.choices.add_updates.Given as goal

abbrev pub invariant-loop-update : goal.invariant-loop-update
invariant-loop-update l =
    AreGathered l.fn.choices.items (map (update_transition (class_in l.classes)) (map (λ u. u.now) l.yielded)) l.choices.items
