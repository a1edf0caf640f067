use Rattle.std.proofs.Common.{map}
use Rattle.loosesteps.specs.Choices.{AreGathered, evaluation_transition}
use Rattle.loosesteps.proofs.choices.add_evaluations.Given as goal

abbrev pub invariant-loop-evaluation : goal.invariant-loop-evaluation
invariant-loop-evaluation l =
    AreGathered l.fn.choices.items (map evaluation_transition (map (λ e. e.now) l.yielded)) l.choices.items
