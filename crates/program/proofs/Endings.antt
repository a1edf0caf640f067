-- That a run which may end in a way has ended.
use Rattle.std.specs.Prelude.{Option, Some, None, IsSomeAnd, List}
use Rattle.model.specs.declared.end.End.{End}
use Rattle.model.specs.declared.end.End.TheVariants.{Quiet, Running, Stopped}
use Rattle.model.specs.declared.end.Limits.{Limits}
use Rattle.model.specs.declared.entry.Entry.{Entry}
use Rattle.model.specs.Design.{Design}
use Rattle.model.specs.States.{State}
use Rattle.model.specs.Runs.{after, Ends}
use Rattle.program.specs.Program.{IsEnded}

never : (o : Option State) → IsSomeAnd o (λ s. ⊥) → ⊥
never None h = h
never (Some s) h = h

pub ended : (design : Design) (limits : Limits) (journal : List Entry) (end : End) → Ends design limits journal end → IsEnded end
ended design limits journal Quiet h = tt
ended design limits journal Running h = never (after design journal) h
ended design limits journal (Stopped why) h = tt
