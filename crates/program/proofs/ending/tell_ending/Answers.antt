-- The line of a name tells the name's bytes.
use Rattle.std.proofs.Common.{ℕ, List, subst, sym}
use Rattle.telling.specs.FaultLines.{Tells}
use Rattle.program.specs.ProgramLines.{no_register_line}
use Rattle.program.specs.StandardError.{IsEndingTold}
use Rattle.program.proofs.ending.tell_ending.Goals as goal

pub returns-in-NoRegister : goal.returns-in-NoRegister
returns-in-NoRegister g c =
    let contents = g.E.Write.contents in
    let err = c.args.err.now in
    let told = c.tell-in-NoRegister.new.err in
    subst (IsEndingTold contents err told c.args.option) (sym c.in-NoRegister.is)
    (subst (λ (name : List ℕ). Tells contents err told (no_register_line c.args.option name)) c.as_str-in-NoRegister.ensures.value (subst (Tells contents err told) c.no_register_line.ensures c.tell-in-NoRegister.ensures))
