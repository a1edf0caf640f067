-- What is told of words that make no request.
use Rattle.std.proofs.Common.{refl}
use Rattle.program.specs.declared.fault.CommandFault.TheVariants as fault
use Rattle.program.specs.StandardError.{of_fault, of_words}
use Rattle.program.proofs.Subjects.{usage_wrong}
use Rattle.program.proofs.program.refuse.Goals as goal

pub returns-in-Help-clause-told : goal.returns-in-Help-clause-told
returns-in-Help-clause-told g c = λ words is. of_fault (fault.Files c.in-Err.fault) c.tell_fault.ensures.status c.tell_fault.ensures.told

pub returns-in-Usage-clause-told : goal.returns-in-Usage-clause-told
returns-in-Usage-clause-told g c = λ words is.
    of_words (usage_wrong words c.args.no_request c.in-Usage.text c.in-Usage.is is) refl c.as_str-in-Usage.result.now c.tell_lines.ensures

pub returns-clause-told : goal.returns-clause-told
returns-clause-told g c = λ words is. of_fault fault.Memory c.tell_fault-in-Memory.ensures.status c.tell_fault-in-Memory.ensures.told
