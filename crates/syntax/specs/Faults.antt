-- What is told of a text that isn't read.
use Rattle.std.specs.Prelude.{ℕ, ◌≤◌, ◌⊎◌, List, length, IfSome, IsSome}
use Rattle.std.specs.List.{All}
use Rattle.expression_syntax.specs.declared.refusals.SyntaxRefusal.{SyntaxRefusal}
use Rattle.syntax.specs.declared.parser.SourceParseFault.{SourceParseFault}
use Rattle.syntax.specs.declared.parser.SourceParseFault.TheVariants as told

-- Each refusal names a token of a text of so many, or its end.
abbrev pub AreInText : ℕ → List SyntaxRefusal → Type 0
AreInText n refusals = All (λ r. r.token ≤ n) refusals

-- All that is told names a token of a text of so many, or its end.
abbrev pub IsToldWithin : ℕ → SourceParseFault → Type 0
IsToldWithin n told.Memory = Unit {0}
IsToldWithin n (told.Text faults) = AreInText n faults.refusals.items × IfSome faults.fault (λ fault. fault.token ≤ n)

-- Want of memory is told as such; else something is refused, or there is a fault.
abbrev pub SaysSomething : SourceParseFault → Type 0
SaysSomething told.Memory = Unit {0}
SaysSomething (told.Text faults) = (1 ≤ length faults.refusals.items) ⊎ IsSome faults.fault
