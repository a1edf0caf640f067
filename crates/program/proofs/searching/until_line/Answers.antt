-- The line, or none, by whether it is wanted.
use Rattle.std.proofs.Common.{◌∙◌, ap, sym, Bool, List, [], codes, if◌then◌else◌}
use Rattle.program.proofs.searching.until_line.Goals as goal

pub returns-then-wants_until : goal.returns-then-wants_until
returns-then-wants_until c =
    ap (λ (wanted : Bool). if wanted then codes "a run that never stops wants --until T\n" else []) (sym c.if-wants_until.true ∙ c.wants_until.ensures)

pub returns-else-wants_until : goal.returns-else-wants_until
returns-else-wants_until c =
    ap (λ (wanted : Bool). if wanted then codes "a run that never stops wants --until T\n" else []) (sym c.if-wants_until.false ∙ c.wants_until.ensures)
