-- Whether the map of what was read has the register.
use Rattle.std.proofs.Common.{ℕ, List, ◌∙◌, ap}
use Rattle.std.specs.Prelude.{◌==◌}
use Rattle.std.specs.List.{list_any}
use Rattle.turn.specs.declared.memory.Seen.{Seen}
use Rattle.turn.specs.Reads.{registers}
use Rattle.accesses.proofs.Leading.{looked_up}
use Rattle.accesses.proofs.accesses.reads.Goals as goal

pub returns : goal.returns
returns c =
    c.contains_key.ensures
    ∙ (looked_up (λ k. c.args.register == k) c.reads.result.now.entries
    ∙ ap (λ (es : List (ℕ × Seen)). list_any (λ u. c.args.register == u) (registers es)) c.reads.ensures)
