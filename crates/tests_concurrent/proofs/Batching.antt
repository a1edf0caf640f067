-- Turns that one seat evaluates one after another, which stay offered while it reads on.
use Rattle.std.proofs.Common.{◌≡◌, ℕ, ◌<◌, List, [], ◌∷◌, ◌++◌, length, arith}
use Rattle.logic4.specs.Vector.{Vector}
use Rattle.design.specs.Compiled.{Compiled}
use Rattle.turn.specs.declared.memory.Seen.{Seen}
use Rattle.turn.specs.TurnLogs.{LogView}
use Rattle.turn.specs.TurnAnswers.{IsTurnLog}
use Rattle.turn.specs.Reads.{GaveAll, KeepsGiven}
use Rattle.runstate.specs.Histories.{IsRead}
use Rattle.commitgate.specs.Tickets.{TicketView, most_tries}
use Rattle.commitgate.specs.Batches.{AreOffered}

gave_kept : (before after : ℕ → Seen → Type 0) (reads : List (ℕ × Seen)) → KeepsGiven before after → GaveAll before reads → GaveAll after reads
gave_kept before after [] keeps gave = tt
gave_kept before after (d ∷ ds) keeps gave = (keeps d.0 d.1 gave.0, gave_kept before after ds keeps gave.1)

-- one more turn is offered, with its log behind those of the others, where what was read before stays read
pub offered_more : (code : Compiled) (before after : List (List Vector)) (tickets : List TicketView) (ticket : TicketView) (logs : List LogView) (log : LogView)
    → length tickets ≡ length logs → KeepsGiven (IsRead code before) (IsRead code after) → AreOffered code before tickets logs
    → ticket.tries < most_tries → IsTurnLog code ticket.state ticket.time log → GaveAll (IsRead code after) log.reads
    → AreOffered code after (tickets ++ ticket ∷ []) (logs ++ log ∷ [])
offered_more code before after [] ticket [] log same keeps o tries turn gave = (tries, turn, gave, tt)
offered_more code before after [] ticket (l ∷ ls) log same keeps o tries turn gave = absurd (omega (arith, same))
offered_more code before after (t ∷ ts) ticket [] log same keeps o tries turn gave = absurd o
offered_more code before after (t ∷ ts) ticket (l ∷ ls) log same keeps o tries turn gave =
    (o.0, o.1, gave_kept (IsRead code before) (IsRead code after) l.reads keeps o.2, offered_more code before after ts ticket ls log (omega (arith, same)) keeps o.3 tries turn gave)
