-- The answer to a ticket whose turn is evaluated under the lock, to a seat that read nothing before.
use Rattle.std.proofs.Common.{List, [], ◌∷◌, refl, ap}
use mathlib.Core.List.{IsPrefix}
use Rattle.commitgate.specs.Named.{Named}
use Rattle.commitgate.specs.Seats.{SeatView, SeatReadsOn}
use Rattle.commitgate.specs.Tickets.{TicketView}
use Rattle.commitgate.specs.SeatAnswers.{HeldAnsweredTo}
use Rattle.commitgate.specs.declared.reply.Reply.{Reply}
use Rattle.commitgate.specs.declared.reply.Reply.TheVariants.{Accepted, Stale, Gone, Stopped, NoMemory}
use Rattle.regcells.specs.Meetings.{fresh_of}
use Rattle.drive.specs.Leading.{IsReplied}
use Rattle.drive.proofs.driver.DrivenGate.offer.Goals as goal

prefix_self : {A : Type 0} (xs : List A) → IsPrefix xs xs
prefix_self [] = ([], refl)
prefix_self (x ∷ xs) = (let r = prefix_self xs in r.0, ap (λ ys. x ∷ ys) (prefix_self xs).1)

nothing_read : (s : SeatView) → SeatReadsOn s s
nothing_read s = record { worker = refl; seen = refl; positions = refl; stored = refl; rises = λ r. prefix_self (fresh_of s.fresh r) }

held_replied : {A : Type 0} (n : Named) (old : SeatView) (ticket : TicketView) (new : SeatView) (reply : Reply A) → HeldAnsweredTo n old ticket new reply → IsReplied n ticket old new reply
held_replied n old ticket new (Accepted grant) h = h
held_replied n old ticket new (Stale register back) h = absurd h
held_replied n old ticket new Gone h = h
held_replied n old ticket new (Stopped why) h = h
held_replied n old ticket new (NoMemory back) h = tt

pub returns-else-tries-lt-MAX_TRIES : goal.returns-else-tries-lt-MAX_TRIES
returns-else-tries-lt-MAX_TRIES g c = (c.args.seat, nothing_read c.args.seat, held_replied g.K.Naming.named c.args.seat c.args.ticket c.commit_held-reply.new.seat c.commit_held-reply.result c.commit_held-reply.ensures)
