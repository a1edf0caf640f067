-- The turn is committed, is too long, or is evaluated under the lock.
use Rattle.std.proofs.Common.{[], ◌∷◌, sym, subst, arith}
use Rattle.turn.specs.TurnAnswers.{IsNoTurn}
use Rattle.turn.specs.declared.log.FillFault.{FillFault}
use Rattle.turn.specs.declared.log.FillFault.TheVariants.{TooLong}
use Rattle.workers.proofs.Seats.{goes_read, told}
use Rattle.workers.proofs.Told.{answered, long_answered, held_answered, first_on, on_then}
use Rattle.workers.proofs.Kept.{settled, kept_read, answered_deals, long_deals, held_deals}
use Rattle.workers.proofs.worker.RunContext.serve.Goals as goal

pub returns-in-Ok-clause-goes : goal.returns-in-Ok-clause-goes
returns-in-Ok-clause-goes g c =
    on_then _ _ _
    (first_on _ _ _ (goes_read _ _ c.evaluate.ensures.reads_on) (answered g.K.Naming.named _ c.evaluate.new.seat c.args.ticket _ c.commit-reply.new.seat _ c.commit-reply.ensures))
    c.finish.ensures.goes

pub returns-in-Err-TooLong-clause-goes : goal.returns-in-Err-TooLong-clause-goes
returns-in-Err-TooLong-clause-goes g c =
    on_then _ _ _
    (first_on _ _ _ (goes_read _ _ c.evaluate.ensures.reads_on) (long_answered g.K.Naming.named c.evaluate.new.seat c.args.ticket _ c.too_long-reply.new.seat _ c.too_long-reply.ensures))
    c.finish-in-Err-TooLong.ensures.goes

pub returns-in-Err-Memory-clause-goes : goal.returns-in-Err-Memory-clause-goes
returns-in-Err-Memory-clause-goes g c =
    first_on _ _ _ (goes_read _ _ c.evaluate.ensures.reads_on) (0, omega arith, (told g.K.Naming.named _ _ c.stop.ensures).0)

pub too_long-reply-requires-clause-turn : goal.too_long-reply-requires-clause-turn
too_long-reply-requires-clause-turn g c =
    let code = g.K.Naming.named.code in
    let ticket = c.args.ticket in
    let turn = subst (λ (fault : FillFault). IsNoTurn code ticket.state ticket.time c.evaluate.new.log.reads fault) c.in-Err-TooLong.field-0-is c.in-Err-TooLong.ensures.turn in
    subst (λ reads. IsNoTurn code ticket.state ticket.time reads TooLong) (sym c.reads.ensures) turn

pub returns-in-Ok-clause-keeps : goal.returns-in-Ok-clause-keeps
returns-in-Ok-clause-keeps g c on placed row k =
    let n = g.K.Naming.named in
    settled n placed c.evaluate.new.seat c.commit-reply.new.seat c.finish.new.seat c.args.owner.now c.finish.new.owner row c.args.ticket [] _
    (answered_deals n _ c.evaluate.new.seat c.args.ticket _ c.commit-reply.new.seat _ c.commit-reply.ensures) (c.finish.ensures.settled on) (c.finish.ensures.kept on) (c.finish.ensures.all on) c.finish.ensures.puts.1
    (kept_read n placed c.args.seat.now c.evaluate.new.seat c.args.owner.now row [] (c.args.ticket ∷ []) c.evaluate.ensures.reads_on k)

pub returns-in-Err-TooLong-clause-keeps : goal.returns-in-Err-TooLong-clause-keeps
returns-in-Err-TooLong-clause-keeps g c on placed row k =
    let n = g.K.Naming.named in
    let finish = c.finish-in-Err-TooLong in
    settled n placed c.evaluate.new.seat c.too_long-reply.new.seat finish.new.seat c.args.owner.now finish.new.owner row c.args.ticket [] _
    (long_deals n c.evaluate.new.seat c.args.ticket _ c.too_long-reply.new.seat _ c.too_long-reply.ensures) (finish.ensures.settled on) (finish.ensures.kept on) (finish.ensures.all on) finish.ensures.puts.1
    (kept_read n placed c.args.seat.now c.evaluate.new.seat c.args.owner.now row [] (c.args.ticket ∷ []) c.evaluate.ensures.reads_on k)

pub returns-else-tries-lt-MAX_TRIES-clause-goes : goal.returns-else-tries-lt-MAX_TRIES-clause-goes
returns-else-tries-lt-MAX_TRIES-clause-goes g c =
    on_then _ _ _ (held_answered g.K.Naming.named c.args.seat.now c.args.ticket c.commit_held-reply.new.seat _ c.commit_held-reply.ensures) c.finish-else-tries-lt-MAX_TRIES.ensures.goes

pub returns-else-tries-lt-MAX_TRIES-clause-keeps : goal.returns-else-tries-lt-MAX_TRIES-clause-keeps
returns-else-tries-lt-MAX_TRIES-clause-keeps g c on placed row k =
    let n = g.K.Naming.named in
    settled n placed c.args.seat.now c.commit_held-reply.new.seat c.finish-else-tries-lt-MAX_TRIES.new.seat c.args.owner.now c.finish-else-tries-lt-MAX_TRIES.new.owner row c.args.ticket [] _
    (held_deals n c.args.seat.now c.args.ticket c.commit_held-reply.new.seat _ c.commit_held-reply.ensures) (c.finish-else-tries-lt-MAX_TRIES.ensures.settled on) (c.finish-else-tries-lt-MAX_TRIES.ensures.kept on) (c.finish-else-tries-lt-MAX_TRIES.ensures.all on) c.finish-else-tries-lt-MAX_TRIES.ensures.puts.1 k
