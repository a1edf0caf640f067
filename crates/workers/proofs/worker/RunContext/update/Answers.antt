-- The seat goes on with the updates that it appended, and with what comes behind them. What they granted is put.
use Rattle.std.proofs.Common.{◌≡◌, ◌≤◌, [], length, arith, rules, refl, sym, ◌∙◌, ap, append-nil}
use Rattle.workers.proofs.Seats.{told, goes_then, goes_few}
use Rattle.workers.proofs.Told.{updates_go}
use Rattle.workers.proofs.Kept.{updates_put, updates_none}
use Rattle.workers.proofs.worker.RunContext.update.Goals as goal

pub returns-in-Woke-clause-goes : goal.returns-in-Woke-clause-goes
returns-in-Woke-clause-goes g c =
    let grants = c.update_all.new.grants in
    let few : length grants.items ≤ 16 = omega (arith, grants.ok.0, grants.ok.1, c.update_all.ensures.capacity, c.requires.room) in
    goes_then 0 16 _ _ _ (goes_few 0 (length grants.items) 16 _ _ few (updates_go g.K.Naming.named _ _ _ _ c.update_all.ensures.updates)) c.put_granted-in-Woke.ensures.goes

pub returns-in-Stopped-clause-goes : goal.returns-in-Stopped-clause-goes
returns-in-Stopped-clause-goes g c =
    let grants = c.update_all.new.grants in
    let few : length grants.items ≤ 16 = omega (arith, grants.ok.0, grants.ok.1, c.update_all.ensures.capacity, c.requires.room) in
    goes_few 0 (length grants.items) 16 _ _ few (updates_go g.K.Naming.named _ _ _ _ c.update_all.ensures.updates)

pub returns-in-NoMemory-clause-goes : goal.returns-in-NoMemory-clause-goes
returns-in-NoMemory-clause-goes g c =
    let grants = c.update_all.new.grants in
    let few : length grants.items ≤ 16 = omega (arith, grants.ok.0, grants.ok.1, c.update_all.ensures.capacity, c.requires.room) in
    goes_then 0 16 _ _ _ (goes_few 0 (length grants.items) 16 _ _ few (updates_go g.K.Naming.named _ _ _ _ c.update_all.ensures.updates)) (told g.K.Naming.named _ _ c.stop.ensures).0

pub returns-then-is_empty-clause-goes : goal.returns-then-is_empty-clause-goes
returns-then-is_empty-clause-goes g c =
    let grants = c.update_all.new.grants in
    let few : length grants.items ≤ 16 = omega (arith, grants.ok.0, grants.ok.1, c.update_all.ensures.capacity, c.requires.room) in
    goes_few 0 (length grants.items) 16 _ _ few (updates_go g.K.Naming.named _ _ _ _ c.update_all.ensures.updates)

pub returns-else-is_empty-clause-goes : goal.returns-else-is_empty-clause-goes
returns-else-is_empty-clause-goes g c =
    let grants = c.update_all.new.grants in
    let few : length grants.items ≤ 16 = omega (arith, grants.ok.0, grants.ok.1, c.update_all.ensures.capacity, c.requires.room) in
    goes_then 0 16 _ _ _ (goes_few 0 (length grants.items) 16 _ _ few (updates_go g.K.Naming.named _ _ _ _ c.update_all.ensures.updates)) c.put_granted.ensures.goes

pub returns-in-Woke-clause-keeps : goal.returns-in-Woke-clause-keeps
returns-in-Woke-clause-keeps g c on placed row k =
    let put = c.put_granted-in-Woke in
    updates_put g.K.Naming.named placed c.args.seat.now c.update_all.new.seat put.new.seat _ c.args.owner.now put.new.owner row _ c.update_all.ensures.updates
    (put.ensures.kept on) (put.ensures.all on) put.ensures.puts.1 k

pub returns-else-is_empty-clause-keeps : goal.returns-else-is_empty-clause-keeps
returns-else-is_empty-clause-keeps g c on placed row k =
    let put = c.put_granted in
    updates_put g.K.Naming.named placed c.args.seat.now c.update_all.new.seat put.new.seat _ c.args.owner.now put.new.owner row _ c.update_all.ensures.updates
    (put.ensures.kept on) (put.ensures.all on) put.ensures.puts.1 k

pub returns-then-is_empty-clause-keeps : goal.returns-then-is_empty-clause-keeps
returns-then-is_empty-clause-keeps g c placed row k =
    updates_none g.K.Naming.named placed c.args.seat.now c.update_all.new.seat _ c.args.owner.now row _ c.update_all.ensures.updates (search rules) k

pub returns-then-is_empty-clause-none : goal.returns-then-is_empty-clause-none
returns-then-is_empty-clause-none g c =
    let grants = c.update_all.new.grants in
    let none : length grants.items ≤ 0 = search rules in
    goes_few 0 (length grants.items) 0 _ _ none (updates_go g.K.Naming.named _ _ _ _ c.update_all.ensures.updates)
