-- One process more, and all of them.
use Rattle.std.proofs.Common.{List, ◌++◌, sym, subst, arith}
use Rattle.std.proofs.lemmas.List.{drop_more}
use Rattle.statement_parts.specs.declared.plain.PlainProcess.{PlainProcess}
use Rattle.call_scopes.proofs.MadeFor.{made_holds}
use Rattle.routines.specs.Designs.{IsAmong, AreMadeForPlaced}
use Rattle.routines.proofs.Making.{one_made, all_made}
use Rattle.routines.proofs.processes.plain_bodies.Goals as goal

pub loop-placed-init : goal.loop-placed-init
loop-placed-init c = λ rest others. subst (λ (ms : List PlainProcess). AreMadeForPlaced (IsAmong c.args.processes.now) c.args.all.now (ms ++ rest)) (sym c.new-made.ensures.items) others

pub loop-placed-preserved : goal.loop-placed-preserved
loop-placed-preserved c =
    one_made (IsAmong c.args.processes.now) c.args.all.now c.loop-placed.placed-index _ c.loop-placed.made.items c.push.new.self.items _ c.in_ok-push.ensures.items
    (drop_more c.args.all.now c.loop-placed.placed-index _ c.loop-placed-test.true) c.in_ok-process.ensures c.loop-placed.invariant

pub returns : goal.returns
returns c = record {
  made = all_made (IsAmong c.args.processes.now) c.args.all.now c.loop-placed.placed-index c.loop-placed.made.items (omega arith) c.loop-placed.invariant;
  distinct = made_holds c.refuse_same_names.result _ _ c.in_ok-made_for.ensures c.refuse_same_names.ensures.apart;
}
