-- One scope more.
use Rattle.program.proofs.Subjects.{scope_more}
use Rattle.program.proofs.waving.dump_scopes.Goals as goal

pub loop-scope-preserved : goal.loop-scope-preserved
loop-scope-preserved c =
    scope_more c.args.scopes.now c.loop-scope.scope-index c.scope-item.result c.loop-scope.shown.items c.push.new.self.items c.as_str.result c.loop-scope-test.true c.scope-item.is c.loop-scope.invariant c.as_str.ensures.value
    c.in_ok-push.ensures.items
