-- A member of a scope.
use Rattle.statement_parts.proofs.Meant.{member_named}
use Rattle.statement_parts.proofs.targets.event_entity.Goals as goal

pub returns-in-Member : goal.returns-in-Member
returns-in-Member c =
    member_named c.args.design.now c.args.scope c.args.e.now _ _ _ c.deref.result.now c.as_slice-in-Member.result.now c.member_entity.result c.in-Member.is c.deref.ensures c.as_slice-in-Member.ensures.value c.member_entity.ensures
