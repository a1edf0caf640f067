-- The processes with which a way may be tried.
use Rattle.std.proofs.Common.{◌∙◌, sym, subst}
use Rattle.loosewalks.specs.Attempts.{IsFit}
use Rattle.loosewalks.proofs.Walks.{some_active}
use Rattle.loosewalks.proofs.GoingOn.{found_there}
use Rattle.loosewalks.proofs.attempt.go_by.Goals as goal

pub go_with-requires : goal.go_with-requires
go_with-requires c =
    let m = c.args.machine.now in
    record {
      network = c.requires.network;
      code = c.requires.code;
      active = some_active m.core c.state.result.now c.state.ensures (sym c.is_active.ensures ∙ c.if-not-is_active.false);
      fit = subst (λ l. IsFit c.args.way m c.args.scope.network.now l) (sym c.deref.ensures.value) (found_there _ c.in-Some.members (λ v. IsFit c.args.way m c.args.scope.network.now v.items) c.in-Some.is c.in_ok-members.ensures);
    }
