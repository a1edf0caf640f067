-- One process more.
use Rattle.std.proofs.Common.{rules, ◌≡◌, ◌++◌, ◌∷◌, [], ⊎_elim, Option, Some, subst, sym, ◌∙◌}
use Rattle.std.specs.Prelude.{slice_get, IfSome}
use Rattle.combinational.specs.declared.block.Logic.{Logic}
use Rattle.combinational.specs.Found.{HasLogic}
use Rattle.combinational.proofs.Places.{pushed}
use Rattle.combinational.proofs.network.logics_of.Goals as goal

pub loop-process-preserved : goal.loop-process-preserved
loop-process-preserved c =
    let old = c.loop-process.logics.items in
    let found = c.in_ok-logic_of.field-0 in
    let code = c.args.design.now in
    let items : c.push.new.self.items ≡ old ++ found ∷ [] = search rules in
    let new : IfSome found (HasLogic code c.loop-process.process) = search rules in
    record {
      each = λ p logic there.
          ⊎_elim (λ before. c.loop-process.invariant.each p logic before)
          (λ last.
          let here : p ≡ c.loop-process.process = last.0 ∙ c.loop-process.invariant.count in
          subst (λ n. HasLogic code n logic) (sym here) (subst (λ (o : Option Logic). IfSome o (HasLogic code c.loop-process.process)) last.1 new))
          (pushed old found (Some logic) p (subst (λ xs. slice_get xs p ≡ Some (Some logic)) items there));
      count = search rules;
    }
