use Rattle.std.proofs.Common.{rules, [], ◌∷◌, ◌∙◌, reverse, refl, sym, ap}
use Rattle.design.specs.ExpressionSteps.{below}
use Rattle.turn.specs.Evaluate.{vectors}
use Rattle.turn.proofs.Runs.{ran_first, ran_empty}
use Rattle.turn.proofs.evaluate.compute.Goals as goal

pub returns-in_ok-go_on-in-Some-clause-value : goal.returns-in_ok-go_on-in-Some-clause-value
returns-in_ok-go_on-in-Some-clause-value g c = λ all.
    (reverse c.args.stack.now.rest.items, (vectors c.go_on.new.stack, (refl, ran_first c.args.ops.now c.in-Some.first.now c.in-Some.others.now _ _ _ _ _ (vectors c.start.new.stack) _ _ _ c.in-Some.ensures.cases.0 all c.in_ok-start-in-Some.ensures.acts c.in_ok-go_on-in-Some.ensures.ran)))

pub returns-in_ok-go_on-in-Some-clause-rest : goal.returns-in_ok-go_on-in-Some-clause-rest
returns-in_ok-go_on-in-Some-clause-rest g c = λ values all holds.
    let ran = ran_first c.args.ops.now c.in-Some.first.now c.in-Some.others.now _ _ (reverse c.args.stack.now.rest.items) _ _ (vectors c.start.new.stack) _ _ (vectors c.go_on.new.stack) c.in-Some.ensures.cases.0 all c.in_ok-start-in-Some.ensures.acts c.in_ok-go_on-in-Some.ensures.ran in
    ap below (sym (ran.stack values holds))

pub returns-in-None-clause-value : goal.returns-in-None-clause-value
returns-in-None-clause-value g c = λ all.
    let st = c.pop-stack.result ∷ [] in
    (st, (st, (refl, ran_empty c.args.ops.now c.args.memory.now.known c.args.memory.now.reads.entries st c.in-None.ensures.cases)))

pub returns-in_ok-go_on-in-Some-clause-reads : goal.returns-in_ok-go_on-in-Some-clause-reads
returns-in_ok-go_on-in-Some-clause-reads g c =
    let first = c.in_ok-start-in-Some.ensures.reads in
    let others = c.in_ok-go_on-in-Some.ensures.reads in
    record {
      gave = λ had. others.gave (first.gave had);
      keeps = λ r s h. others.keeps r s (first.keeps r s h);
      lasting = others.lasting ∙ first.lasting;
    }

pub returns-in_err-go_on-in-Some-clause-reads : goal.returns-in_err-go_on-in-Some-clause-reads
returns-in_err-go_on-in-Some-clause-reads g c =
    let first = c.in_ok-start-in-Some.ensures.reads in
    let others = c.in_err-go_on-in-Some.ensures.reads in
    record {
      gave = search rules;
      keeps = λ r s h. others.keeps r s (first.keeps r s h);
      lasting = others.lasting ∙ first.lasting;
    }
