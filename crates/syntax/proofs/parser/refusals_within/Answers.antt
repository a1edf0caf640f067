-- One refusal more is kept.
use Rattle.std.proofs.Common.{◌+◌, ◌≤◌, length, length-append, sym, ◌∙◌, ap, subst, arith}
use Rattle.std.proofs.lemmas.List.Elements.{All-push}
use Rattle.syntax.specs.Faults.{AreInText}
use Rattle.syntax.proofs.parser.refusals_within.Goals as goal

pub loop-refusal-preserved : goal.loop-refusal-preserved
loop-refusal-preserved c =
    record {
      within = subst (λ xs. AreInText c.args.all xs) (sym c.in_ok-push.ensures.items) (All-push (λ r. r.token ≤ c.args.all) _ _ c.loop-refusal.invariant.within (omega arith));
      each = ap (λ xs. length xs) c.in_ok-push.ensures.items ∙ length-append c.loop-refusal.kept.items _ ∙ ap (λ n. n + 1) c.loop-refusal.invariant.each;
    }
