-- The time and the choice are told.
use Rattle.std.proofs.Common.{◌++◌, ◌∙◌, ap, append_assoc, List, ℕ}
use Rattle.verdict.specs.ReachLines.{followed_text}
use Rattle.naming.specs.SearchReach.{choice_line}
use Rattle.naming.proofs.reach.push_reach.Goals as goal

pub returns : goal.returns
returns c =
    let old = c.args.text.now.items in
    let line = choice_line c.args.processes.now c.in_ok-choice.choice in
    record {
      choice = c.in_ok-choice.choice;
      new_is = c.in_ok-push_choice.ensures ∙ (ap (λ (l : List ℕ). l ++ line) c.in_ok-push_followed.ensures ∙ append_assoc old (followed_text c.args.reach.followed_before) line);
    }
