use Rattle.std.proofs.Common.{◌≡◌, rules}
use Rattle.std.proofs.lemmas.Fn.{always_returns_same}
use Rattle.std.proofs.lemmas.List.Sorted.{IsNonDecreasingBy-from_sort_by_key}
use Rattle.std.proofs.lemmas.Result.{on_ok_weaker}
use Rattle.loose.specs.Classes.{class_in}
use Rattle.statekeys.proofs.Classes.{stable_kept}
use Rattle.statekeys.proofs.class_keys.sort_by_class.Goals as goal

pub returns-clause-in_order : goal.returns-clause-in_order
returns-clause-in_order c k =
    stable_kept (λ u. class_in c.args.classes.now u.register) k _ _
    (c.sort_by_key.ensures.stable (λ u. class_in c.args.classes.now u.register)
    (always_returns_same _ (λ a r. r ≡ class_in c.args.classes.now a.0.now.register) _ (λ a r q called. search rules)))

pub returns-clause-rising : goal.returns-clause-rising
returns-clause-rising c =
    on_ok_weaker c.sort_by_key.result
    (λ sorted. IsNonDecreasingBy-from_sort_by_key (λ u. class_in c.args.classes.now u.register) _ sorted (λ a r q called. search rules))
    c.sort_by_key.ensures.sorted
