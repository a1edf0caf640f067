use Rattle.std.proofs.Common.{◌≡◌, rules}
use Rattle.std.proofs.lemmas.Fn.{always_returns_same}
use Rattle.std.proofs.lemmas.List.Sorted.{answers_always, IsNonDecreasingBy-from_sort, IsNonDecreasingBy-from_sort_by_key}
use Rattle.loose.specs.Classes.{class_in}
use Rattle.statekeys.proofs.Classes.{kept_twice, rising_twice}
use Rattle.statekeys.proofs.class_keys.sort_future.Goals as goal

pub returns-clause-in_order : goal.returns-clause-in_order
returns-clause-in_order c =
    kept_twice (class_in c.args.classes.now) _ _ _
    (c.sort_by_key.ensures.stable (λ d. class_in c.args.classes.now d.event.register)
    (always_returns_same _ (λ a r. r ≡ class_in c.args.classes.now a.0.now.event.register) _ (λ a r q called. search rules)))
    (c.sort_by_key-2.ensures.stable (λ d. d.time) (answers_always _ _ _ (λ f a r next called. search rules)))

pub returns-clause-in_time : goal.returns-clause-in_time
returns-clause-in_time c =
    IsNonDecreasingBy-from_sort (λ d. d.time) _ (c.in_ok-sort_by_key-2.ensures.sorted (λ d. d.time) (answers_always _ _ _ (λ f a r next called. search rules)))

pub returns-clause-rising : goal.returns-clause-rising
returns-clause-rising c =
    rising_twice (class_in c.args.classes.now) _ _
    (IsNonDecreasingBy-from_sort_by_key (λ d. class_in c.args.classes.now d.event.register) _ c.in_ok-sort_by_key.ensures.sorted (λ a r q called. search rules))
    (c.sort_by_key-2.ensures.stable (λ d. d.time) (answers_always _ _ _ (λ f a r next called. search rules)))
