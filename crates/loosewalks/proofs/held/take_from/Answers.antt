-- The others first, and then what is held.
use Rattle.std.proofs.Common.{ℕ, ◌∙◌, List, length, sym, ap, subst}
use Rattle.design.specs.Compiled.{Compiled}
use Rattle.loose.specs.Classes.{class_in}
use Rattle.loosewalks.specs.Held.{HasTakenOthers}
use Rattle.loosewalks.proofs.GoingOn.{all_ok}
use Rattle.loosewalks.proofs.held.take_from.Goals as goal

pub take_rest-requires : goal.take_rest-requires
take_rest-requires c = c.requires.begins.count ∙ ap (λ (k : Compiled). length k.widths) (sym c.take_others.ensures.code)

pub returns-clause-done : goal.returns-clause-done
returns-clause-done c =
    let class = class_in c.args.holding.scope.rules.classes.now in
    let old = c.args.machine.now in
    let mid = c.take_others.new.machine in
    let notes = c.take_others.new.room.certificate in
    let way = c.take_others.new.room.way.items in
    all_ok c.take_rest.result _ _
    (λ done limits may.
    done limits old c.requires may c.take_others.ensures.code
    (subst (λ (l : List ℕ). HasTakenOthers class limits l old notes way mid) (c.deref.ensures.value ∙ c.requires.aside) (c.in_ok-take_others.ensures.taken c.if-not-branch.false limits)))
    c.take_rest.ensures.done
