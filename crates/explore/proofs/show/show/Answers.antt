use Rattle.std.proofs.Common.{◌≡◌, ℕ, List, [], ◌++◌, get_or, sym, ap, ◌∙◌, subst, arith}
use Rattle.std.specs.List.{All}
use Rattle.explore.specs.Search.{AreShownFurther, IsShown, IsOfRun, Differs}
use Rattle.explore.specs.NumberedTexts.{texts}
use Rattle.explore.specs.Lineage.{ways}
use Rattle.explore.specs.declared.Shown.{Shown}
use Rattle.explore.proofs.Shows.{shown_further_pushed, shown_itself, shown_pushed}
use Rattle.explore.proofs.show.show.Goals as goal

pub returns-then-is_shown-clause-there : goal.returns-then-is_shown-clause-there
returns-then-is_shown-clause-there g c _ =
    let runs = g.O.Orders.runs c.args.scope.orders.now in
    let way = get_or (ways c.args.run.lineage.now) c.args.run.reached.number [] in
    let printed = c.args.ended.printed.items in
    let text : c.in_ok-text.text.items ≡ runs.text way ++ printed =
    c.in_ok-text.ensures ∙ (ap (λ l. get_or (texts c.args.run.texts.now) c.args.run.reached.text [] ++ l) c.deref.ensures.value ∙ ap (λ l. l ++ printed) c.requires.run.text.same) in
    subst (λ (t : List ℕ). IsShown c.args.shown.now.items t c.args.ended.end) text
    (subst (λ (xs : List (Shown g.row.O-Move.Denot g.row.O-End.Denot)). IsShown xs c.in_ok-text.text.items c.args.ended.end) c.deref-2.ensures.value (c.is_shown.ensures.there c.if-is_shown.true))

pub returns-in_err-text-clause-shown : goal.returns-in_err-text-clause-shown
returns-in_err-text-clause-shown g c = shown_itself (g.O.Orders.runs c.args.scope.orders.now) c.args.scope.bounds.shown c.args.shown.now.items c.requires.shown

pub returns-then-is_shown-clause-shown : goal.returns-then-is_shown-clause-shown
returns-then-is_shown-clause-shown g c = shown_itself (g.O.Orders.runs c.args.scope.orders.now) c.args.scope.bounds.shown c.args.shown.now.items c.requires.shown

pub returns-then-len-scope-clause-shown : goal.returns-then-len-scope-clause-shown
returns-then-len-scope-clause-shown g c = shown_itself (g.O.Orders.runs c.args.scope.orders.now) c.args.scope.bounds.shown c.args.shown.now.items c.requires.shown

pub returns-in_err-moves-clause-shown : goal.returns-in_err-moves-clause-shown
returns-in_err-moves-clause-shown g c = shown_itself (g.O.Orders.runs c.args.scope.orders.now) c.args.scope.bounds.shown c.args.shown.now.items c.requires.shown

pub returns-in_err-extend_from_slice-clause-shown : goal.returns-in_err-extend_from_slice-clause-shown
returns-in_err-extend_from_slice-clause-shown g c = shown_itself (g.O.Orders.runs c.args.scope.orders.now) c.args.scope.bounds.shown c.args.shown.now.items c.requires.shown

pub returns-in_err-push-clause-shown : goal.returns-in_err-push-clause-shown
returns-in_err-push-clause-shown g c =
    let runs = g.O.Orders.runs c.args.scope.orders.now in
    let old = c.args.shown.now.items in
    subst (λ (xs : List (Shown g.row.O-Move.Denot g.row.O-End.Denot)). AreShownFurther runs c.args.scope.bounds.shown old xs) (sym c.in_err-push.ensures.items) (shown_itself runs c.args.scope.bounds.shown old c.requires.shown)

pub returns-clause-shown : goal.returns-clause-shown
returns-clause-shown g c =
    let runs = g.O.Orders.runs c.args.scope.orders.now in
    let way = get_or (ways c.args.run.lineage.now) c.args.run.reached.number [] in
    let printed = c.args.ended.printed.items in
    let old = c.args.shown.now.items in
    let text : c.in_ok-text.text.items ≡ runs.text way ++ printed =
    c.in_ok-text.ensures ∙ (ap (λ l. get_or (texts c.args.run.texts.now) c.args.run.reached.text [] ++ l) c.deref.ensures.value ∙ ap (λ l. l ++ printed) c.requires.run.text.same) in
    let e : way ++ c.args.ended.moves.items ≡ c.extend_from_slice.new.self.items =
    sym (c.in_ok-extend_from_slice.ensures.items ∙ (ap (λ (l : List g.row.O-Move.Denot). l ++ c.deref-3.result.now) c.in_ok-moves.ensures ∙ ap (λ (l : List g.row.O-Move.Denot). way ++ l) c.deref-3.ensures.value)) in
    let new : Shown g.row.O-Move.Denot g.row.O-End.Denot = record { text = c.in_ok-text.text; end = c.args.ended.end; moves = c.extend_from_slice.new.self } in
    let holds : IsOfRun runs new = (subst (λ (l : List g.row.O-Move.Denot). runs.Ends l c.args.ended.end) e c.requires.ended.0, text ∙ (sym c.requires.ended.1 ∙ ap runs.text e), subst (λ (l : List g.row.O-Move.Denot). runs.Within l) e c.requires.ended.2) in
    let apart = subst (λ (xs : List (Shown g.row.O-Move.Denot g.row.O-End.Denot)). All (Differs new.text.items new.end) xs) c.deref-2.ensures.value (c.is_shown.ensures.apart c.if-is_shown.false) in
    subst (λ (xs : List (Shown g.row.O-Move.Denot g.row.O-End.Denot)). AreShownFurther runs c.args.scope.bounds.shown old xs) (sym c.in_ok-push.ensures.items) (shown_further_pushed runs c.args.scope.bounds.shown old new c.requires.shown holds apart (omega arith))

pub returns-clause-there : goal.returns-clause-there
returns-clause-there g c _ =
    let runs = g.O.Orders.runs c.args.scope.orders.now in
    let way = get_or (ways c.args.run.lineage.now) c.args.run.reached.number [] in
    let printed = c.args.ended.printed.items in
    let text : c.in_ok-text.text.items ≡ runs.text way ++ printed =
    c.in_ok-text.ensures ∙ (ap (λ l. get_or (texts c.args.run.texts.now) c.args.run.reached.text [] ++ l) c.deref.ensures.value ∙ ap (λ l. l ++ printed) c.requires.run.text.same) in
    let new : Shown g.row.O-Move.Denot g.row.O-End.Denot = record { text = c.in_ok-text.text; end = c.args.ended.end; moves = c.extend_from_slice.new.self } in
    subst (λ (t : List ℕ). IsShown c.push.new.self.items t c.args.ended.end) text
    (subst (λ (xs : List (Shown g.row.O-Move.Denot g.row.O-End.Denot)). IsShown xs new.text.items new.end) (sym c.in_ok-push.ensures.items) (shown_pushed c.args.shown.now.items new))
