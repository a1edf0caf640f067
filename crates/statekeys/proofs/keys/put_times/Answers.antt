-- A time more at each turn, and all of them at the end.
use Rattle.std.proofs.Common.{◌≡◌, ◌∷◌, ◌++◌, [], Bor, List, ℕ, ap, map, subst, sym, ◌∙◌}
use Rattle.std.specs.Prelude.{OnOk}
use Rattle.std.proofs.lemmas.List.{map-append}
use Rattle.std.proofs.lemmas.Iterator.Consumers.{YieldsList-from_deque, YieldsList-end}
use Rattle.std.proofs.lemmas.Simd.{map-map}
use Rattle.regions.specs.declared.future.Due.{Due}
use Rattle.statekeys.specs.KeyCodes.{list_code, nat_code}
use Rattle.statekeys.proofs.keys.put_times.Goals as goal

-- the times of what was lent are those of the whole, where it is all of that
times_of : {E : Type 0} (lent : List (Bor (Due E))) (whole : List (Due E)) → map (λ d. d.now) lent ≡ whole → map (λ d. d.now.time) lent ≡ map (λ d. d.time) whole
times_of {E} lent whole all = sym (map-map (λ (d : Due E). d.time) (λ (d : Bor (Due E)). d.now) lent) ∙ ap (map (λ (d : Due E). d.time)) all

pub loop-due-preserved : goal.loop-due-preserved
loop-due-preserved g c =
    c.in_ok-push.ensures.items ∙ (ap (λ (l : List ℕ). l ++ c.in-Some.due.now.time ∷ []) c.loop-due.invariant ∙ sym (map-append (λ (d : Bor (Due g.row.E.Denot)). d.now.time) c.loop-due.yielded (c.in-Some.due ∷ [])))

pub returns : goal.returns
returns g c =
    let all : map (λ (d : Bor (Due g.row.E.Denot)). d.now) c.loop-due.yielded ≡ c.args.future.now.items =
    (YieldsList-end (YieldsList-from_deque c.args.future.now.items cc) c.loop-due.yielded _ c.loop-due.yielded_by _ _ c.in-None.is c.next.ensures.steps).0 in
    let listed : c.deref.result.now ≡ map (λ (d : Due g.row.E.Denot). d.time) c.args.future.now.items = c.deref.ensures.value ∙ (c.loop-due.invariant ∙ times_of c.loop-due.yielded c.args.future.now.items all) in
    subst (λ (l : List ℕ). OnOk c.put_slice.result (c.put_slice.new.bytes.items ≡ c.args.bytes.now.items ++ list_code nat_code l)) listed c.put_slice.ensures
