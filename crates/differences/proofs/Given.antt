-- Which entry gave a register its value, as entries are taken.
use Rattle.std.proofs.Common.{◌≡◌, ◌∙◌, ap, refl, subst, sym, ℕ, zero, suc, ◌+◌, ◌<◌, ◌==◌, ◌||◌, Bool, true, false, List, [], ◌∷◌, ◌++◌, length, take, if◌then◌else◌, Option, Some, None, unwrap_or, replicate, arith}
use Rattle.std.specs.Prelude.{option_and_then, slice_get}
use Rattle.std.specs.List.{list_any}
use Rattle.std.proofs.lemmas.List.{length-replicate}
use Rattle.logic4.specs.Vector.{Vector}
use Rattle.model.specs.declared.entry.Entry.{Entry}
use Rattle.model.specs.declared.entry.Entry.TheVariants as entries
use Rattle.model.specs.Design.{Design}
use Rattle.model.specs.Expressions.{Store}
use Rattle.model.specs.States.{State}
use Rattle.model.specs.Runs.{Effect, run, step}
use Rattle.design.specs.Compiled.{Compiled, design_of}
use Rattle.steps.specs.declared.entry_account.Changed.{Changed}
use Rattle.steps.specs.declared.entry_account.Reading.{Reading}
use Rattle.steps.specs.Accounts.{Account, IsActorTold, changed_from, reading}
use Rattle.steps.specs.ExplainerStanding.{IsExplainerBehind}
use Rattle.explain.specs.Sent.{IsNextTold}
use Rattle.differences.specs.declared.followed_run.FollowedRun.{FollowedRun}
use Rattle.differences.specs.declared.value_difference.GivenValue.{GivenValue}
use Rattle.differences.specs.declared.value_difference.ValueGiver.{ValueGiver}
use Rattle.differences.specs.ComparedValues.{given_from, given_values}
use Rattle.differences.specs.Following.{IsRunFollowed}
use Rattle.differences.specs.Givers.{actor_process, evaluated_process, giver_at, giver_by, giver_where, last_giver, later_giver, turning_process}

-- changes, one more

any_last : (test : Changed → Bool) (cs : List Changed) (c : Changed) → list_any test (cs ++ c ∷ []) ≡ (list_any test cs || (test c || false))
any_last test [] c = refl
any_last test (d ∷ cs) c = ap (λ (b : Bool). test d || b) (any_last test cs c) ∙ or_assoc (test d) (list_any test cs) (test c || false)
  where
    or_assoc : (a b d : Bool) → (a || (b || d)) ≡ ((a || b) || d)
    or_assoc true b d = refl
    or_assoc false b d = refl

chosen : {V : Type 0} (a b : Bool) (given old now next : V) → now ≡ (if a then given else old) → next ≡ (if b then given else now) → next ≡ (if (a || (b || false)) then given else old)
chosen true true given old now next h k = k
chosen true false given old now next h k = k ∙ h
chosen false true given old now next h k = k
chosen false false given old now next h k = k ∙ h

pub noted_more : {V : Type 0} (cs : List Changed) (i : ℕ) (c : Changed) (r : ℕ) (given old now next : V) → take (i + 1) cs ≡ take i cs ++ c ∷ []
    → now ≡ (if list_any (λ d. d.register == r) (take i cs) then given else old) → next ≡ (if c.register == r then given else now)
    → next ≡ (if list_any (λ d. d.register == r) (take (i + 1) cs) then given else old)
noted_more cs i c r given old now next more h k =
    let test : Changed → Bool = λ d. d.register == r in
    chosen (list_any test (take i cs)) (test c) given old now next h k
    ∙ ap (λ (b : Bool). if b then given else old) (sym (ap (list_any test) more ∙ any_last test (take i cs) c))

-- the changes that are told are those of the step
any_changed : (r : ℕ) (store : Store) (cs : List (ℕ × Vector)) → list_any (λ d. d.register == r) (changed_from store cs) ≡ list_any (λ c. c.0 == r) cs
any_changed r store [] = refl
any_changed r store (c ∷ cs) = ap (λ (b : Bool). (c.0 == r) || b) (any_changed r _ cs)

-- who does an entry is whose turn it is
process_told : (design : Design) (s : State) (read : ℕ → Reading) (entry : Entry) (a : Account) → IsActorTold design s read entry a → actor_process a.actor ≡ turning_process s entry
process_told design s read (entries.Turn number) a told = ap actor_process told.actor ∙ sym (ap evaluated_process told.action)
process_told design s read (entries.Update number) a told = ap actor_process told.actor
process_told design s read entries.ActivateInactive a told = ap actor_process told.actor
process_told design s read entries.ActivateNba a told = ap actor_process told.actor
process_told design s read entries.ActivateMonitor a told = ap actor_process told.actor
process_told design s read (entries.Advance time) a told = ap actor_process told.actor

giver_is : (design : Design) (journal : List Entry) (r place : ℕ) (before : Effect) (entry : Entry) (effect : Effect) → run design (take place journal) ≡ Some before → slice_get journal place ≡ Some entry
    → step design before.state entry ≡ Some effect → giver_at design journal r place ≡ giver_where (list_any (λ c. c.0 == r) effect.changes) (record { entry = place + 1; process = turning_process before.state entry })
giver_is design journal r place before entry effect ran there stepped =
    ap (option_and_then (λ (b : Effect). option_and_then (λ (e : Entry). giver_by r place b.state e (step design b.state e)) (slice_get journal place))) ran
    ∙ (ap (option_and_then (λ (e : Entry). giver_by r place before.state e (step design before.state e))) there
    ∙ ap (giver_by r place before.state entry) stepped)

chosen_giver : (b : Bool) (given : ValueGiver) (old : Option (Option ValueGiver)) (earlier : Option ValueGiver) → old ≡ Some earlier → (if b then Some (Some given) else old) ≡ Some (later_giver (giver_where b given) earlier)
chosen_giver true given old earlier h = refl
chosen_giver false given old earlier h = h

-- one entry more
pub followed_next : (journal : List Entry) (at : ℕ) (old new : FollowedRun) → at < length journal → IsRunFollowed journal old → old.explainer.position.core.entries ≡ at
    → IsNextTold journal at old.explainer new.explainer → new.explainer.position.code ≡ old.explainer.position.code → length new.givers.items ≡ length old.givers.items
    → ((r : ℕ) → r < length old.givers.items → slice_get new.givers.items r
    ≡ (if list_any (λ d. d.register == r) new.explainer.account.changes then Some (Some (record { entry = at + 1; process = actor_process new.explainer.account.actor })) else slice_get old.givers.items r))
    → IsRunFollowed journal new
followed_next journal at old new inside before count next same long notes = record {
  within = omega (arith, next.count, inside);
  behind = subst (λ (n : ℕ). IsExplainerBehind (take n journal) new.explainer) (sym next.count) next.behind;
  registers = long ∙ (before.registers ∙ ap (λ (c : Compiled). length c.widths) (sym same));
  givers_are = λ r less.
      let told = next.told.told in
      let design : Design = design_of old.explainer.position.code in
      let givers : List (Option ValueGiver) = old.givers.items in
      let few : r < length givers = omega (arith, long, less) in
      let earlier : Option ValueGiver = last_giver design journal r at in
      let by_process : Option ℕ → ValueGiver = λ p. record { entry = at + 1; process = p } in
      let given : ValueGiver = by_process (turning_process next.told.before.state next.entry) in
      let was : slice_get givers r ≡ Some earlier = before.givers_are r few ∙ ap (λ (n : ℕ). Some (last_giver design journal r n)) count in
      let test : list_any (λ d. d.register == r) new.explainer.account.changes ≡ list_any (λ c. c.0 == r) next.told.effect.changes =
      ap (list_any (λ (d : Changed). d.register == r)) told.changes ∙ any_changed r next.told.before.state.store next.told.effect.changes in
      let by : giver_at design journal r at ≡ giver_where (list_any (λ c. c.0 == r) next.told.effect.changes) given =
      giver_is design journal r at next.told.before next.entry next.told.effect next.told.is_run next.there told.is_step in
      let step_more : suc at ≡ at + 1 = omega arith in
      notes r few
      ∙ (ap (λ (p : Option ℕ). if list_any (λ d. d.register == r) new.explainer.account.changes then Some (Some (by_process p)) else slice_get givers r)
      (process_told design next.told.before.state (reading next.told.before) next.entry new.explainer.account told.actor)
      ∙ (ap (λ (b : Bool). if b then Some (Some given) else slice_get givers r) test
      ∙ (chosen_giver (list_any (λ c. c.0 == r) next.told.effect.changes) given (slice_get givers r) earlier was
      ∙ (ap (λ (o : Option ValueGiver). Some (later_giver o earlier)) (sym by)
      ∙ (ap (λ (n : ℕ). Some (last_giver design journal r n)) step_more
      ∙ (ap (λ (n : ℕ). Some (last_giver design journal r n)) (sym next.count)
      ∙ ap (λ (c : Compiled). Some (last_giver (design_of c) journal r new.explainer.position.core.entries)) (sym same)))))));
}

-- values beside the entries that gave them
given_upto : (vs : Store) (gs : List (Option ValueGiver)) (first : ℕ) (givers : ℕ → Option ValueGiver) → length vs ≡ length gs → ((r : ℕ) → r < length gs → slice_get gs r ≡ Some (givers (first + r)))
    → given_values vs gs ≡ given_from givers first vs
given_upto [] gs first givers long are = refl
given_upto (v ∷ vs) [] first givers long are = absurd (omega (arith, long))
given_upto (v ∷ vs) (g ∷ gs) first givers long are =
    let start : first + 0 ≡ first = omega arith in
    let here : g ≡ givers first = ap (λ (o : Option (Option ValueGiver)). unwrap_or o g) (are 0 (omega arith)) ∙ ap givers start in
    let rest : given_values vs gs ≡ given_from givers (first + 1) vs =
    given_upto vs gs (first + 1) givers (omega (arith, long))
    (λ r less. let next : first + suc r ≡ (first + 1) + r = omega arith in are (suc r) (omega (arith, less)) ∙ ap (λ (n : ℕ). Some (givers n)) next) in
    let one : Option ValueGiver → GivenValue = λ o. record { value = v; by = o } in
    ap (λ (o : Option ValueGiver). one o ∷ given_values vs gs) here ∙ ap (λ (l : List GivenValue). one (givers first) ∷ l) rest

pub given_are : (vs : Store) (gs : List (Option ValueGiver)) (givers : ℕ → Option ValueGiver) → length vs ≡ length gs → ((r : ℕ) → r < length gs → slice_get gs r ≡ Some (givers r)) → given_values vs gs ≡ given_from givers 0 vs
given_are vs gs givers long are = given_upto vs gs 0 givers long (λ r less. let same : r ≡ 0 + r = omega arith in are r less ∙ ap (λ (n : ℕ). Some (givers n)) same)

-- no entry is kept of any register
none_there : (n r : ℕ) → r < n → ◌≡◌ {A = Option (Option ValueGiver)} (slice_get (replicate n None) r) (Some None)
none_there zero r less = absurd (omega (arith, less))
none_there (suc n) zero less = refl
none_there (suc n) (suc r) less = none_there n r (omega (arith, less))

-- at the start no entry gave a register its value
pub given_none : (code : Compiled) (journal : List Entry) (run : FollowedRun) → run.explainer.position.code ≡ code → IsExplainerBehind [] run.explainer → run.explainer.position.core.entries ≡ 0
    → run.givers.items ≡ replicate (length code.widths) None → IsRunFollowed journal run
given_none code journal run same behind none are = record {
  within = omega (arith, none);
  behind = subst (λ (n : ℕ). IsExplainerBehind (take n journal) run.explainer) (sym none) behind;
  registers = ap length are ∙ (length-replicate (length code.widths) None ∙ ap (λ (c : Compiled). length c.widths) (sym same));
  givers_are = λ r less.
      let long : length run.givers.items ≡ length code.widths = ap length are ∙ length-replicate (length code.widths) None in
      let few : r < length code.widths = omega (arith, less, long) in
      ap (λ (l : List (Option ValueGiver)). slice_get l r) are
      ∙ (none_there (length code.widths) r few ∙ ap (λ (n : ℕ). Some (last_giver (design_of run.explainer.position.code) journal r n)) (sym none));
}
