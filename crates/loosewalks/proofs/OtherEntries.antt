-- The entries of what is active but isn't held.
use Rattle.std.proofs.Common.{◌≡◌, ◌<◌, ◌≤◌, ◌+◌, ℕ, zero, suc, Bool, true, false, List, [], ◌∷◌, ◌++◌, map, length, get_or, Option, Some, None, refl, sym, ap, subst, ◌∙◌, ◌==◌, ◌||◌, if◌then◌else◌, arith, true≢false}
use Rattle.std.specs.Prelude.{IsSome}
use Rattle.std.proofs.lemmas.Bool.Decides.{eqb_tells}
use Rattle.model.specs.declared.entry.Entry.{Entry}
use Rattle.model.specs.declared.entry.Entry.TheVariants.{Turn}
use Rattle.model.specs.declared.entry.Entry.TheVariants as entries
use Rattle.model.specs.Turns.{contains}
use Rattle.model.specs.States.{State, Event, Action, Evaluate}
use Rattle.model.specs.Runs.{action_in}
use Rattle.model.specs.Laws.{evaluations_in}
use Rattle.orders.specs.Alike.{EventsRise}
use Rattle.orders.proofs.EventLists.{present_from}
use Rattle.phases.specs.Phase.{TakesEvent}
use Rattle.loose.specs.declared.transition.LooseTransition.TheVariants.{Process}
use Rattle.loose.specs.Loose.{loose_transition_of, loose_transition_of_action}
use Rattle.regions.specs.declared.queue.Update as queued
use Rattle.regions.specs.declared.queue.Evaluation.{Evaluation}
use Rattle.regions.specs.Queue.{evaluation_event, update_event}
use Rattle.regions.specs.Order.{InOrder, IsOrdered}
use Rattle.certificates.specs.CertificateLaws.{NobodyWaits}
use Rattle.heldmoves.specs.WithoutHeld.{evaluates_held, without_held}
use Rattle.heldmoves.proofs.LeftAside.{was_there}
use Rattle.noted.specs.NotedSteps.{IsOfOther}
use Rattle.loosewalks.specs.declared.active.NamedEntry.{NamedEntry}
use Rattle.loosewalks.specs.LooseWalking.{IsEventStep}
use Rattle.loosewalks.specs.Held.{AllAreHeld}
use Rattle.loosewalks.proofs.ActiveEntries.{first_action, none_of}

-- numbers rise
pub rising : (P : Action → Type 0) (low high : ℕ) (es : List Event) → InOrder P low es high → EventsRise low es high
rising P low high [] h = h
rising P low high (e ∷ es) h = (h.0, rising P (e.0 + 1) high es h.2)

-- an evaluation at a place

action_at : (es : List Evaluation) (from to k : ℕ) (e : Evaluation) → EventsRise from (map evaluation_event es) to → k < length es → e ≡ get_or es k e → action_in (map evaluation_event es) e.number ≡ Some (Evaluate e.process)
action_at [] from to k e rises within at = absurd (omega (arith, within))
action_at (f ∷ es) from to zero e rises within at =
    subst (λ (x : Evaluation). action_in (map evaluation_event (x ∷ es)) e.number ≡ Some (Evaluate e.process)) at (first_action e.number (Evaluate e.process) (map evaluation_event es))
action_at (f ∷ es) from to (suc k) e rises within at =
    let later : action_in (map evaluation_event es) e.number ≡ Some (Evaluate e.process) = action_at es (f.number + 1) to k e rises.1 (omega (arith, within)) at in
    let above : f.number + 1 ≤ e.number = present_from e.number (f.number + 1) to (Evaluate e.process) (map evaluation_event es) rises.1 later in
    let other : (f.number == e.number) ≡ false = grind (arith, eqb_tells f.number e.number, above) in
    ap (λ (b : Bool). if b then Some (Evaluate f.process) else action_in (map evaluation_event es) e.number) other ∙ later

alone : (s : State) (us : List queued.Update) (es : List Evaluation) → map update_event us ++ map evaluation_event es ≡ s.active → length us ≡ 0 → map evaluation_event es ≡ s.active
alone s us es is none = ap (λ (l : List queued.Update). map update_event l ++ map evaluation_event es) (sym (none_of us none)) ∙ is

evaluation_active : (widths : List ℕ) (count : ℕ) (s : State) (us : List queued.Update) (es : List Evaluation) (k : ℕ) (e : Evaluation) → IsOrdered widths count s → map update_event us ++ map evaluation_event es ≡ s.active → length us ≡ 0 → k < length es → e ≡ get_or es k e
    → action_in s.active e.number ≡ Some (Evaluate e.process)
evaluation_active widths count s us es k e order is none within at =
    let here : map evaluation_event es ≡ s.active = alone s us es is none in
    let rises : EventsRise 0 s.active s.next_event = rising _ 0 s.next_event s.active order.active in
    ap (λ l. action_in l e.number) (sym here) ∙ action_at es 0 s.next_event k e (subst (λ l. EventsRise 0 l s.next_event) (sym here) rises) within at

pub turn_at : (class : ℕ → ℕ) (widths : List ℕ) (count : ℕ) (s : State) (us : List queued.Update) (es : List Evaluation) (k : ℕ) (e : Evaluation) (named : NamedEntry) → IsOrdered widths count s → map update_event us ++ map evaluation_event es ≡ s.active → length us ≡ 0 → k < length es
    → e ≡ get_or es k e → named.entry ≡ Turn e.number → named.transition ≡ Process e.process → IsEventStep class s named
turn_at class widths count s us es k e named order is none within at entry transition =
    record {
      takes = subst TakesEvent (sym entry) tt;
      transition_is = ap (loose_transition_of class s) entry ∙ (ap (loose_transition_of_action class) (evaluation_active widths count s us es k e order is none within at) ∙ ap Some (sym transition));
    }

one_process : (p q : ℕ) → Some (Evaluate p) ≡ Some (Evaluate q) → p ≡ q
one_process p q h = cc

pub turn_of_other : (widths : List ℕ) (count : ℕ) (held : List ℕ) (s : State) (us : List queued.Update) (es : List Evaluation) (k : ℕ) (e : Evaluation) (entry : Entry) → IsOrdered widths count s → map update_event us ++ map evaluation_event es ≡ s.active → length us ≡ 0
    → k < length es → e ≡ get_or es k e → contains held e.process ≡ false → entry ≡ Turn e.number → IsOfOther (contains held) s entry
turn_of_other widths count held s us es k e entry order is none within at other same =
    subst (IsOfOther (contains held) s) (sym same)
    (λ p there. ap (contains held) (sym (one_process e.process p (sym (evaluation_active widths count s us es k e order is none within at) ∙ there))) ∙ other)

pub update_of_other : (held : List ℕ) (s : State) (number : ℕ) (entry : Entry) → entry ≡ entries.Update number → IsOfOther (contains held) s entry
update_of_other held s number entry same = subst (IsOfOther (contains held) s) (sym same) tt

-- where all evaluations are of processes that are held, nobody else waits

held_if : (held : List ℕ) (n : ℕ) (a : Action) (f : Evaluation) (es : List Evaluation) (b : Bool) → contains held f.process ≡ true → (if b then Some (Evaluate f.process) else action_in (map evaluation_event es) n) ≡ Some a
    → (action_in (map evaluation_event es) n ≡ Some a → evaluates_held (contains held) a ≡ true) → evaluates_held (contains held) a ≡ true
held_if held n a f es true own is later = subst (λ (x : Action). evaluates_held (contains held) x ≡ true) (same (Evaluate f.process) a is) own
  where
    same : (x y : Action) → Some x ≡ Some y → x ≡ y
    same x y h = cc
held_if held n a f es false own is later = later is

all_held : (held : List ℕ) (n : ℕ) (a : Action) (es : List Evaluation) → AllAreHeld held es → action_in (map evaluation_event es) n ≡ Some a → evaluates_held (contains held) a ≡ true
all_held held n a [] h is = cc
all_held held n a (f ∷ es) h is =
    held_if held n a f es (f.number == n) (h 0 f (omega arith)) is (λ there. all_held held n a es (λ k d less. h (suc k) d (omega (arith, less))) there)

pub nobody_else : (class : ℕ → ℕ) (widths : List ℕ) (count : ℕ) (held : List ℕ) (s : State) (us : List queued.Update) (es : List Evaluation) → IsOrdered widths count s → map update_event us ++ map evaluation_event es ≡ s.active → length us ≡ 0
    → AllAreHeld held es → NobodyWaits class (without_held (contains held) s)
nobody_else class widths count held s us es order is none h a (n, action, at, own) =
    let (was, other) = was_there (contains held) n 0 s.next_event action s.active (rising _ 0 s.next_event s.active order.active) at in
    let it : evaluates_held (contains held) action ≡ true = all_held held n action es h (ap (λ l. action_in l n) (alone s us es is none) ∙ was) in
    true≢false (sym it ∙ other)

-- who is active is among those that are evaluated

some_evaluated : (p : ℕ) (e : Evaluation) (es : List Evaluation) (b : Bool) → (e.process == p) ≡ b → 1 ≤ (if b then 1 else 0) + evaluations_in p (map evaluation_event es) → (1 ≤ evaluations_in p (map evaluation_event es) → contains (map (λ (x : Evaluation). x.process) es) p ≡ true)
    → contains (map (λ (x : Evaluation). x.process) (e ∷ es)) p ≡ true
some_evaluated p e es true is some later = ap (λ (b : Bool). b || contains (map (λ (x : Evaluation). x.process) es) p) is
some_evaluated p e es false is some later = later_or (e.process == p) (later (omega (arith, some)))
  where
    later_or : (b : Bool) → contains (map (λ (x : Evaluation). x.process) es) p ≡ true → (b || contains (map (λ (x : Evaluation). x.process) es) p) ≡ true
    later_or true h = refl
    later_or false h = h

pub evaluated_there : (p : ℕ) (es : List Evaluation) → 1 ≤ evaluations_in p (map evaluation_event es) → contains (map (λ (x : Evaluation). x.process) es) p ≡ true
evaluated_there p [] some = absurd (omega (arith, some))
evaluated_there p (e ∷ es) some = some_evaluated p e es (e.process == p) refl some (evaluated_there p es)

-- where there is no front, there is nothing

pub no_front : {A : Type 0} (o : Option A) (n : ℕ) → o ≡ None → (IsSome o → 0 < n) × (0 < n → IsSome o) → n ≡ 0
no_front None zero is v = refl
no_front None (suc n) is v = absurd (true≢false (sym (v.1 (omega arith))))
no_front (Some x) n is v = cc
