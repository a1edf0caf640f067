-- A search that is complete over a race: one order prints the value before a write, the other the value after it.
use Rattle.std.proofs.Common.{◌≡◌, ℕ, Bool, true, false, List, [], ◌∷◌, ◌⊎◌, inl, inr, Some, None, refl, sym, ap, ◌∙◌, if◌then◌else◌, ◌==◌, arith}
use Rattle.std.specs.List.{Contains}
use Rattle.std.proofs.lemmas.Bool.{eqb-true}
use Rattle.std.proofs.lemmas.List.Elements.{All-contains, All-from_recursion}
use Rattle.logic4.specs.declared.digit.Digit.TheVariants.{One}
use Rattle.logic4.specs.Vector.{Vector}
use Rattle.logic4.specs.declared.conversion.Conversion.TheVariants.{Binary}
use Rattle.model.specs.declared.tree.Task.TheVariants.{Display}
use Rattle.model.specs.declared.entry.Entry.{Entry}
use Rattle.model.specs.declared.entry.Entry.TheVariants.{Update, ActivateInactive, ActivateNba, ActivateMonitor, Advance}
use Rattle.model.specs.declared.end.Limits.{Limits}
use Rattle.model.specs.declared.end.Why.TheVariants.{Finish, Until, Entries, TooLong, Time, Memory}
use Rattle.model.specs.declared.end.End.{End}
use Rattle.model.specs.declared.end.End.TheVariants.{Quiet, Running, Stopped}
use Rattle.model.specs.Syntax.{Literal, Register, Nothing, Also}
use Rattle.model.specs.Design.{Design, Process, Statement, Assign, Print, Then, End as Done}
use Rattle.model.specs.Syntax.{Argument}
use Rattle.model.specs.Turns.{Turn, Ended, turn_within}
use Rattle.model.specs.States.{Action, Evaluate, Event, State, start, turned}
use Rattle.model.specs.Runs.{Effect, silent, joined, step, action_in, turn_of, HasLongTurn}
use Rattle.model.specs.Texts.{EndsHere}
use Rattle.model.proofs.StepLaws.{step_is_exact}
use Rattle.orders.specs.Alike.{transition_of}
use Rattle.orders.specs.SearchLaws.{IsReachable, IsAmongVisited, FollowsEachTransition, Shows, IsComplete}
use Rattle.orders.proofs.AlikeStates.{alike_states-same}
use Rattle.orders.proofs.GoingOn.{goes_on}
use Rattle.orders.proofs.SearchLaws.{each_transition_covers}

abbrev high : Vector
high = One ∷ []

abbrev initial : Statement → Process
initial s = record { repeats = false; body = Then s Done }

-- reg a; initial a=1'b1; initial $display("%b",a);
abbrev pub race : Design
race = record { widths = 1 ∷ []; processes = initial (Assign 0 (Literal high)) ∷ initial (Print Display (Argument Binary ∷ []) (Also (Register 0) Nothing)) ∷ [] }

abbrev pub limits : Limits
limits = record { until = None; max_entries = 5 }

abbrev writes : Turn
writes = record { uses = []; writes = (0, high) ∷ []; nbas = []; lines = []; strobes = []; rest = []; wait = Ended; finish = false; count = 1 }

abbrev prints : ℕ → Turn
prints byte = record { uses = 0 ∷ []; writes = []; nbas = []; lines = byte ∷ 10 ∷ []; strobes = []; rest = []; wait = Ended; finish = false; count = 1 }

-- the nodes: at the start, after one of the turns, and after both
abbrev pub begin : Effect
begin = silent (start race)

abbrev pub written : Effect
written = record { state = turned (start race) 0 0 writes; lines = []; changes = (0, high) ∷ [] }

abbrev pub printed : Effect
printed = record { state = turned (start race) 1 1 (prints 120); lines = 120 ∷ 10 ∷ []; changes = [] }

abbrev pub written_first : Effect
written_first = record { state = turned written.state 1 1 (prints 49); lines = 49 ∷ 10 ∷ []; changes = (0, high) ∷ [] }

abbrev pub printed_first : Effect
printed_first = record { state = turned printed.state 0 0 writes; lines = 120 ∷ 10 ∷ []; changes = (0, high) ∷ [] }

abbrev pub nodes : List Effect
nodes = begin ∷ written ∷ printed ∷ written_first ∷ printed_first ∷ []

abbrev pub shown : List (List ℕ × End)
shown = (49 ∷ 10 ∷ [], Quiet) ∷ (120 ∷ 10 ∷ [], Quiet) ∷ []

-- the turns of both processes, before and after the other's
writes_first : turn_of race (start race) 0 ≡ Some writes
unfolding turn_within
writes_first = refl

writes_last : turn_of race printed.state 0 ≡ Some writes
unfolding turn_within
writes_last = refl

prints_first : turn_of race (start race) 1 ≡ Some (prints 120)
unfolding turn_within
prints_first = refl

prints_last : turn_of race written.state 1 ≡ Some (prints 49)
unfolding turn_within
prints_last = refl

-- an event among evaluations is the first, or one of the others
found_if : (m p n : ℕ) (es : List Event) (a : Action) (b : Bool) → (m == n) ≡ b → (if b then Some (Evaluate p) else action_in es n) ≡ Some a → ((n ≡ m) × (a ≡ Evaluate p)) ⊎ (action_in es n ≡ Some a)
found_if m p n es a true is there = let same : a ≡ Evaluate p = cc in inl (sym (eqb-true m n is), same)
found_if m p n es a false is there = inr there

pub found : (m p n : ℕ) (es : List Event) (a : Action) → action_in ((m, Evaluate p) ∷ es) n ≡ Some a → ((n ≡ m) × (a ≡ Evaluate p)) ⊎ (action_in es n ≡ Some a)
found m p n es a there = found_if m p n es a (m == n) refl there

-- what an entry does from a node is followed
abbrev Followed : Effect → Entry → Type 0
Followed e entry =
    (other : Entry) × (g : Effect) × (transition_of e.state other ≡ transition_of e.state entry) × (step race e.state other ≡ Some g) × IsAmongVisited nodes (joined e g)

follows_turn : (e g : Effect) (n m : ℕ) → n ≡ m → step race e.state (Entry.Turn m) ≡ Some g → IsAmongVisited nodes (joined e g) → Followed e (Entry.Turn n)
follows_turn e g n m same at_g visited = (Entry.Turn m, g, ap (λ k. transition_of e.state (Entry.Turn k)) (sym same), at_g, visited)

visited_at : (v : Effect) → Contains nodes v → IsAmongVisited nodes v
visited_at v there = (v, there, (refl, alike_states-same v.state))

pub no_update : (m p n r : ℕ) (v : Vector) (es : List Event) → (action_in es n ≡ Some (Action.Update r v) → ⊥) → action_in ((m, Evaluate p) ∷ es) n ≡ Some (Action.Update r v) → ⊥
no_update m p n r v es none there = updates_not m p n r v es none (found m p n es (Action.Update r v) there)
  where
    updates_not : (m p n r : ℕ) (v : Vector) (es : List Event) → (action_in es n ≡ Some (Action.Update r v) → ⊥) → ((n ≡ m) × (Action.Update r v ≡ Evaluate p)) ⊎ (action_in es n ≡ Some (Action.Update r v)) → ⊥
    updates_not m p n r v es none (inl (same, is)) = cc
    updates_not m p n r v es none (inr later) = none later

pub nothing_in : (n : ℕ) (a : Action) → action_in [] n ≡ Some a → ⊥
nothing_in n a there = cc

-- from the start either turn comes first
begin_writes : step race begin.state (Entry.Turn 0) ≡ Some written
unfolding turn_within
begin_writes = refl

begin_prints : step race begin.state (Entry.Turn 1) ≡ Some printed
unfolding turn_within
begin_prints = refl

begin_second : (n p : ℕ) → ((n ≡ 1) × (Evaluate p ≡ Evaluate 1)) ⊎ (action_in [] n ≡ Some (Evaluate p)) → Followed begin (Entry.Turn n)
begin_second n p (inl (same, is)) = follows_turn begin printed n 1 same begin_prints (visited_at printed (2, omega arith, refl))
begin_second n p (inr none) = absurd (nothing_in n (Evaluate p) none)

begin_turn : (n p : ℕ) → ((n ≡ 0) × (Evaluate p ≡ Evaluate 0)) ⊎ (action_in ((1, Evaluate 1) ∷ []) n ≡ Some (Evaluate p)) → Followed begin (Entry.Turn n)
begin_turn n p (inl (same, is)) = follows_turn begin written n 0 same begin_writes (visited_at written (1, omega arith, refl))
begin_turn n p (inr later) = begin_second n p (found 1 1 n [] (Evaluate p) later)

begin_follows : FollowsEachTransition race limits nodes begin
begin_follows (Entry.Turn n) f at_f timely =
    let (going, (p, turn, there, is, short, made)) = (step_is_exact race begin.state (Entry.Turn n) f).0 at_f in
    begin_turn n p (found 0 0 n ((1, Evaluate 1) ∷ []) (Evaluate p) there)
begin_follows (Update n) f at_f timely =
    let (going, (r, v, there, first, made)) = (step_is_exact race begin.state (Update n) f).0 at_f in
    absurd (no_update 0 0 n r v ((1, Evaluate 1) ∷ []) (no_update 1 1 n r v [] (nothing_in n (Action.Update r v))) there)
begin_follows ActivateInactive f at_f timely = cc
begin_follows ActivateNba f at_f timely = cc
begin_follows ActivateMonitor f at_f timely = cc
begin_follows (Advance time) f at_f timely = cc

-- after the write the other turn prints the new value
written_prints : step race written.state (Entry.Turn 1) ≡ Some (record { state = written_first.state; lines = 49 ∷ 10 ∷ []; changes = [] })
unfolding turn_within
written_prints = refl

written_turn : (n p : ℕ) → ((n ≡ 1) × (Evaluate p ≡ Evaluate 1)) ⊎ (action_in [] n ≡ Some (Evaluate p)) → Followed written (Entry.Turn n)
written_turn n p (inl (same, is)) =
    follows_turn written (record { state = written_first.state; lines = 49 ∷ 10 ∷ []; changes = [] }) n 1 same written_prints (visited_at written_first (3, omega arith, refl))
written_turn n p (inr none) = absurd (nothing_in n (Evaluate p) none)

written_follows : FollowsEachTransition race limits nodes written
written_follows (Entry.Turn n) f at_f timely =
    let (going, (p, turn, there, is, short, made)) = (step_is_exact race written.state (Entry.Turn n) f).0 at_f in
    written_turn n p (found 1 1 n [] (Evaluate p) there)
written_follows (Update n) f at_f timely =
    let (going, (r, v, there, first, made)) = (step_is_exact race written.state (Update n) f).0 at_f in
    absurd (no_update 1 1 n r v [] (nothing_in n (Action.Update r v)) there)
written_follows ActivateInactive f at_f timely = cc
written_follows ActivateNba f at_f timely = cc
written_follows ActivateMonitor f at_f timely = cc
written_follows (Advance time) f at_f timely = cc

-- after the line the other turn writes
printed_writes : step race printed.state (Entry.Turn 0) ≡ Some (record { state = printed_first.state; lines = []; changes = (0, high) ∷ [] })
unfolding turn_within
printed_writes = refl

printed_turn : (n p : ℕ) → ((n ≡ 0) × (Evaluate p ≡ Evaluate 0)) ⊎ (action_in [] n ≡ Some (Evaluate p)) → Followed printed (Entry.Turn n)
printed_turn n p (inl (same, is)) =
    follows_turn printed (record { state = printed_first.state; lines = []; changes = (0, high) ∷ [] }) n 0 same printed_writes (visited_at printed_first (4, omega arith, refl))
printed_turn n p (inr none) = absurd (nothing_in n (Evaluate p) none)

printed_follows : FollowsEachTransition race limits nodes printed
printed_follows (Entry.Turn n) f at_f timely =
    let (going, (p, turn, there, is, short, made)) = (step_is_exact race printed.state (Entry.Turn n) f).0 at_f in
    printed_turn n p (found 0 0 n [] (Evaluate p) there)
printed_follows (Update n) f at_f timely =
    let (going, (r, v, there, first, made)) = (step_is_exact race printed.state (Update n) f).0 at_f in
    absurd (no_update 0 0 n r v [] (nothing_in n (Action.Update r v)) there)
printed_follows ActivateInactive f at_f timely = cc
printed_follows ActivateNba f at_f timely = cc
printed_follows ActivateMonitor f at_f timely = cc
printed_follows (Advance time) f at_f timely = cc

-- after both turns nothing is left, and both orders lead to one state
both_follows : (e : Effect) → e.state ≡ written_first.state → FollowsEachTransition race limits nodes e
both_follows e same entry f at_f timely = absurd (no_step entry f (ap (λ s. step race s entry) (sym same) ∙ at_f))
  where
    no_step : (entry : Entry) (f : Effect) → step race written_first.state entry ≡ Some f → ⊥
    no_step (Entry.Turn n) f at_f = cc
    no_step (Update n) f at_f = cc
    no_step ActivateInactive f at_f = cc
    no_step ActivateNba f at_f = cc
    no_step ActivateMonitor f at_f = cc
    no_step (Advance time) f at_f = cc

one_state : printed_first.state ≡ written_first.state
one_state = refl

-- each turn is short, so no run ends before both are taken
is_short : (s : State) (p q : ℕ) (turn : Turn) → turn_of race s q ≡ Some turn → Evaluate p ≡ Evaluate q → turn_of race s p ≡ None → ⊥
is_short s p q turn is same long =
    let number : p ≡ q = cc in
    let both : Some turn ≡ None = sym is ∙ (ap (turn_of race s) (sym number) ∙ long) in
    cc

written_short : (p : ℕ) → HasLongTurn race written.state p → ⊥
written_short p (n, there, long) = which (found 1 1 n [] (Evaluate p) there)
  where
    which : ((n ≡ 1) × (Evaluate p ≡ Evaluate 1)) ⊎ (action_in [] n ≡ Some (Evaluate p)) → ⊥
    which (inl (same, is)) = is_short written.state p 1 (prints 49) prints_last is long
    which (inr none) = nothing_in n (Evaluate p) none

printed_short : (p : ℕ) → HasLongTurn race printed.state p → ⊥
printed_short p (n, there, long) = which (found 0 0 n [] (Evaluate p) there)
  where
    which : ((n ≡ 0) × (Evaluate p ≡ Evaluate 0)) ⊎ (action_in [] n ≡ Some (Evaluate p)) → ⊥
    which (inl (same, is)) = is_short printed.state p 0 writes writes_last is long
    which (inr none) = nothing_in n (Evaluate p) none

begin_short : (p : ℕ) → HasLongTurn race begin.state p → ⊥
begin_short p (n, there, long) = which (found 0 0 n ((1, Evaluate 1) ∷ []) (Evaluate p) there)
  where
    second : ((n ≡ 1) × (Evaluate p ≡ Evaluate 1)) ⊎ (action_in [] n ≡ Some (Evaluate p)) → ⊥
    second (inl (same, is)) = is_short begin.state p 1 (prints 120) prints_first is long
    second (inr none) = nothing_in n (Evaluate p) none

    which : ((n ≡ 0) × (Evaluate p ≡ Evaluate 0)) ⊎ (action_in ((1, Evaluate 1) ∷ []) n ≡ Some (Evaluate p)) → ⊥
    which (inl (same, is)) = is_short begin.state p 0 writes writes_first is long
    which (inr later) = second (found 1 1 n [] (Evaluate p) later)

-- after both turns the run is quiet
both_quiet : (end : End) → EndsHere race limits written_first end → end ≡ Quiet
both_quiet Quiet ends = refl
both_quiet Running (few, memory, ends) = absurd ends
both_quiet (Stopped Finish) (few, memory, ends) = cc
both_quiet (Stopped Entries) (few, memory, ends) = absurd (few refl)
both_quiet (Stopped (TooLong p)) (few, memory, (some, going, (n, there, long))) = absurd (nothing_in n (Evaluate p) there)
both_quiet (Stopped Until) (few, memory, (some, going, past)) = absurd past
both_quiet (Stopped Time) (few, memory, (some, going, none, (idle, past))) = cc
both_quiet (Stopped Memory) (few, memory, ends) = absurd (memory refl)

-- the search
abbrev ShowsFrom : Effect → Type 0
ShowsFrom e = (end : End) → EndsHere race limits e end → Shows shown e.lines end

each_node : (P : Effect → Type 0) → P begin → P written → P printed → P written_first → P printed_first → (e : Effect) → Contains nodes e → P e
each_node P a b c d f e there =
    All-contains P nodes e
    (All-from_recursion P nodes (a, (b, (c, (d, (f, tt)))))) there

reaches : (e : Effect) → Contains nodes e → IsReachable race e
unfolding turn_within
reaches =
    each_node (IsReachable race) ([], refl) (Entry.Turn 0 ∷ [], refl) (Entry.Turn 1 ∷ [], refl) (Entry.Turn 0 ∷ Entry.Turn 1 ∷ [], refl)
    (Entry.Turn 1 ∷ Entry.Turn 0 ∷ [], refl)

follows : (e : Effect) → Contains nodes e → FollowsEachTransition race limits nodes e
follows =
    each_node (FollowsEachTransition race limits nodes) begin_follows written_follows printed_follows (both_follows written_first refl)
    (both_follows printed_first one_state)

shows : (e : Effect) → Contains nodes e → ShowsFrom e
shows =
    each_node ShowsFrom (λ end (few, memory, ends). absurd (goes_on race limits begin.state (0, Evaluate 0) ((1, Evaluate 1) ∷ []) 0 end refl refl begin_short few memory ends))
    (λ end (few, memory, ends). absurd (goes_on race limits written.state (1, Evaluate 1) [] 0 end refl refl written_short few memory ends))
    (λ end (few, memory, ends). absurd (goes_on race limits printed.state (0, Evaluate 0) [] 0 end refl refl printed_short few memory ends))
    (λ end ends. rw (both_quiet end ends) (0, omega arith, refl))
    (λ end ends. rw (both_quiet end ends) (1, omega arith, refl))

pub race_is_complete : IsComplete race limits nodes shown
race_is_complete =
    record {
      begun = visited_at begin (0, omega arith, refl);
      reached = reaches;
      covered = λ e there. each_transition_covers race limits nodes e (reaches e there) (follows e there);
      ends = λ e end there. shows e there end;
    }
