-- In loose runs each advance goes to a later time: every future event is later than the time.
use Rattle.std.proofs.Common.{◌≡◌, ℕ, zero, suc, ◌≤◌, ◌<◌, Bool, true, false, not, List, [], ◌∷◌, ◌++◌, min, Option, Some, None, refl, sym, ap, subst, arith, if◌then◌else◌, ◌==◌, nat_le, nat_lt}
use Rattle.std.specs.Prelude.{option_map, cond}
use Rattle.std.specs.Option.{option_map_or}
use Rattle.std.proofs.lemmas.Bool.Decides.{eqb_tells}
use Rattle.logic4.specs.Vector.{Vector}
use Rattle.logic4.specs.Operators.{same_vector}
use Rattle.model.specs.declared.entry.Entry.{Entry}
use Rattle.model.specs.declared.entry.Entry.TheVariants.{Update, ActivateInactive, ActivateNba, ActivateMonitor, Advance}
use Rattle.model.specs.declared.entry.Refusal.TheVariants.{Finished, NotDue, WrongTime, PastLimit}
use Rattle.model.specs.declared.tree.Task.TheVariants.{Display, Strobe, Write}
use Rattle.model.specs.Design.{Design, Statement, Empty, Assign, AssignAfter, AssignLater, Now, Delay, Await, If, While, Print, Finish, statement_at, process_at}
use Rattle.model.specs.Expressions.{value_of}
use Rattle.model.specs.Turns.{Remainder, At, Set, Wait, Ended, Inactive, Until, OnChange, NonblockingAssignment, Turn, Going, Next, Goes, Over, begun, counted, goes_on, stops, delayed, whole, after_statement, next, and_then, turn_within}
use Rattle.model.specs.States.{Action, Evaluate, Event, State, with_value, change, change_all, with_due, with_nonblocking, with_future_nonblocking, schedule, schedule_all, schedule_wait, taking, turned, advanced, due_else, inactive_activated, nonblocking_activated, monitored}
use Rattle.model.specs.Runs.{Effect, silent, action_in, least, least_time, refused_where, entry_refusal, time_refusal, last_time, has_earlier, Future, remainder_of, turn_of, turn_effect, update_effect, action_effect, effect, strobe_lines}
use Rattle.model.proofs.RunLaws.{unless_some, where_none}
use Rattle.model.proofs.TurnLaws.{short_turn_is}
use Rattle.orders.specs.Alike.{times}
use Rattle.loose.specs.Loose.{AlikeIn, loose_refusal, loose_entry_refusal, loose_step}

-- each of these numbers is greater than one
abbrev pub AreAbove : ℕ → List ℕ → Type 0
AreAbove low [] = Unit {0}
AreAbove low (n ∷ ns) = (low < n) × AreAbove low ns

-- none of these numbers is less than one
abbrev AreFrom : ℕ → List ℕ → Type 0
AreFrom low [] = Unit {0}
AreFrom low (n ∷ ns) = (low ≤ n) × AreFrom low ns

-- the nonblocking assignments of a turn aren't due before a time
abbrev AreDueFrom : ℕ → List NonblockingAssignment → Type 0
AreDueFrom now [] = Unit {0}
AreDueFrom now (l ∷ ls) = (now ≤ l.due) × AreDueFrom now ls

-- a wait for a time is for a later one
abbrev WaitsPast : ℕ → Wait → Type 0
WaitsPast now Ended = Unit {0}
WaitsPast now Inactive = Unit {0}
WaitsPast now (Until time) = now < time
WaitsPast now (OnChange triggers) = Unit {0}

abbrev IsTimely : ℕ → Turn → Type 0
IsTimely now turn = AreDueFrom now turn.nbas × WaitsPast now turn.wait

abbrev IsTimelyNext : ℕ → Next → Type 0
IsTimelyNext now (Goes g) = AreDueFrom now g.nbas
IsTimelyNext now (Over turn) = IsTimely now turn

due_from-append : (now : ℕ) (ls : List NonblockingAssignment) (l : NonblockingAssignment) → AreDueFrom now ls → now ≤ l.due → AreDueFrom now (ls ++ l ∷ [])
due_from-append now [] l h le = (le, tt)
due_from-append now (k ∷ ls) l h le = (h.0, due_from-append now ls l h.1 le)

waits-delayed : (now delay : ℕ) → WaitsPast now (delayed now delay)
waits-delayed now zero = tt
waits-delayed now (suc delay) = omega arith

statement_timely : (design : Design) (now : ℕ) (g : Going) (place : ℕ) (s : Statement) (rest : Remainder) → AreDueFrom now g.nbas → IsTimelyNext now (after_statement design now g place s rest)
statement_timely design now g place Empty rest h = h
statement_timely design now g place (Assign r e) rest h = h
statement_timely design now g place (AssignAfter r delay e) rest h = (h, waits-delayed now delay)
statement_timely design now g place (AssignLater r delay e) rest h = due_from-append now g.nbas _ h (omega arith)
statement_timely design now g place (Now r) rest h = h
statement_timely design now g place (Delay delay body) rest h = (h, waits-delayed now delay)
statement_timely design now g place (Await triggers body) rest h = (h, tt)
statement_timely design now g place (If c body otherwise) rest h = h
statement_timely design now g place (While c body) rest h = h
statement_timely design now g place (Print Display format arguments) rest h = h
statement_timely design now g place (Print Write format arguments) rest h = h
statement_timely design now g place (Print Strobe format arguments) rest h = h
statement_timely design now g place Finish rest h = (h, tt)

end_timely : (design : Design) (p now : ℕ) (g : Going) (b : Bool) → AreDueFrom now g.nbas → IsTimelyNext now (if b then goes_on (counted [] g) (whole design p) else stops g Ended false [])
end_timely design p now g true h = h
end_timely design p now g false h = (h, tt)

next_timely : (design : Design) (p now : ℕ) (g : Going) (left : Remainder) → AreDueFrom now g.nbas → IsTimelyNext now (next design p now g left)
next_timely design p now g (At place ∷ rest) h = statement_timely design now g place (statement_at design place) rest h
next_timely design p now g (Set r v ∷ rest) h = h
next_timely design p now g [] h = end_timely design p now g (process_at design p).repeats h

from_next : (now : ℕ) (n : Next) (others : Going → Option Turn) (turn : Turn) → ((g : Going) → AreDueFrom now g.nbas → others g ≡ Some turn → IsTimely now turn) → IsTimelyNext now n → and_then n others ≡ Some turn → IsTimely now turn
from_next now (Goes g) others turn later timely h = later g timely h
from_next now (Over t) others turn later timely h = let same : t ≡ turn = cc in subst (IsTimely now) same timely

turn_timely : (k : ℕ) (design : Design) (p now : ℕ) (g : Going) (turn : Turn) → AreDueFrom now g.nbas → turn_within k design p now g ≡ Some turn → IsTimely now turn
unfolding turn_within
turn_timely zero design p now g turn timely h = cc
turn_timely (suc k) design p now g turn timely h =
    from_next now (next design p now g g.left) (turn_within k design p now) turn (λ g' timely' h'. turn_timely k design p now g' turn timely' h') (next_timely design p now g g.left timely) h

-- every future event is later than the time
abbrev pub IsAhead : State → Type 0
IsAhead s = AreAbove s.time (times s.future_inactive) × AreAbove s.time (times s.future_nonblocking)

above_divided : (low : ℕ) (f g : ℕ × Event) (gs more : List (ℕ × Event)) (b : Bool) → low < f.0 → low < g.0 → AreAbove low (times gs) → AreAbove low (times more) → AreAbove low (times (if b then g ∷ more else f ∷ g ∷ gs))
above_divided low f g gs more true hf hg all others = (hg, others)
above_divided low f g gs more false hf hg all others = (hf, (hg, all))

above-with_due : (low : ℕ) (f : ℕ × Event) (gs : List (ℕ × Event)) → low < f.0 → AreAbove low (times gs) → AreAbove low (times (with_due f gs))
above-with_due low f [] h all = (h, tt)
above-with_due low f (g ∷ gs) h all = above_divided low f g gs (with_due f gs) (nat_le g.0 f.0) h all.0 all.1 (above-with_due low f gs h all.1)

-- the state stands at a time, and every future event is later
abbrev pub IsAheadAt : ℕ → State → Type 0
IsAheadAt time s = (s.time ≡ time) × AreAbove time (times s.future_inactive) × AreAbove time (times s.future_nonblocking)

ahead_if : (time : ℕ) (s t : State) (b : Bool) → IsAheadAt time s → IsAheadAt time t → IsAheadAt time (if b then s else t)
ahead_if time s t true h k = h
ahead_if time s t false h k = k

ahead-change_all : (time : ℕ) (ws : List (ℕ × Vector)) (s : State) → IsAheadAt time s → IsAheadAt time (change_all s ws)
ahead-change_all time [] s h = h
ahead-change_all time (w ∷ ws) s h =
    ahead-change_all time ws (change s w.0 w.1) (ahead_if time s (with_value w.0 w.1 s) (same_vector (value_of s.store w.0) w.1) h h)

ahead_later : (time : ℕ) (s : State) (l : NonblockingAssignment) (b : Bool) → (l.due == s.time) ≡ b → time ≤ l.due → IsAheadAt time s
    → IsAheadAt time (if b then with_nonblocking (Action.Update l.register l.value ∷ []) s else with_future_nonblocking l.due (Action.Update l.register l.value) s)
ahead_later time s l true is le h = h
ahead_later time s l false is le h =
    let later : time < l.due = grind (arith, eqb_tells l.due s.time) in
    (h.0, h.1, above-with_due time (l.due, (s.next_event, Action.Update l.register l.value)) s.future_nonblocking later h.2)

ahead-schedule_all : (time : ℕ) (ls : List NonblockingAssignment) (s : State) → AreDueFrom time ls → IsAheadAt time s → IsAheadAt time (schedule_all s ls)
ahead-schedule_all time [] s due h = h
ahead-schedule_all time (l ∷ ls) s due h =
    ahead-schedule_all time ls (schedule s l) due.1 (ahead_later time s l (l.due == s.time) refl due.0 h)

ahead-schedule_wait : (time p : ℕ) (wait : Wait) (s : State) → WaitsPast time wait → IsAheadAt time s → IsAheadAt time (schedule_wait p wait s)
ahead-schedule_wait time p Ended s past h = h
ahead-schedule_wait time p Inactive s past h = h
ahead-schedule_wait time p (Until due) s past h = (h.0, above-with_due time (due, (s.next_event, Evaluate p)) s.future_inactive past h.1, h.2)
ahead-schedule_wait time p (OnChange triggers) s past h = h

ahead-turned : (s : State) (m p : ℕ) (turn : Turn) → IsTimely s.time turn → IsAhead s → IsAheadAt s.time (turned s m p turn)
ahead-turned s m p turn timely h =
    let t : State = taking m s in
    let begun : IsAheadAt s.time t = (refl, h.0, h.1) in
    let written : IsAheadAt s.time (change_all t turn.writes) = ahead-change_all s.time turn.writes t begun in
    let u : State = schedule_all (change_all t turn.writes) turn.nbas in
    let scheduled : IsAheadAt s.time u = ahead-schedule_all s.time turn.nbas (change_all t turn.writes) timely.0 written in
    let waiting : IsAheadAt s.time (schedule_wait p turn.wait u) = ahead-schedule_wait s.time p turn.wait u timely.1 scheduled in
    waiting

-- what comes of an entry: the same time or the one that it names, with every future event later
abbrev pub time_after : State → Entry → ℕ
time_after s (Advance time) = time
time_after s _ = s.time

ahead_turn : (s : State) (m p : ℕ) (f : Effect) (o : Option Turn) → ((turn : Turn) → o ≡ Some turn → IsTimely s.time turn) → option_map (turn_effect s m p) o ≡ Some f → IsAhead s → IsAheadAt s.time f.state
ahead_turn s m p f None timely h ahead = cc
ahead_turn s m p f (Some turn) timely h ahead =
    let same : turn_effect s m p turn ≡ f = cc in
    rw (← same) (ahead-turned s m p turn (timely turn refl) ahead)

turn_of_timely : (design : Design) (s : State) (p : ℕ) (turn : Turn) → turn_of design s p ≡ Some turn → IsTimely s.time turn
turn_of_timely design s p turn h =
    let (k, found) = (short_turn_is design p (remainder_of s p) s.store s.time turn h).0 in
    turn_timely k design p s.time (begun (remainder_of s p) s.store) turn tt found

ahead_action : (design : Design) (s : State) (m : ℕ) (f : Effect) (o : Option Action) → action_effect design s m o ≡ Some f → IsAhead s → IsAheadAt s.time f.state
ahead_action design s m f None h ahead = cc
ahead_action design s m f (Some (Evaluate p)) h ahead = ahead_turn s m p f (turn_of design s p) (turn_of_timely design s p) h ahead
ahead_action design s m f (Some (Action.Update r v)) h ahead =
    let same : update_effect s m r v ≡ f = cc in
    let t : State = taking m s in
    let begun : IsAheadAt s.time t = (refl, ahead.0, ahead.1) in
    rw (← same) (ahead_if s.time t (with_value r v t) (same_vector (value_of t.store r) v) begun begun)

ahead_silent : (time : ℕ) (t : State) (f : Effect) → Some (silent t) ≡ Some f → IsAheadAt time t → IsAheadAt time f.state
ahead_silent time t f h ahead = let same : silent t ≡ f = cc in rw (← same) ahead

ahead_monitored : (s : State) (lines : List ℕ) (f : Effect) → Some (record { state = monitored s; lines = lines; changes = [] }) ≡ Some f → IsAhead s → IsAheadAt s.time f.state
ahead_monitored s lines f h ahead =
    let e : Effect = record { state = monitored s; lines = lines; changes = [] } in
    let same : e ≡ f = cc in
    rw (← same) (refl, ahead.0, ahead.1)

-- an advance is to the least of the times

due_is : (time : ℕ) (o : Option ℕ) → time_refusal time o ≡ None → o ≡ Some time
due_is time None h = cc
due_is time (Some due) h =
    let right : not (due == time) ≡ false = (where_none (not (due == time)) WrongTime (refused_where (nat_lt last_time time) PastLimit None) h).0 in
    let same : due ≡ time = grind (arith, eqb_tells due time) in
    ap (λ (n : ℕ). Some n) same

pub advance_due : (s : State) (time : ℕ) → entry_refusal s (Advance time) ≡ None → least_time s ≡ Some time
advance_due s time h = due_is time (least_time s) (where_none (has_earlier Future s) NotDue (time_refusal time (least_time s)) h).1

above_least : (low n t : ℕ) (o : Option ℕ) → ((u : ℕ) → o ≡ Some u → low < u) → low < n → Some (option_map_or (min n) o n) ≡ Some t → low < t
above_least low n t None others h is = let same : n ≡ t = cc in omega (arith, same)
above_least low n t (Some u) others h is = let same : min n u ≡ t = cc in let more : low < u = others u refl in omega (arith, same)

least_above : (low : ℕ) (ns : List ℕ) (t : ℕ) → AreAbove low ns → least ns ≡ Some t → low < t
least_above low [] t all is = cc
least_above low (n ∷ ns) t all is = above_least low n t (least ns) (λ u h. least_above low ns u all.1 h) all.0 is

from_less : (low low' : ℕ) (ns : List ℕ) → low ≤ low' → AreFrom low' ns → AreFrom low ns
from_less low low' [] le h = tt
from_less low low' (n ∷ ns) le h = (omega (arith, h.0), from_less low low' ns le h.1)

from_none : (low : ℕ) (ns : List ℕ) → least ns ≡ None → AreFrom low ns
from_none low [] h = tt
from_none low (n ∷ ns) h = cc

from_some : (n t : ℕ) (ns : List ℕ) (o : Option ℕ) → least ns ≡ o → ((u : ℕ) → least ns ≡ Some u → AreFrom u ns) → Some (option_map_or (min n) o n) ≡ Some t → AreFrom t (n ∷ ns)
from_some n t ns None was others is = let same : n ≡ t = cc in (omega (arith, same), from_none t ns was)
from_some n t ns (Some u) was others is =
    let same : min n u ≡ t = cc in
    (omega (arith, same), from_less t u ns (omega (arith, same)) (others u was))

least_from : (ns : List ℕ) (t : ℕ) → least ns ≡ Some t → AreFrom t ns
least_from [] t is = cc
least_from (n ∷ ns) t is = from_some n t ns (least ns) refl (λ u h. least_from ns u h) is

above-append : (low : ℕ) (fs gs : List (ℕ × Event)) → AreAbove low (times fs) → AreAbove low (times gs) → AreAbove low (times (fs ++ gs))
above-append low [] gs h k = k
above-append low (f ∷ fs) gs h k = (h.0, above-append low fs gs h.1 k)

from_first : (low : ℕ) (fs gs : List (ℕ × Event)) → AreFrom low (times (fs ++ gs)) → AreFrom low (times fs)
from_first low [] gs h = tt
from_first low (f ∷ fs) gs h = (h.0, from_first low fs gs h.1)

from_second : (low : ℕ) (fs gs : List (ℕ × Event)) → AreFrom low (times (fs ++ gs)) → AreFrom low (times gs)
from_second low [] gs h = h
from_second low (f ∷ fs) gs h = from_second low fs gs h.1

above_other : (time : ℕ) (f : ℕ × Event) (more : List (ℕ × Event)) (b : Bool) → (f.0 == time) ≡ b → time ≤ f.0 → AreAbove time (times more) → AreAbove time (times (cond (not b) (f ∷ more) more))
above_other time f more true is le h = h
above_other time f more false is le h = (grind (arith, eqb_tells f.0 time), h)

above-due_else : (time : ℕ) (fs : List (ℕ × Event)) → AreFrom time (times fs) → AreAbove time (times (due_else time fs))
above-due_else time [] h = tt
above-due_else time (f ∷ fs) h = above_other time f (due_else time fs) (f.0 == time) refl h.0 (above-due_else time fs h.1)

-- where an advance is permitted it goes to a later time
later_time : (s : State) (time : ℕ) → entry_refusal s (Advance time) ≡ None → IsAhead s → s.time < time
later_time s time none ahead =
    least_above s.time (times (s.future_inactive ++ s.future_nonblocking)) time (above-append s.time s.future_inactive s.future_nonblocking ahead.0 ahead.1) (advance_due s time none)

ahead_advanced : (s : State) (time : ℕ) → entry_refusal s (Advance time) ≡ None → IsAheadAt time (advanced s time)
ahead_advanced s time none =
    let all : AreFrom time (times (s.future_inactive ++ s.future_nonblocking)) = least_from (times (s.future_inactive ++ s.future_nonblocking)) time (advance_due s time none) in
    (refl, above-due_else time s.future_inactive (from_first time s.future_inactive s.future_nonblocking all), above-due_else time s.future_nonblocking (from_second time s.future_inactive s.future_nonblocking all))

ahead_effect : (class : ℕ → ℕ) (design : Design) (s : State) (entry : Entry) (f : Effect) → loose_entry_refusal class s entry ≡ None → effect design s entry ≡ Some f → IsAhead s → IsAheadAt (time_after s entry) f.state
ahead_effect class design s (Entry.Turn m) f none h ahead = ahead_action design s m f (action_in s.active m) h ahead
ahead_effect class design s (Update m) f none h ahead = ahead_action design s m f (action_in s.active m) h ahead
ahead_effect class design s ActivateInactive f none h ahead = ahead_silent s.time (inactive_activated s) f h (refl, ahead.0, ahead.1)
ahead_effect class design s ActivateNba f none h ahead = ahead_silent s.time (nonblocking_activated s) f h (refl, ahead.0, ahead.1)
ahead_effect class design s ActivateMonitor f none h ahead = ahead_monitored s (strobe_lines design s) f h ahead
ahead_effect class design s (Advance time) f none h ahead = ahead_silent time (advanced s time) f h (ahead_advanced s time none)

-- what a loose step needs: the entry isn't refused, and this comes of it
abbrev pub IsTaken : (ℕ → ℕ) → Design → State → Entry → Effect → Type 0
IsTaken class design s entry f = (loose_entry_refusal class s entry ≡ None) × (effect design s entry ≡ Some f)

pub loose_step_taken : (class : ℕ → ℕ) (design : Design) (s : State) (entry : Entry) (f : Effect) → loose_step class design s entry ≡ Some f → IsTaken class design s entry f
loose_step_taken class design s entry f h =
    let parts : (loose_refusal class s entry ≡ None) × (effect design s entry ≡ Some f) = unless_some (loose_refusal class s entry) (effect design s entry) f h in
    ((where_none s.finished Finished (loose_entry_refusal class s entry) parts.0).1, parts.1)

-- every future event is later than the time after a loose step too
pub ahead_loose_step : (class : ℕ → ℕ) (design : Design) (s : State) (entry : Entry) (f : Effect) → loose_step class design s entry ≡ Some f → IsAhead s → IsAheadAt (time_after s entry) f.state
ahead_loose_step class design s entry f h ahead =
    let (none, comes) = loose_step_taken class design s entry f h in
    ahead_effect class design s entry f none comes ahead

-- an advance is to a later time
pub advance_later : (class : ℕ → ℕ) (design : Design) (s : State) (time : ℕ) (f : Effect) → loose_step class design s (Advance time) ≡ Some f → IsAhead s → s.time < time
advance_later class design s time f h ahead =
    let (none, comes) = loose_step_taken class design s (Advance time) f h in
    later_time s time none ahead

pub ahead_still : (time : ℕ) (s : State) → IsAheadAt time s → IsAhead s
ahead_still time s h = subst (λ (t : ℕ). AreAbove t (times s.future_inactive) × AreAbove t (times s.future_nonblocking)) (sym h.0) (h.1, h.2)

-- and so it is in a state that is alike in classes
pub ahead_alike : (class : ℕ → ℕ) (s t : State) → AlikeIn class s t → IsAhead s → IsAhead t
ahead_alike class s t alike (inactive, nonblocking) = (
  subst (λ (l : List ℕ). AreAbove t.time l) alike.future_inactive.times (subst (λ (n : ℕ). AreAbove n (times s.future_inactive)) alike.time inactive),
  subst (λ (l : List ℕ). AreAbove t.time l) alike.future_nonblocking.times (subst (λ (n : ℕ). AreAbove n (times s.future_nonblocking)) alike.time nonblocking),
)
