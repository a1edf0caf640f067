-- The steps of a turn, one after another.
use Rattle.std.proofs.Common.{◌≡◌, ℕ, zero, suc, ◌+◌, ◌≤◌, Bool, true, false, nat_le, List, [], ◌∷◌, ◌++◌, map, length, replicate, Option, Some, None, refl, sym, ap, ◌∙◌, arith, zero-add, add-one, subst, if◌then◌else◌}
use Rattle.std.specs.Prelude.{slice_get, slice_index_or, is_some}
use Rattle.std.specs.Option.{IsSomeAnd, option_and_then, option_map}
use Rattle.std.specs.List.{All}
use Rattle.std.proofs.lemmas.List.{length-replicate}
use Rattle.std.proofs.lemmas.List.Elements.{All-nil}
use Rattle.logic4.specs.Vector.{Vector}
use Rattle.model.specs.declared.tree.Task.TheVariants as Task
use Rattle.model.specs.Design as tree
use Rattle.model.specs.Design.{Design, Statement, process_at, statement_at}
use Rattle.model.specs.Expressions.{Store}
use Rattle.model.specs.Turns as turns
use Rattle.model.specs.Turns.{At, Remainder, Turn, Going, Next, begun, next, after_statement, and_then, turn_within, most_steps, if_short, short_turn, goes_on, counted, whole, stops}
use Rattle.model.proofs.TurnLaws.{short_turn_found}
use Rattle.design.specs.declared.code.Node.{Node}
use Rattle.design.specs.declared.code.Node.TheVariants as node
use Rattle.design.specs.declared.code.Op.{Op}
use Rattle.design.specs.declared.code.ProcState.{ProcState}
use Rattle.design.specs.declared.code.LinePiece.{LinePiece}
use Rattle.design.specs.Fits.{FitsRegister}
use Rattle.design.specs.CodePlaces.{remainder_at}
use Rattle.design.specs.Compiled.{Compiled, design_of}
use Rattle.design.specs.Meaning.{IsFine, IsCompiled}
use Rattle.design.specs.DesignInvariant.{pending_part, remainder_of_state, controls_of, IsStateOf}
use Rattle.turn.specs.declared.log.Suspend.{Suspend}
use Rattle.turn.specs.declared.log.Suspend.TheVariants as suspends
use Rattle.turn.specs.declared.machine.Step.{Step}
use Rattle.turn.specs.declared.machine.Step.TheVariants as step
use Rattle.turn.specs.Reads.{registers, AreDeclared, Agrees}
use Rattle.turn.specs.Partial.{under_way, going_after, long_turn_uses}
use Rattle.turn.specs.Evaluate.{Knows}
use Rattle.turn.specs.RunningTurn.{Status, fresh}
use Rattle.turn.specs.TurnSteps.{TakesStep, TakesSome, TakesPending, IsEndNode, IsAtEnd}
use Rattle.turn.specs.TurnChanges.{turn_changes_of}
use Rattle.turn.specs.TurnLogs.{LogView, assignment_of, wait_of, IsLogOf}
use Rattle.turn.specs.TurnAnswers.{IsTurnLog}
use Rattle.turn.proofs.Steps.{going_of, turn_of, Sound, takes_follows, not_past, place_within}

-- After this many counted steps the turn is under way as the status says, on every store that agrees with the reads so
-- far: the values of registers that weren't read count for nothing.
pub record ReachedIn (code : Compiled) (p now : ℕ) (state : ProcState) (count : ℕ) (s : Status) : Type 0 where
  pub sound : Sound code p s
  pub goes : (store : Store) → length store ≡ length code.widths → Agrees s.reads store → (k : ℕ) → turn_within (count + k) (design_of code) p now (begun (remainder_of_state code state) store) ≡ turn_within k (design_of code) p now (going_of code store count s)
  pub passed : (store : Store) → length store ≡ length code.widths → Agrees s.reads store → going_after count (design_of code) p now (begun (remainder_of_state code state) store) ≡ Some (going_of code store count s)

-- the same for each process with this state
abbrev pub Reached : Compiled → ProcState → ℕ → ℕ → Status → Type 0
Reached code state now count s = (p : ℕ) → IsStateOf code p state → ReachedIn code p now state count s

-- ---- the beginning

-- what is known of a register at first
abbrev nothing : Option Vector
nothing = None

none_known : (n r : ℕ) (v : Vector) → slice_index_or (replicate n nothing) r None ≡ Some v → ⊥
none_known zero r v e = cc
none_known (suc n) zero v e = cc
none_known (suc n) (suc r) v e = none_known n r v e

none_marked : (n r : ℕ) → is_some (slice_index_or (replicate n nothing) r None) ≡ false
none_marked zero r = refl
none_marked (suc n) zero = refl
none_marked (suc n) (suc r) = none_marked n r

pub knows_none : (n : ℕ) → Knows [] [] (replicate n nothing)
knows_none n = record {
  holds = λ store len agree r v e. absurd (none_known n r v e);
  declared = All-nil _;
  marks = λ r lt. none_marked n r;
}

after_none : (design : Design) (p now : ℕ) (g : Going) → going_after 0 design p now g ≡ Some g
unfolding going_after
after_none design p now g = refl

pub reached_none : (code : Compiled) (state : ProcState) (now : ℕ) → Reached code state now 0 (fresh state (length code.widths))
reached_none code state now p start = record {
  sound = record {
    state = start;
    size = length-replicate _ _;
    knows = knows_none (length code.widths);
    writes = All-nil _;
    nbas = All-nil _;
  };
  goes = λ store len agree k. ap (λ n. turn_within n (design_of code) p now (begun (remainder_of_state code state) store)) (zero-add k);
  passed = λ store len agree. after_none (design_of code) p now (begun (remainder_of_state code state) store);
}

-- ---- one step more

goes_more : (design : Design) (p now k : ℕ) (g h : Going) → next design p now g g.left ≡ turns.Goes h → turn_within (suc k) design p now g ≡ turn_within k design p now h
unfolding turn_within
goes_more design p now k g h e = rw e refl

after_more : (design : Design) (p now k : ℕ) (g h i : Going) → going_after k design p now g ≡ Some h → next design p now h h.left ≡ turns.Goes i → going_after (k + 1) design p now g ≡ Some i
unfolding going_after
after_more design p now k g h i e f =
    ap (λ n. going_after n design p now g) (add-one k) ∙ ap (option_and_then (λ j. under_way (next design p now j j.left))) e ∙ ap under_way f

over_more : (design : Design) (p now k : ℕ) (g : Going) (turn : Turn) → next design p now g g.left ≡ turns.Over turn → turn_within (suc k) design p now g ≡ Some turn
unfolding turn_within
over_more design p now k g turn e = rw e refl

pub reached_more : (code : Compiled) → IsCompiled code → (state : ProcState) (now count : ℕ) (s s' : Status) → Reached code state now count s → TakesStep code.nodes code.ops code.shown now s step.Goes s' → Reached code state now (count + 1) s'
reached_more code is state now count s s' reached takes p start =
    let r = reached p start in
    let f = takes_follows code p now is s step.Goes s' r.sound takes in
    record {
      sound = f.sound;
      goes = λ store len agree k.
          let sum : count + 1 + k ≡ count + suc k = omega arith in
          ap (λ n. turn_within n (design_of code) p now (begun (remainder_of_state code state) store)) sum
          ∙ r.goes store len (f.agrees store agree) (suc k)
          ∙ goes_more (design_of code) p now k (going_of code store count s) (going_of code store (count + 1) s') (f.goes store count len agree);
      passed = λ store len agree.
          after_more (design_of code) p now count (begun (remainder_of_state code state) store) (going_of code store count s) (going_of code store (count + 1) s')
          (r.passed store len (f.agrees store agree)) (f.goes store count len agree);
    }

-- ---- the end

-- a step that ends the turn
pub record Ends (code : Compiled) (p now count : ℕ) (s s' : Status) (suspend : Suspend) (finish : Bool) (n : ℕ) : Type 0 where
  pub sound : Sound code p s'
  pub agrees : (store : Store) → Agrees s'.reads store → Agrees s.reads store
  pub over : (store : Store) → length store ≡ length code.widths → Agrees s'.reads store → next (design_of code) p now (going_of code store count s) (remainder_of_state code s.state) ≡ turns.Over (turn_of code s' suspend finish n)

pub ends_over : (code : Compiled) → IsCompiled code → (p now count : ℕ) (s s' : Status) → TakesStep code.nodes code.ops code.shown now s step.Over s' → Sound code p s → Ends code p now count s s' suspends.Ended false count
ends_over code is p now count s s' takes sound =
    let f = takes_follows code p now is s step.Over s' sound takes in
    record { sound = f.sound; agrees = f.agrees; over = λ store len agree. f.goes store count len agree }

pub ends_counted : (code : Compiled) → IsCompiled code → (p now count : ℕ) (s s' : Status) (suspend : Suspend) (finish : Bool) → TakesStep code.nodes code.ops code.shown now s (step.Ends suspend finish) s' → Sound code p s → Ends code p now count s s' suspend finish (count + 1)
ends_counted code is p now count s s' suspend finish takes sound =
    let f = takes_follows code p now is s (step.Ends suspend finish) s' sound takes in
    record { sound = f.sound; agrees = f.agrees; over = λ store len agree. f.goes store count len agree }

-- the log says what the status does
pub record Logs (log : LogView) (s : Status) (suspend : Suspend) (finish : Bool) (n : ℕ) : Type 0 where
  pub reads : log.reads ≡ s.reads
  pub writes : log.writes ≡ s.writes
  pub turn_changes : log.turn_changes ≡ turn_changes_of s.writes
  pub nbas : log.nbas ≡ s.nbas
  pub lines : log.lines ≡ s.lines
  pub strobes : log.strobes ≡ s.strobes
  pub next : log.next ≡ s.state
  pub waits : log.suspend ≡ suspend
  pub finishes : log.finish ≡ finish
  pub count : log.count ≡ n

log_is : (code : Compiled) (log : LogView) (s : Status) (suspend : Suspend) (finish : Bool) (n : ℕ) → Logs log s suspend finish n → IsLogOf (remainder_of_state code) (controls_of code) log (turn_of code s suspend finish n)
log_is code log s suspend finish n l = record {
  uses = ap registers l.reads;
  writes = l.writes;
  nbas = ap (map assignment_of) l.nbas;
  lines = l.lines;
  strobes = l.strobes;
  rest = ap (remainder_of_state code) l.next;
  wait = ap (wait_of code.controls) l.waits;
  finish = l.finishes;
  count = l.count;
}

-- the log of a turn that is over
pub is_log : (code : Compiled) (state : ProcState) (now count : ℕ) (s s' : Status) (suspend : Suspend) (finish : Bool) (n : ℕ) (log : LogView) → Reached code state now count s → ((p : ℕ) → Sound code p s → Ends code p now count s s' suspend finish n) → n ≤ most_steps → Logs log s' suspend finish n → IsTurnLog code state now log
is_log code state now count s s' suspend finish n log reached ends short l = record {
  turn = λ p start store len agree.
      let r = reached p start in
      let f = ends p r.sound in
      let agree' : Agrees s'.reads store = subst (λ reads. Agrees reads store) l.reads agree in
      let turn = turn_of code s' suspend finish n in
      let found : turn_within (count + 1) (design_of code) p now (begun (remainder_of_state code state) store) ≡ Some turn =
      r.goes store len (f.agrees store agree') 1 ∙ over_more (design_of code) p now 0 (going_of code store count s) turn (f.over store len agree') in
      subst (λ o. IsSomeAnd o (IsLogOf (remainder_of_state code) (controls_of code) log))
      (sym (short_turn_found (design_of code) p (remainder_of_state code state) store now turn (count + 1, found) short))
      (log_is code log s' suspend finish n l);
  declared = λ p start.
      let f = (ends p (reached p start).sound).sound in
      subst (λ reads. AreDeclared (length code.widths) reads) (sym l.reads) (subst (λ n. AreDeclared n s'.reads) f.size f.knows.declared);
  next = λ p start. subst (IsStateOf code p) (sym l.next) (ends p (reached p start).sound).sound.state;
  fits = λ p start.
      let f = (ends p (reached p start).sound).sound in
      record {
        writes = subst (All (λ w. FitsRegister code.widths w.0 w.1)) (sym l.writes) f.writes;
        turn_changes = l.turn_changes ∙ ap turn_changes_of (sym l.writes);
        nbas = subst (All (λ n. FitsRegister code.widths n.reg n.value)) (sym l.nbas) f.nbas;
      };
}

-- at the end of an initial construct the next step ends the turn
end_node : (o : Option Node) (code : Compiled) (now : ℕ) (s : Status) → IsEndNode o → TakesSome code.ops code.shown now o s step.Over s
end_node (Some node.Over) code now s h = (refl, refl)
end_node (Some (node.Restart a)) code now s h = absurd h
end_node (Some (node.Skip a)) code now s h = absurd h
end_node (Some (node.Assign a b c)) code now s h = absurd h
end_node (Some (node.AssignAfter a b c d)) code now s h = absurd h
end_node (Some (node.AssignLater a b c d)) code now s h = absurd h
end_node (Some (node.Now a b c)) code now s h = absurd h
end_node (Some (node.Delay a b)) code now s h = absurd h
end_node (Some (node.Await a b)) code now s h = absurd h
end_node (Some (node.Branch a b c)) code now s h = absurd h
end_node (Some (node.Print a b c)) code now s h = absurd h
end_node (Some (node.Finish a)) code now s h = absurd h
end_node None code now s h = absurd h

end_pending : (o : Option (ℕ × Vector)) (code : Compiled) (now : ℕ) (s : Status) → o ≡ None → IsEndNode (slice_get code.nodes s.state.place) → TakesPending code.nodes code.ops code.shown now o s step.Over s
end_pending None code now s e h = end_node (slice_get code.nodes s.state.place) code now s h
end_pending (Some w) code now s e h = cc

pub end_takes : (code : Compiled) (now : ℕ) (s : Status) → IsAtEnd code.nodes s.state → TakesStep code.nodes code.ops code.shown now s step.Over s
end_takes code now s (e, h) = end_pending s.state.pending code now s e h

-- ---- turns that are too long

-- a turn that has made as many counted steps as it may, and isn't at its end, isn't short
IsLong : Next → Type 0
IsLong (turns.Goes h) = Unit {0}
IsLong (turns.Over turn) = turn.count ≡ most_steps + 1

none_within : (design : Design) (p now : ℕ) (g : Going) → turn_within 0 design p now g ≡ None
unfolding turn_within
none_within design p now g = refl

one_within : (design : Design) (p now : ℕ) (g : Going) → turn_within 1 design p now g ≡ and_then (next design p now g g.left) (turn_within 0 design p now)
unfolding turn_within
one_within design p now g = refl

long_none : (design : Design) (p now : ℕ) (n : Next) → IsLong n → if_short (and_then n (turn_within 0 design p now)) ≡ None
unfolding IsLong
long_none design p now (turns.Goes h) l = ap if_short (none_within design p now h)
long_none design p now (turns.Over t) l = ap (λ n. if nat_le n most_steps then Some t else None) l

statement_long : (design : Design) (now : ℕ) (g : Going) (place : ℕ) (s : Statement) (rest : Remainder) → g.count ≡ most_steps → IsLong (after_statement design now g place s rest)
unfolding IsLong
statement_long design now g place tree.Empty rest e = tt
statement_long design now g place (tree.Assign r x) rest e = tt
statement_long design now g place (tree.AssignAfter r d x) rest e = ap (λ n. n + 1) e
statement_long design now g place (tree.AssignLater r d x) rest e = tt
statement_long design now g place (tree.Now r) rest e = tt
statement_long design now g place (tree.Delay d body) rest e = ap (λ n. n + 1) e
statement_long design now g place (tree.Await triggers body) rest e = ap (λ n. n + 1) e
statement_long design now g place (tree.If c body otherwise) rest e = tt
statement_long design now g place (tree.While c body) rest e = tt
statement_long design now g place (tree.Print Task.Display format arguments) rest e = tt
statement_long design now g place (tree.Print Task.Write format arguments) rest e = tt
statement_long design now g place (tree.Print Task.Strobe format arguments) rest e = tt
statement_long design now g place tree.Finish rest e = ap (λ n. n + 1) e

restart_long : (b : Bool) (design : Design) (p : ℕ) (g : Going) → b ≡ true → IsLong (if b then goes_on (counted [] g) (whole design p) else stops g turns.Ended false [])
unfolding IsLong
restart_long true design p g e = tt
restart_long false design p g e = cc

place_long : (design : Design) (p now : ℕ) (g : Going) (left rest : Remainder) (place : ℕ) → left ≡ At place ∷ rest → g.count ≡ most_steps → IsLong (next design p now g left)
place_long design p now g left rest place e c = subst (λ l. IsLong (next design p now g l)) (sym e) (statement_long design now g place (statement_at design place) rest c)

node_long : (code : Compiled) (p now : ℕ) (i : Node) (g : Going) (left : Remainder) → IsFine code p i left → (IsEndNode (Some i) → ⊥) → g.count ≡ most_steps → IsLong (next (design_of code) p now g left)
node_long code p now node.Over g left fine not c = absurd (not tt)
node_long code p now (node.Restart to) g left (e, again, there, within) not c = subst (λ l. IsLong (next (design_of code) p now g l)) (sym e) (restart_long (process_at (design_of code) p).repeats (design_of code) p g again)
node_long code p now (node.Skip to) g left (place, h) not c = place_long (design_of code) p now g left _ place h.0 c
node_long code p now (node.Assign q span to) g left (place, (x, h)) not c = place_long (design_of code) p now g left _ place h.0 c
node_long code p now (node.AssignAfter q delay span to) g left (place, (x, h)) not c = place_long (design_of code) p now g left _ place h.0 c
node_long code p now (node.AssignLater q delay span to) g left (place, (x, h)) not c = place_long (design_of code) p now g left _ place h.0 c
node_long code p now (node.Now q digits to) g left (place, h) not c = place_long (design_of code) p now g left _ place h.0 c
node_long code p now (node.Delay delay to) g left (place, (body, (rest, h))) not c = place_long (design_of code) p now g left rest place h.0 c
node_long code p now (node.Await control to) g left (place, (body, (rest, (triggers, h)))) not c = place_long (design_of code) p now g left rest place h.0 c
node_long code p now (node.Branch span taken missed) g left (place, (x, (rest, h))) not c = place_long (design_of code) p now g left rest place h.0 c
node_long code p now (node.Print task span to) g left (place, (format, (arguments, h))) not c = place_long (design_of code) p now g left _ place h.0 c
node_long code p now (node.Finish to) g left (place, h) not c = place_long (design_of code) p now g left _ place h.0 c

some_long : (o : Option Node) (code : Compiled) (p now : ℕ) (s : ProcState) (g : Going) → IsCompiled code → IsStateOf code p s → slice_get code.nodes s.place ≡ o → (IsEndNode o → ⊥) → g.count ≡ most_steps → IsLong (next (design_of code) p now g (remainder_at (design_of code) s.place))
some_long None code p now s g is state found not c = absurd (not_past code.nodes s.place (place_within code p s is state) found)
some_long (Some i) code p now s g is state found not c = node_long code p now i g (remainder_at (design_of code) s.place) (is.fine p s.place i state.process state.place found) not c

pending_long : (o : Option (ℕ × Vector)) (code : Compiled) (p now : ℕ) (s : ProcState) (g : Going) → IsCompiled code → IsStateOf code p s → (o ≡ None → IsEndNode (slice_get code.nodes s.place) → ⊥) → g.count ≡ most_steps → IsLong (next (design_of code) p now g (pending_part o ++ remainder_at (design_of code) s.place))
unfolding IsLong
pending_long None code p now s g is state not c = some_long (slice_get code.nodes s.place) code p now s g is state refl (not refl) c
pending_long (Some w) code p now s g is state not c = tt

pub too_long : (code : Compiled) → IsCompiled code → (state : ProcState) (now count : ℕ) (s : Status) → Reached code state now count s → count ≡ most_steps → (IsAtEnd code.nodes s.state → ⊥) → (p : ℕ) → IsStateOf code p state → (store : Store) → length store ≡ length code.widths → Agrees s.reads store → short_turn (design_of code) p (remainder_of_state code state) store now ≡ None
too_long code is state now count s reached full not p start store len agree =
    let r = reached p start in
    let g = going_of code store count s in
    let long : IsLong (next (design_of code) p now g g.left) = pending_long s.state.pending code p now s.state g is r.sound.state (λ e h. not (e, h)) full in
    ap if_short (ap (λ n. turn_within (n + 1) (design_of code) p now (begun (remainder_of_state code state) store)) (sym full) ∙ r.goes store len agree 1 ∙ one_within (design_of code) p now g)
    ∙ long_none (design_of code) p now (next (design_of code) p now g g.left) long

-- and its reads are what these steps used
pub uses_first : (code : Compiled) (state : ProcState) (now count : ℕ) (s : Status) → Reached code state now count s → count ≡ most_steps → (p : ℕ) → IsStateOf code p state → (store : Store) → length store ≡ length code.widths → Agrees s.reads store → long_turn_uses (design_of code) p (remainder_of_state code state) store now ≡ Some (registers s.reads)
uses_first code state now count s reached full p start store len agree =
    ap (λ n. option_map (λ (g : Going). g.uses) (going_after n (design_of code) p now (begun (remainder_of_state code state) store))) (sym full)
    ∙ ap (option_map (λ (g : Going). g.uses)) ((reached p start).passed store len agree)

-- and they are of declared registers
pub reads_declared : (code : Compiled) (state : ProcState) (now count : ℕ) (s : Status) → Reached code state now count s → (p : ℕ) → IsStateOf code p state → AreDeclared (length code.widths) s.reads
reads_declared code state now count s reached p start =
    let f = (reached p start).sound in
    subst (λ n. AreDeclared n s.reads) f.size f.knows.declared

-- a step over the lists that the program has
pub taken : (code : Compiled) (nodes : List Node) (ops : List Op) (shown : List LinePiece) (now : ℕ) (s : Status) (r r' : Step) (s' : Status) → nodes ≡ code.nodes → ops ≡ code.ops → shown ≡ code.shown → r ≡ r' → TakesStep nodes ops shown now s r s' → TakesStep code.nodes code.ops code.shown now s r' s'
taken code nodes ops shown now s r r' s' e1 e2 e3 e4 t = rw (← e1, ← e2, ← e3, ← e4) t
