-- Each step of the machine is a step of the remainder, on every store that agrees with what was read.
use Rattle.std.proofs.Common.{◌≡◌, ℕ, zero, suc, ◌+◌, ◌<◌, ◌≤◌, Bool, true, false, if◌then◌else◌, List, [], ◌∷◌, ◌++◌, map, take, length, length-append, Option, Some, None, refl, sym, ap, ◌∙◌, arith, ⊎_elim, subst, get_or}
use Rattle.std.specs.Prelude.{slice_get, slice_set, slice_index, slice_index_or}
use Rattle.std.specs.List.{All}
use Rattle.std.proofs.lemmas.List.{append-nil, map-append, length-set}
use Rattle.std.proofs.lemmas.List.Elements.{All-push}
use Rattle.std.proofs.lemmas.Option.{slice_get-get_or}
use Rattle.logic4.specs.declared.digit.Truth.{Truth}
use Rattle.logic4.specs.declared.digit.Truth.TheVariants.{False, True, Unknown}
use Rattle.logic4.specs.Vector.{Vector, vector}
use Rattle.logic4.proofs.Lengths.{length-vector}
use Rattle.logic4.specs.Operators.{truth}
use Rattle.model.specs.declared.tree.Task.TheVariants as Task
use Rattle.model.specs.Syntax.{Expression, Expressions, registers_of}
use Rattle.model.specs.Design as tree
use Rattle.model.specs.Design.{Statement, Statements, Trigger, Process, statement_at, process_at, all_statements, all_of, size}
use Rattle.model.specs.Syntax.{Piece}
use Rattle.model.specs.Expressions.{Store, own_value, assigned_value}
use Rattle.model.specs.Turns as turns
use Rattle.model.specs.Turns.{At, Set, Remainder, Turn, Going, parts, whole, next, after_statement, counted, goes_on, stops, delayed, time_value, where_true}
use Rattle.design.specs.declared.code.Node.{Node}
use Rattle.design.specs.declared.code.Node.TheVariants as node
use Rattle.design.specs.declared.code.ProcState.{ProcState}
use Rattle.design.specs.declared.code.Span.{Span}
use Rattle.design.specs.ExpressionSteps.{span_of, IsOpOf}
use Rattle.design.specs.Fits.{FitsRegister}
use Rattle.design.specs.CodePlaces.{remainder_at, IsPlaceOf}
use Rattle.design.specs.Compiled.{Compiled, design_of}
use Rattle.design.specs.Meaning.{IsTest, IsFine, IsCompiled}
use Rattle.design.proofs.Numbered.{place_named}
use Rattle.design.specs.DesignInvariant.{pending_part, remainder_of_state, IsPending, IsStateOf}
use Rattle.turn.specs.declared.log.Suspend.{Suspend}
use Rattle.turn.specs.declared.log.Suspend.TheVariants as suspends
use Rattle.turn.specs.declared.machine.Step.{Step}
use Rattle.turn.specs.declared.machine.Step.TheVariants as step
use Rattle.turn.specs.Reads.{registers, Agrees}
use Rattle.turn.specs.Evaluate.{Knows, written}
use Rattle.turn.specs.RunningTurn.{Status, at, writing, holding, delaying, printing, wait_for, chosen_place, strobing}
use Rattle.turn.specs.TurnSteps.{TakesNode, TakesSome, TakesPending, TakesStep}
use Rattle.turn.specs.TurnLogs.{assignment_of, wait_of}
use Rattle.turn.proofs.Known.{written-append}
use Rattle.turn.proofs.Values.{all_piece, Gets, gets, length-assigned, knows_write, Lined, lined}

-- a turn under way, on a store
abbrev pub going_of : Compiled → Store → ℕ → Status → Going
going_of code store count s = record {
  left = remainder_of_state code s.state;
  values = written store s.writes;
  uses = registers s.reads;
  writes = s.writes;
  nbas = map assignment_of s.nbas;
  lines = s.lines;
  strobes = s.strobes;
  count = count;
}

-- a turn that is over
abbrev pub turn_of : Compiled → Status → Suspend → Bool → ℕ → Turn
turn_of code s suspend finish count = record {
  uses = registers s.reads;
  writes = s.writes;
  nbas = map assignment_of s.nbas;
  lines = s.lines;
  strobes = s.strobes;
  rest = remainder_of_state code s.state;
  wait = wait_of code.controls suspend;
  finish = finish;
  count = count;
}

-- what holds between steps
pub record Sound (code : Compiled) (p : ℕ) (s : Status) : Type 0 where
  pub state : IsStateOf code p s.state
  pub size : length s.known ≡ length code.widths
  pub knows : Knows s.writes s.reads s.known
  pub writes : All (λ w. FitsRegister code.widths w.0 w.1) s.writes
  pub nbas : All (λ n. FitsRegister code.widths n.reg n.value) s.nbas

-- the step on a store that agrees
abbrev pub StepOn : Compiled → ℕ → ℕ → Store → ℕ → Status → Step → Status → Type 0
StepOn code p now store count s step.Goes s' =
    next (design_of code) p now (going_of code store count s) (remainder_of_state code s.state) ≡ turns.Goes (going_of code store (count + 1) s')
StepOn code p now store count s step.Over s' =
    next (design_of code) p now (going_of code store count s) (remainder_of_state code s.state) ≡ turns.Over (turn_of code s' suspends.Ended false count)
StepOn code p now store count s (step.Ends suspend finish) s' =
    next (design_of code) p now (going_of code store count s) (remainder_of_state code s.state) ≡ turns.Over (turn_of code s' suspend finish (count + 1))

pub record Follows (code : Compiled) (p now : ℕ) (s : Status) (r : Step) (s' : Status) : Type 0 where
  pub sound : Sound code p s'
  pub agrees : (store : Store) → Agrees s'.reads store → Agrees s.reads store
  pub goes : (store : Store) (count : ℕ) → length store ≡ length code.widths → Agrees s'.reads store → StepOn code p now store count s r s'

goes_eq : (left left' : Remainder) (values values' : Store) (uses uses' : List ℕ) (writes writes' : List (ℕ × Vector)) (nbas nbas' : List turns.NonblockingAssignment) (lines lines' : List ℕ) (strobes : List ℕ) (count : ℕ) → left ≡ left' → values ≡ values' → uses ≡ uses' → writes ≡ writes' → nbas ≡ nbas' → lines ≡ lines' → turns.Goes (record { left = left; values = values; uses = uses; writes = writes; nbas = nbas; lines = lines; strobes = strobes; count = count }) ≡ turns.Goes (record { left = left'; values = values'; uses = uses'; writes = writes'; nbas = nbas'; lines = lines'; strobes = strobes; count = count })
goes_eq left left' values values' uses uses' writes writes' nbas nbas' lines lines' strobes count a b c d e f = rw (a, b, c, d, e, f) refl

over_eq : (uses uses' : List ℕ) (writes : List (ℕ × Vector)) (nbas : List turns.NonblockingAssignment) (lines strobes : List ℕ) (rest rest' : Remainder) (w w' : turns.Wait) (finish : Bool) (count : ℕ) → uses ≡ uses' → rest ≡ rest' → w ≡ w' → turns.Over (record { uses = uses; writes = writes; nbas = nbas; lines = lines; strobes = strobes; rest = rest; wait = w; finish = finish; count = count }) ≡ turns.Over (record { uses = uses'; writes = writes; nbas = nbas; lines = lines; strobes = strobes; rest = rest'; wait = w'; finish = finish; count = count })
over_eq uses uses' writes nbas lines strobes rest rest' w w' finish count a b c = rw (a, b, c) refl

wait_delayed : (controls : List (List Trigger)) (now delay : ℕ) → delayed now delay ≡ wait_of controls (wait_for now delay)
wait_delayed controls now zero = refl
wait_delayed controls now (suc delay) = refl

way_within : (P : ℕ → Type 0) (t : Truth) (taken missed : ℕ) → P taken → P missed → P (chosen_place t taken missed)
way_within P True taken missed a b = a
way_within P False taken missed a b = b
way_within P Unknown taken missed a b = b

-- the control with a number
control_found : (controls : List (List Trigger)) (i : ℕ) (triggers : List Trigger) → slice_get controls i ≡ Some triggers → slice_index_or controls i [] ≡ triggers
control_found [] i triggers e = cc
control_found (c ∷ controls) zero triggers e = cc
control_found (c ∷ controls) (suc i) triggers e = control_found controls i triggers e

-- ---- each place has a node

first_within : (n : ℕ) (ps : List Process) → length (all_statements (take n ps)) ≤ length (all_statements ps)
first_within zero ps = omega arith
first_within (suc n) [] = omega arith
first_within (suc n) (p ∷ ps) = omega (arith, first_within n ps, length-append (all_of p.body) (all_statements (take n ps)), length-append (all_of p.body) (all_statements ps))

pub place_within : (code : Compiled) (p : ℕ) (s : ProcState) → IsCompiled code → IsStateOf code p s → s.place < length code.nodes
place_within code p s is state = ⊎_elim
    (λ h. omega (arith, h.1, first_within (p + 1) (design_of code).processes, is.count))
    (λ e. omega (arith, e, is.count, state.process))
    state.place

pub not_past : (xs : List Node) (i : ℕ) → i < length xs → slice_get xs i ≡ None → ⊥
not_past xs i lt e = let there : slice_get xs i ≡ Some (get_or xs i node.Over) = slice_get-get_or xs i node.Over lt in cc

-- ---- each step

module _ (code : Compiled) (p now : ℕ) where
  -- the statement at a place
  stepping : (g : Going) (left rest : Remainder) (place : ℕ) (st : Statement) → left ≡ At place ∷ rest → statement_at (design_of code) place ≡ st → next (design_of code) p now g left ≡ after_statement (design_of code) now g place st rest
  stepping g left rest place st e f = ap (next (design_of code) p now g) e ∙ ap (λ x. after_statement (design_of code) now g place x rest) f

  -- where nothing is left
  restarting : (g : Going) (left : Remainder) → left ≡ [] → (process_at (design_of code) p).repeats ≡ true → next (design_of code) p now g left ≡ goes_on (counted [] g) (whole (design_of code) p)
  restarting g left e f = ap (next (design_of code) p now g) e ∙ ap (λ b. if b then goes_on (counted [] g) (whole (design_of code) p) else stops g turns.Ended false []) f

  ending : (g : Going) (left : Remainder) → left ≡ [] → (process_at (design_of code) p).repeats ≡ false → next (design_of code) p now g left ≡ stops g turns.Ended false []
  ending g left e f = ap (next (design_of code) p now g) e ∙ ap (λ b. if b then goes_on (counted [] g) (whole (design_of code) p) else stops g turns.Ended false []) f

  -- a state at a place, with nothing left over
  state_at : (s : ProcState) (to : ℕ) → IsStateOf code p s → IsPlaceOf (design_of code) p to → IsStateOf code p (record { place = to; pending = None })
  state_at s to is place = record { process = is.process; place = place; pending = tt }

  sound_at : (s : Status) (to : ℕ) → Sound code p s → IsPlaceOf (design_of code) p to → Sound code p (at s to)
  sound_at s to sound within = record { state = state_at s.state to sound.state within; size = sound.size; knows = sound.knows; writes = sound.writes; nbas = sound.nbas }

  -- a step that reads nothing, to a place
  plain_goes : (s : Status) (to : ℕ) → Sound code p s → IsPlaceOf (design_of code) p to → ((store : Store) (count : ℕ) → StepOn code p now store count s step.Goes (at s to)) → Follows code p now s step.Goes (at s to)
  plain_goes s to sound within goes = record {
    sound = sound_at s to sound within;
    agrees = λ store h. h;
    goes = λ store count len agree. goes store count;
  }

  plain_ends : (s : Status) (to : ℕ) (w : Suspend) (finish : Bool) → Sound code p s → IsPlaceOf (design_of code) p to → ((store : Store) (count : ℕ) → StepOn code p now store count s (step.Ends w finish) (at s to)) → Follows code p now s (step.Ends w finish) (at s to)
  plain_ends s to w finish sound within goes = record {
    sound = sound_at s to sound within;
    agrees = λ store h. h;
    goes = λ store count len agree. goes store count;
  }

  over_follows : (s : Status) → Sound code p s → remainder_of_state code s.state ≡ [] → (process_at (design_of code) p).repeats ≡ false → Follows code p now s step.Over s
  over_follows s sound left still = record {
    sound = sound;
    agrees = λ store h. h;
    goes = λ store count len agree.
        ending (going_of code store count s) (remainder_of_state code s.state) left still
        ∙ over_eq _ _ _ _ _ _ [] (remainder_of_state code s.state) _ _ false count refl (sym left) refl;
  }

  restart_follows : (s : Status) (to : ℕ) → Sound code p s → remainder_of_state code s.state ≡ [] → (process_at (design_of code) p).repeats ≡ true → remainder_at (design_of code) to ≡ whole (design_of code) p → IsPlaceOf (design_of code) p to → Follows code p now s step.Goes (at s to)
  restart_follows s to sound left again there within = plain_goes s to sound within (λ store count.
      restarting (going_of code store count s) (remainder_of_state code s.state) left again
      ∙ goes_eq _ (remainder_at (design_of code) to) _ _ _ _ _ _ _ _ _ _ _ (count + 1) (sym there) refl refl refl refl refl)

  skip_follows : (s : Status) (to place : ℕ) → Sound code p s → remainder_of_state code s.state ≡ At place ∷ remainder_at (design_of code) to → statement_at (design_of code) place ≡ tree.Empty → IsPlaceOf (design_of code) p to → Follows code p now s step.Goes (at s to)
  skip_follows s to place sound left is within = plain_goes s to sound within (λ store count.
      stepping (going_of code store count s) (remainder_of_state code s.state) (remainder_at (design_of code) to) place tree.Empty left is)

  finish_follows : (s : Status) (to place : ℕ) → Sound code p s → remainder_of_state code s.state ≡ At place ∷ remainder_at (design_of code) to → statement_at (design_of code) place ≡ tree.Finish → IsPlaceOf (design_of code) p to → Follows code p now s (step.Ends suspends.Ended true) (at s to)
  finish_follows s to place sound left is within = plain_ends s to suspends.Ended true sound within (λ store count.
      stepping (going_of code store count s) (remainder_of_state code s.state) (remainder_at (design_of code) to) place tree.Finish left is)

  delay_follows : (s : Status) (to place delay : ℕ) (body : Statements) (rest : Remainder) → Sound code p s → remainder_of_state code s.state ≡ At place ∷ rest → statement_at (design_of code) place ≡ tree.Delay delay body → remainder_at (design_of code) to ≡ parts (place + 1) body ++ rest → IsPlaceOf (design_of code) p to → Follows code p now s (step.Ends (wait_for now delay) false) (at s to)
  delay_follows s to place delay body rest sound left is there within = plain_ends s to (wait_for now delay) false sound within (λ store count.
      stepping (going_of code store count s) (remainder_of_state code s.state) rest place (tree.Delay delay body) left is
      ∙ over_eq _ _ _ _ _ _ _ (remainder_at (design_of code) to) _ _ false (count + 1) refl (sym there) (wait_delayed code.controls now delay))

  await_follows : (s : Status) (to place control : ℕ) (triggers : List Trigger) (body : Statements) (rest : Remainder) → Sound code p s → remainder_of_state code s.state ≡ At place ∷ rest → slice_get code.controls control ≡ Some triggers → statement_at (design_of code) place ≡ tree.Await triggers body → remainder_at (design_of code) to ≡ parts (place + 1) body ++ rest → IsPlaceOf (design_of code) p to → Follows code p now s (step.Ends (suspends.Event control) false) (at s to)
  await_follows s to place control triggers body rest sound left found is there within = plain_ends s to (suspends.Event control) false sound within (λ store count.
      stepping (going_of code store count s) (remainder_of_state code s.state) rest place (tree.Await triggers body) left is
      ∙ over_eq _ _ _ _ _ _ _ (remainder_at (design_of code) to) _ _ false (count + 1) refl (sym there) (ap turns.OnChange (sym (control_found code.controls control triggers found))))

  assign_follows : (s : Status) (q to place : ℕ) (e : Expression ℕ) (v : Vector) (m : Status) → Sound code p s → Gets s v m (λ values. assigned_value code.widths values q e) (registers_of e) → remainder_of_state code s.state ≡ At place ∷ remainder_at (design_of code) to → statement_at (design_of code) place ≡ tree.Assign q e → q < length code.widths → IsPlaceOf (design_of code) p to → Follows code p now s step.Goes (writing (record s { known = m.known; reads = m.reads }) q v to)
  assign_follows s q to place e v m sound got left is fits within =
      let known = got.size ∙ sound.size in
      record {
        sound = record {
          state = state_at s.state to sound.state within;
          size = length-set m.known q (Some v) ∙ known;
          knows = knows_write s.writes m.reads m.known q v (subst (λ n. q < n) (sym known) fits) got.continues.knows;
          writes = All-push (λ w. FitsRegister code.widths w.0 w.1) s.writes (q, v) sound.writes (fits, length-assigned code.widths q e v got.some);
          nbas = sound.nbas;
        };
        agrees = got.continues.agrees;
        goes = λ store count len agree.
            let value = got.value store (len ∙ sym sound.size) agree in
            stepping (going_of code store count s) (remainder_of_state code s.state) (remainder_at (design_of code) to) place (tree.Assign q e) left is
            ∙ goes_eq (remainder_at (design_of code) to) (remainder_at (design_of code) to) _ _ _ _ _ _ _ _ _ _ _ (count + 1) refl
            (ap (slice_set (written store s.writes) q) value ∙ sym (written-append s.writes store q v))
            (sym got.continues.uses)
            (ap (λ x. s.writes ++ (q, x) ∷ []) value)
            refl refl;
      }

  time_follows : (s : Status) (q to place : ℕ) → Sound code p s → remainder_of_state code s.state ≡ At place ∷ remainder_at (design_of code) to → statement_at (design_of code) place ≡ tree.Now q → q < length code.widths → IsPlaceOf (design_of code) p to → Follows code p now s step.Goes (writing s q (time_value code.widths q now) to)
  time_follows s q to place sound left is fits within =
      let v = time_value code.widths q now in
      record {
        sound = record {
          state = state_at s.state to sound.state within;
          size = length-set s.known q (Some v) ∙ sound.size;
          knows = knows_write s.writes s.reads s.known q v (subst (λ n. q < n) (sym sound.size) fits) sound.knows;
          writes = All-push (λ w. FitsRegister code.widths w.0 w.1) s.writes (q, v) sound.writes (fits, length-vector (slice_index code.widths q) now);
          nbas = sound.nbas;
        };
        agrees = λ store h. h;
        goes = λ store count len agree.
            stepping (going_of code store count s) (remainder_of_state code s.state) (remainder_at (design_of code) to) place (tree.Now q) left is
            ∙ goes_eq (remainder_at (design_of code) to) (remainder_at (design_of code) to) _ _ _ _ _ _ _ _ _ _ _ (count + 1) refl (sym (written-append s.writes store q v)) refl refl refl refl;
      }

  after_follows : (s : Status) (q to place delay : ℕ) (e : Expression ℕ) (v : Vector) (m : Status) → Sound code p s → Gets s v m (λ values. assigned_value code.widths values q e) (registers_of e) → remainder_of_state code s.state ≡ At place ∷ remainder_at (design_of code) to → statement_at (design_of code) place ≡ tree.AssignAfter q delay e → q < length code.widths → IsPlaceOf (design_of code) p to → Follows code p now s (step.Ends (wait_for now delay) false) (holding (record s { known = m.known; reads = m.reads }) q v to)
  after_follows s q to place delay e v m sound got left is fits within = record {
    sound = record {
      state = record { process = sound.state.process; place = within; pending = (fits, length-assigned code.widths q e v got.some) };
      size = got.size ∙ sound.size;
      knows = got.continues.knows;
      writes = sound.writes;
      nbas = sound.nbas;
    };
    agrees = got.continues.agrees;
    goes = λ store count len agree.
        stepping (going_of code store count s) (remainder_of_state code s.state) (remainder_at (design_of code) to) place (tree.AssignAfter q delay e) left is
        ∙ over_eq _ _ _ _ _ _ _ _ _ _ false (count + 1) (sym got.continues.uses) (ap (λ x. Set q x ∷ remainder_at (design_of code) to) (got.value store (len ∙ sym sound.size) agree)) (wait_delayed code.controls now delay);
  }

  later_follows : (s : Status) (q to place delay : ℕ) (e : Expression ℕ) (v : Vector) (m : Status) → Sound code p s → Gets s v m (λ values. assigned_value code.widths values q e) (registers_of e) → remainder_of_state code s.state ≡ At place ∷ remainder_at (design_of code) to → statement_at (design_of code) place ≡ tree.AssignLater q delay e → q < length code.widths → IsPlaceOf (design_of code) p to → Follows code p now s step.Goes (delaying (record s { known = m.known; reads = m.reads }) (record { reg = q; value = v; due = now + delay }) to)
  later_follows s q to place delay e v m sound got left is fits within = record {
    sound = record {
      state = state_at s.state to sound.state within;
      size = got.size ∙ sound.size;
      knows = got.continues.knows;
      writes = sound.writes;
      nbas = All-push (λ n. FitsRegister code.widths n.reg n.value) s.nbas (record { reg = q; value = v; due = now + delay }) sound.nbas (fits, length-assigned code.widths q e v got.some);
    };
    agrees = got.continues.agrees;
    goes = λ store count len agree.
        stepping (going_of code store count s) (remainder_of_state code s.state) (remainder_at (design_of code) to) place (tree.AssignLater q delay e) left is
        ∙ goes_eq (remainder_at (design_of code) to) (remainder_at (design_of code) to) _ _ _ _ _ _ _ _ _ _ _ (count + 1) refl refl (sym got.continues.uses) refl
        (ap (λ x. map assignment_of s.nbas ++ record { register = q; value = x; due = now + delay } ∷ []) (got.value store (len ∙ sym sound.size) agree)
        ∙ sym (map-append assignment_of s.nbas (record { reg = q; value = v; due = now + delay } ∷ [])))
        refl;
  }

  ways : (t : Truth) (taken missed : ℕ) → where_true t (remainder_at (design_of code) taken) (remainder_at (design_of code) missed) ≡ remainder_at (design_of code) (chosen_place t taken missed)
  ways True taken missed = refl
  ways False taken missed = refl
  ways Unknown taken missed = refl

  branch_follows : (s : Status) (place taken missed : ℕ) (c : Expression ℕ) (rest : Remainder) (v : Vector) (m : Status) → Sound code p s → Gets s v m (λ values. own_value code.widths values c) (registers_of c) → remainder_of_state code s.state ≡ At place ∷ rest → IsTest (design_of code) place c rest (remainder_at (design_of code) taken) (remainder_at (design_of code) missed) → IsPlaceOf (design_of code) p (chosen_place (truth v) taken missed) → Follows code p now s step.Goes (at (record s { known = m.known; reads = m.reads }) (chosen_place (truth v) taken missed))
  branch_follows s place taken missed c rest v m sound got left test within = record {
    sound = record {
      state = state_at s.state (chosen_place (truth v) taken missed) sound.state within;
      size = got.size ∙ sound.size;
      knows = got.continues.knows;
      writes = sound.writes;
      nbas = sound.nbas;
    };
    agrees = got.continues.agrees;
    goes = λ store count len agree.
        let to = chosen_place (truth v) taken missed in
        let first = remainder_at (design_of code) taken in
        let second = remainder_at (design_of code) missed in
        let tested = truth (own_value code.widths (written store s.writes) c) in
        let one = ap (λ x. where_true (truth x) first second) (got.value store (len ∙ sym sound.size) agree) ∙ ways (truth v) taken missed in
        ⊎_elim
        (λ (body, (otherwise, (is, e1, e2))).
        stepping (going_of code store count s) (remainder_of_state code s.state) rest place (tree.If c body otherwise) left is
        ∙ goes_eq _ (remainder_at (design_of code) to) _ _ _ _ _ _ _ _ _ _ _ (count + 1) (ap (λ x. where_true tested x (parts (place + 1 + size body) otherwise ++ rest)) (sym e1) ∙ ap (where_true tested first) (sym e2) ∙ one) refl (sym got.continues.uses) refl refl refl)
        (λ (body, (is, e1, e2)).
        stepping (going_of code store count s) (remainder_of_state code s.state) rest place (tree.While c body) left is
        ∙ goes_eq _ (remainder_at (design_of code) to) _ _ _ _ _ _ _ _ _ _ _ (count + 1) (ap (λ x. where_true tested x rest) (sym e1) ∙ ap (where_true tested first) (sym e2) ∙ one) refl (sym got.continues.uses) refl refl refl)
        test;
  }

  display_follows : (s m : Status) (to place : ℕ) (format : List Piece) (arguments : Expressions ℕ) → Sound code p s → Lined code.widths s m format arguments → remainder_of_state code s.state ≡ At place ∷ remainder_at (design_of code) to → statement_at (design_of code) place ≡ tree.Print Task.Display format arguments → IsPlaceOf (design_of code) p to → Follows code p now s step.Goes (at (printing (record s { known = m.known; reads = m.reads; lines = m.lines }) (10 ∷ [])) to)
  display_follows s m to place format arguments sound l left is within = record {
    sound = record {
      state = state_at s.state to sound.state within;
      size = l.size ∙ sound.size;
      knows = l.continues.knows;
      writes = sound.writes;
      nbas = sound.nbas;
    };
    agrees = l.continues.agrees;
    goes = λ store count len agree.
        stepping (going_of code store count s) (remainder_of_state code s.state) (remainder_at (design_of code) to) place (tree.Print Task.Display format arguments) left is
        ∙ goes_eq (remainder_at (design_of code) to) (remainder_at (design_of code) to) _ _ _ _ _ _ _ _ _ _ _ (count + 1) refl refl (sym l.continues.uses) refl refl (sym (l.lines (10 ∷ []) store (len ∙ sym sound.size) agree));
  }

  write_follows : (s m : Status) (to place : ℕ) (format : List Piece) (arguments : Expressions ℕ) → Sound code p s → Lined code.widths s m format arguments → remainder_of_state code s.state ≡ At place ∷ remainder_at (design_of code) to → statement_at (design_of code) place ≡ tree.Print Task.Write format arguments → IsPlaceOf (design_of code) p to → Follows code p now s step.Goes (at (record s { known = m.known; reads = m.reads; lines = m.lines }) to)
  write_follows s m to place format arguments sound l left is within = record {
    sound = record {
      state = state_at s.state to sound.state within;
      size = l.size ∙ sound.size;
      knows = l.continues.knows;
      writes = sound.writes;
      nbas = sound.nbas;
    };
    agrees = l.continues.agrees;
    goes = λ store count len agree.
        stepping (going_of code store count s) (remainder_of_state code s.state) (remainder_at (design_of code) to) place (tree.Print Task.Write format arguments) left is
        ∙ goes_eq (remainder_at (design_of code) to) (remainder_at (design_of code) to) _ _ _ _ _ _ _ _ _ _ _ (count + 1) refl refl (sym l.continues.uses) refl refl (sym (l.lines [] store (len ∙ sym sound.size) agree) ∙ append-nil m.lines);
  }

  strobe_follows : (s : Status) (to place : ℕ) (format : List Piece) (arguments : Expressions ℕ) → Sound code p s → remainder_of_state code s.state ≡ At place ∷ remainder_at (design_of code) to → statement_at (design_of code) place ≡ tree.Print Task.Strobe format arguments → place ≡ s.state.place → IsPlaceOf (design_of code) p to → Follows code p now s step.Goes (strobing s to)
  strobe_follows s to place format arguments sound left is same within = record {
    sound = record {
      state = state_at s.state to sound.state within;
      size = sound.size;
      knows = sound.knows;
      writes = sound.writes;
      nbas = sound.nbas;
    };
    agrees = λ store agree. agree;
    goes = λ store count len agree.
        stepping (going_of code store count s) (remainder_of_state code s.state) (remainder_at (design_of code) to) place (tree.Print Task.Strobe format arguments) left is
        ∙ ap (λ (n : ℕ). turns.Goes (record (going_of code store (count + 1) (strobing s to)) { strobes = s.strobes ++ n ∷ [] })) same;
  }

  pending_follows : (s : Status) (w : ℕ × Vector) → Sound code p s → s.state.pending ≡ Some w → FitsRegister code.widths w.0 w.1 → Follows code p now s step.Goes (writing s w.0 w.1 s.state.place)
  pending_follows s w sound is fits = record {
    sound = record {
      state = state_at s.state s.state.place sound.state sound.state.place;
      size = length-set s.known w.0 (Some w.1) ∙ sound.size;
      knows = knows_write s.writes s.reads s.known w.0 w.1 (subst (λ n. w.0 < n) (sym sound.size) fits.0) sound.knows;
      writes = All-push (λ w. FitsRegister code.widths w.0 w.1) s.writes (w.0, w.1) sound.writes fits;
      nbas = sound.nbas;
    };
    agrees = λ store h. h;
    goes = λ store count len agree.
        ap (λ o. next (design_of code) p now (going_of code store count s) (pending_part o ++ remainder_at (design_of code) s.state.place)) is
        ∙ goes_eq (remainder_at (design_of code) s.state.place) (remainder_at (design_of code) s.state.place) _ _ _ _ _ _ _ _ _ _ _ (count + 1) refl (sym (written-append s.writes store w.0 w.1)) refl refl refl refl;
  }

  module _ (is_code : IsCompiled code) where
    ops_within : (s : Status) → Sound code p s → All (IsOpOf (length s.known)) code.ops
    ops_within s sound = subst (λ n. All (IsOpOf n) code.ops) (sym sound.size) is_code.ops

    piece_within : (s : Status) (span : Span) → Sound code p s → All (IsOpOf (length s.known)) (span_of code.ops span)
    piece_within s span sound = all_piece (IsOpOf (length s.known)) code.ops span (ops_within s sound)

    -- each node
    node_follows : (i : Node) (s : Status) (r : Step) (s' : Status) → Sound code p s → remainder_of_state code s.state ≡ remainder_at (design_of code) s.state.place → IsFine code p i (remainder_at (design_of code) s.state.place) → TakesNode code.ops code.shown now i s r s' → Follows code p now s r s'
    node_follows node.Over s r s' sound here (left, still) (er, es) = rw (er, es) (over_follows s sound (here ∙ left) still)
    node_follows (node.Restart to) s r s' sound here (left, again, there, within) (er, es) = rw (er, es) (restart_follows s to sound (here ∙ left) again there within)
    node_follows (node.Skip to) s r s' sound here (place, (left, is, within)) (er, es) = rw (er, es) (skip_follows s to place sound (here ∙ left) is within)
    node_follows (node.Assign q span to) s r s' sound here (place, (e, (left, is, c, fits, within))) (er, (v, (m, (val, es)))) =
        let got = gets (span_of code.ops span) s v m _ _ (piece_within s span sound) sound.knows c val in
        let es' = es ∙ ap (λ z. writing z q v to) got.same in
        rw (er, es') (assign_follows s q to place e v m sound got (here ∙ left) is fits within)
    node_follows (node.AssignAfter q delay span to) s r s' sound here (place, (e, (left, is, c, fits, within))) (er, (v, (m, (val, es)))) =
        let got = gets (span_of code.ops span) s v m _ _ (piece_within s span sound) sound.knows c val in
        let es' = es ∙ ap (λ z. holding z q v to) got.same in
        rw (er, es') (after_follows s q to place delay e v m sound got (here ∙ left) is fits within)
    node_follows (node.AssignLater q delay span to) s r s' sound here (place, (e, (left, is, c, fits, within))) (er, (v, (m, (val, es)))) =
        let got = gets (span_of code.ops span) s v m _ _ (piece_within s span sound) sound.knows c val in
        let es' = es ∙ ap (λ z. delaying z (record { reg = q; value = v; due = now + delay }) to) got.same in
        rw (er, es') (later_follows s q to place delay e v m sound got (here ∙ left) is fits within)
    node_follows (node.Now q digits to) s r s' sound here (place, (left, is, same, fits, within)) (er, es) =
        let es' = es ∙ ap (λ n. writing s q (vector n now) to) same in
        rw (er, es') (time_follows s q to place sound (here ∙ left) is fits within)
    node_follows (node.Delay delay to) s r s' sound here (place, (body, (rest, (left, is, there, within)))) (er, es) = rw (er, es) (delay_follows s to place delay body rest sound (here ∙ left) is there within)
    node_follows (node.Await control to) s r s' sound here (place, (body, (rest, (triggers, (left, found, is, there, within))))) (er, es) = rw (er, es) (await_follows s to place control triggers body rest sound (here ∙ left) found is there within)
    node_follows (node.Branch span taken missed) s r s' sound here (place, (c, (rest, (left, comp, test, w1, w2)))) (er, (v, (m, (val, es)))) =
        let got = gets (span_of code.ops span) s v m _ _ (piece_within s span sound) sound.knows comp val in
        let es' = es ∙ ap (λ z. at z (chosen_place (truth v) taken missed)) got.same in
        rw (er, es') (branch_follows s place taken missed c rest v m sound got (here ∙ left) test (way_within (IsPlaceOf (design_of code) p) (truth v) taken missed w1 w2))
    node_follows (node.Print Task.Display span to) s r s' sound here (place, (format, (arguments, (left, is, line, within)))) (er, (m, (prints, es))) =
        let l = lined code.widths code.ops (span_of code.shown span) s m format arguments (ops_within s sound) sound.knows line prints in
        let es' = es ∙ ap (λ z. at (printing z (10 ∷ [])) to) l.same in
        rw (er, es') (display_follows s m to place format arguments sound l (here ∙ left) is within)
    node_follows (node.Print Task.Write span to) s r s' sound here (place, (format, (arguments, (left, is, line, within)))) (er, (m, (prints, es))) =
        let l = lined code.widths code.ops (span_of code.shown span) s m format arguments (ops_within s sound) sound.knows line prints in
        let es' = es ∙ ap (λ z. at z to) l.same in
        rw (er, es') (write_follows s m to place format arguments sound l (here ∙ left) is within)
    node_follows (node.Print Task.Strobe span to) s r s' sound here (place, (format, (arguments, (left, is, line, within)))) (er, es) =
        rw (er, es) (strobe_follows s to place format arguments sound (here ∙ left) is (place_named (design_of code) p s.state.place place _ sound.state.place left) within)
    node_follows (node.Finish to) s r s' sound here (place, (left, is, within)) (er, es) = rw (er, es) (finish_follows s to place sound (here ∙ left) is within)

    some_follows : (o : Option Node) (s : Status) (r : Step) (s' : Status) → slice_get code.nodes s.state.place ≡ o → Sound code p s → remainder_of_state code s.state ≡ remainder_at (design_of code) s.state.place → TakesSome code.ops code.shown now o s r s' → Follows code p now s r s'
    some_follows None s r s' found sound here takes = absurd (not_past code.nodes s.state.place (place_within code p s.state is_code sound.state) found)
    some_follows (Some i) s r s' found sound here takes = node_follows i s r s' sound here (is_code.fine p s.state.place i sound.state.process sound.state.place found) takes

    pend_follows : (o : Option (ℕ × Vector)) (s : Status) (r : Step) (s' : Status) → s.state.pending ≡ o → Sound code p s → TakesPending code.nodes code.ops code.shown now o s r s' → Follows code p now s r s'
    pend_follows None s r s' found sound takes =
        some_follows (slice_get code.nodes s.state.place) s r s' refl sound (ap (λ o. pending_part o ++ remainder_at (design_of code) s.state.place) found) takes
    pend_follows (Some w) s r s' found sound (er, es) =
        let fits = subst (IsPending code.widths) found sound.state.pending in
        rw (er, es) (pending_follows s w sound found fits)

    -- each step
    pub takes_follows : (s : Status) (r : Step) (s' : Status) → Sound code p s → TakesStep code.nodes code.ops code.shown now s r s' → Follows code p now s r s'
    takes_follows s r s' sound takes = pend_follows s.state.pending s r s' refl sound takes
