-- The turn by cases on the first statement is the turn to which the steps lead.
use Rattle.std.proofs.Common.{◌≡◌, ◌≢◌, ℕ, zero, suc, ◌+◌, ◌-◌, Bool, true, false, not, ◌||◌, ◌&&◌, ◌==◌, List, [], ◌∷◌, ◌++◌, map, Option, Some, refl, sym, ap, ◌∙◌, arith, if◌then◌else◌, append_assoc, append-nil}
use Rattle.std.proofs.lemmas.Bool.{eqb-true}
use Rattle.std.proofs.lemmas.List.{map-append}
use Rattle.std.specs.Prelude.{filter, slice_set}
use Rattle.std.proofs.lemmas.List.Folds.{list_any-append}
use Rattle.logic4.specs.declared.digit.Truth.{Truth}
use Rattle.logic4.specs.declared.digit.Truth.TheVariants.{False, True, Unknown}
use Rattle.logic4.specs.Vector.{Vector}
use Rattle.logic4.specs.Operators.{truth}
use Rattle.model.specs.declared.tree.Task.TheVariants.{Display, Strobe, Write}
use Rattle.model.specs.Syntax.{Expression, registers_of, all_registers_of}
use Rattle.model.specs.Design.{Design, Statement, Empty, Assign, AssignAfter, AssignLater, Now, Delay, Await, If, While, Print, Finish, Statements, size, statement_at, process_at}
use Rattle.model.specs.Expressions.{Store, own_value, assigned_value}
use Rattle.model.specs.Turns.{At, Set, Remainder, Wait, Ended, OnChange, NonblockingAssignment, Turn, Going, Over, begun, contains, with_uses, counted, goes_on, stops, delayed, parts, whole, own_values, line_text, written_text, time_value, where_true, condition_truth, after_statement, next, and_then, turn_within, IsTurn}
use Rattle.model.specs.TurnCases.{all_but, first_uses, over_at_once, with_step, with_write, with_later, with_line, with_strobe, HasTurn, nothing, assigned, timed, left_over, assigned_after, assigned_later, delay, event, chosen, other, again, past, displayed, text_written, strobed, finished, ended, restarted, TurnByCasesIsExact, ShortTurnByCasesIsExact, TurnByCasesIsUnique, UsedUpIsWholeAgain}
use Rattle.model.proofs.TurnLaws.{turn_unique, short_turn_found, short_turn_is}

-- filters
filter_same : (f g : ℕ → Bool) → ((q : ℕ) → f q ≡ g q) → (rs : List ℕ) → filter f rs ≡ filter g rs
filter_same f g same [] = refl
filter_same f g same (q ∷ rs) = rw (same q, filter_same f g same rs) refl

both : (b : Bool) (f : ℕ → Bool) (q : ℕ) (rs : List ℕ) → filter f (if b then q ∷ rs else rs) ≡ (if b && f q then q ∷ filter f rs else filter f rs)
both true f q rs = refl
both false f q rs = refl

filter_twice : (f g : ℕ → Bool) (rs : List ℕ) → filter f (filter g rs) ≡ filter (λ q. g q && f q) rs
filter_twice f g [] = refl
filter_twice f g (q ∷ rs) = both (g q) f q (filter g rs) ∙ rw (filter_twice f g rs) refl

-- those that were neither used nor written
unmet : List ℕ → List ℕ → List ℕ → List ℕ
unmet written uses later = filter (λ q. not (contains uses q || contains written q)) later

-- the places where a register that is used or written now stands count no more
one_more : (u w e : Bool) → not ((u || (e || false)) || w) ≡ (not e && not (u || w))
one_more true w true = refl
one_more true w false = refl
one_more false w true = refl
one_more false w false = refl

one_written : (u w e : Bool) → not (u || (w || (e || false))) ≡ (not e && not (u || w))
one_written true w true = refl
one_written true w false = refl
one_written false true true = refl
one_written false true false = refl
one_written false false true = refl
one_written false false false = refl

contains_more : (uses : List ℕ) (r q : ℕ) → contains (uses ++ r ∷ []) q ≡ (contains uses q || ((r == q) || false))
contains_more uses r q = list_any-append (λ s. s == q) uses (r ∷ [])

-- a register more that was used
unmet_used : (written uses later : List ℕ) (r : ℕ) → unmet written (uses ++ r ∷ []) later ≡ unmet written uses (all_but r later)
unfolding unmet
unmet_used written uses later r =
    filter_same (λ q. not (contains (uses ++ r ∷ []) q || contains written q)) (λ q. not (r == q) && not (contains uses q || contains written q))
    (λ q. rw (contains_more uses r q) (one_more (contains uses q) (contains written q) (r == q))) later
    ∙ sym (filter_twice (λ q. not (contains uses q || contains written q)) (λ q. not (r == q)) later)

-- a register more that was written
unmet_written : (written uses later : List ℕ) (r : ℕ) → unmet (written ++ r ∷ []) uses later ≡ unmet written uses (all_but r later)
unfolding unmet
unmet_written written uses later r =
    filter_same (λ q. not (contains uses q || contains (written ++ r ∷ []) q)) (λ q. not (r == q) && not (contains uses q || contains written q))
    (λ q. rw (contains_more written r q) (one_written (contains uses q) (contains written q) (r == q))) later
    ∙ sym (filter_twice (λ q. not (contains uses q || contains written q)) (λ q. not (r == q)) later)

-- a register that was met before makes no difference
met_already : (written uses : List ℕ) (r q : ℕ) (e : Bool) → (r == q) ≡ e → (contains uses r || contains written r) ≡ true → (not e && not (contains uses q || contains written q)) ≡ not (contains uses q || contains written q)
met_already written uses r q true is met =
    let same : r ≡ q = eqb-true r q is in
    rw (← same) (rw met refl)
met_already written uses r q false is met = refl

unmet_met : (written uses later : List ℕ) (r : ℕ) → (contains uses r || contains written r) ≡ true → unmet written uses (all_but r later) ≡ unmet written uses later
unfolding unmet
unmet_met written uses later r met =
    filter_twice (λ q. not (contains uses q || contains written q)) (λ q. not (r == q)) later
    ∙ filter_same (λ q. not (r == q) && not (contains uses q || contains written q)) (λ q. not (contains uses q || contains written q))
    (λ q. met_already written uses r q (r == q) refl met) later

-- a step's uses, and then the later ones that are new, are the uses so far and then the new ones of both
SplitUses : List ℕ → List ℕ → List ℕ → List ℕ → Type 0
SplitUses written uses rs later =
    with_uses written uses rs ++ unmet written (with_uses written uses rs) later ≡ uses ++ unmet written uses (first_uses rs later)

first_used : (written uses rs later : List ℕ) (r : ℕ) (met : Bool) → (contains uses r || contains written r) ≡ met → ((us : List ℕ) → SplitUses written us rs later) → with_uses written (if met then uses else uses ++ r ∷ []) rs ++ unmet written (with_uses written (if met then uses else uses ++ r ∷ []) rs) later ≡ uses ++ (if not met then r ∷ unmet written uses (all_but r (first_uses rs later)) else unmet written uses (all_but r (first_uses rs later)))
unfolding SplitUses
first_used written uses rs later r true is others =
    others uses ∙ ap (λ l. uses ++ l) (sym (unmet_met written uses (first_uses rs later) r is))
first_used written uses rs later r false is others =
    others (uses ++ r ∷ []) ∙ ap (λ l. (uses ++ r ∷ []) ++ l) (unmet_used written uses (first_uses rs later) r)
    ∙ append_assoc uses (r ∷ []) (unmet written uses (all_but r (first_uses rs later)))

split_uses : (written uses rs later : List ℕ) → SplitUses written uses rs later
unfolding SplitUses unmet
split_uses written uses [] later = refl
split_uses written uses (r ∷ rs) later =
    first_used written uses rs later r (contains uses r || contains written r) refl (λ us. split_uses written us rs later)

-- what a turn is, from what was done so far and what is done from then on
continued : Going → Turn → Turn
continued g turn =
    record {
      uses = g.uses ++ unmet (map (λ w. w.0) g.writes) g.uses turn.uses;
      writes = g.writes ++ turn.writes;
      nbas = g.nbas ++ turn.nbas;
      lines = g.lines ++ turn.lines;
      strobes = g.strobes ++ turn.strobes;
      rest = turn.rest;
      wait = turn.wait;
      finish = turn.finish;
      count = g.count + turn.count;
    }

-- one step after another
continued_step : (g : Going) (rs : List ℕ) (turn : Turn) → continued (counted rs g) turn ≡ continued g (with_step rs turn)
unfolding continued SplitUses
continued_step g rs turn =
    let uses : with_uses (map (λ w. w.0) g.writes) g.uses rs ++ unmet (map (λ w. w.0) g.writes) (with_uses (map (λ w. w.0) g.writes) g.uses rs) turn.uses ≡ g.uses ++ unmet (map (λ w. w.0) g.writes) g.uses (first_uses rs turn.uses) =
    split_uses (map (λ w. w.0) g.writes) g.uses rs turn.uses in
    let count : g.count + 1 + turn.count ≡ g.count + (turn.count + 1) = omega arith in
    rw (uses, count) refl

continued_write : (g : Going) (left : Remainder) (store : Store) (r : ℕ) (v : Vector) (turn : Turn) → continued (record g { left = left; values = store; writes = g.writes ++ (r, v) ∷ [] }) turn ≡ continued g (with_write r v turn)
unfolding continued
continued_write g left store r v turn =
    let names : map (λ (w : ℕ × Vector). w.0) (g.writes ++ (r, v) ∷ []) ≡ map (λ w. w.0) g.writes ++ r ∷ [] = map-append (λ w. w.0) g.writes ((r, v) ∷ []) in
    rw (names, unmet_written (map (λ w. w.0) g.writes) g.uses turn.uses r, append_assoc g.writes ((r, v) ∷ []) turn.writes) refl

continued_later : (g : Going) (left : Remainder) (later : NonblockingAssignment) (turn : Turn) → continued (record g { left = left; nbas = g.nbas ++ later ∷ [] }) turn ≡ continued g (with_later later turn)
unfolding continued
continued_later g left later turn = rw (append_assoc g.nbas (later ∷ []) turn.nbas) refl

continued_line : (g : Going) (left : Remainder) (line : List ℕ) (turn : Turn) → continued (record g { left = left; lines = g.lines ++ line }) turn ≡ continued g (with_line line turn)
unfolding continued
continued_line g left line turn = rw (append_assoc g.lines line turn.lines) refl

continued_strobe : (g : Going) (left : Remainder) (place : ℕ) (turn : Turn) → continued (record g { left = left; strobes = g.strobes ++ place ∷ [] }) turn ≡ continued g (with_strobe place turn)
unfolding continued
continued_strobe g left place turn = rw (append_assoc g.strobes (place ∷ []) turn.strobes) refl

-- a turn that is over now
stopped : (g : Going) (left : Remainder) (wait : Wait) (finish : Bool) → stops g wait finish left ≡ Over (continued g (over_at_once left wait finish))
unfolding continued unmet
stopped g left wait finish =
    let count : g.count + 0 ≡ g.count = omega arith in
    rw (append-nil g.uses, append-nil g.writes, append-nil g.nbas, append-nil g.lines, append-nil g.strobes, count) refl

-- a turn that begins
unmet_none : (later : List ℕ) → unmet [] [] later ≡ later
unfolding unmet
unmet_none [] = refl
unmet_none (q ∷ later) = ap (λ l. q ∷ l) (unmet_none later)

continued_begun : (remainder : Remainder) (store : Store) (turn : Turn) → continued (begun remainder store) turn ≡ turn
unfolding continued
continued_begun remainder store turn =
    let count : 0 + turn.count ≡ turn.count = omega arith in
    rw (unmet_none turn.uses, count) refl

-- ---- from steps to cases

-- there is a turn by cases of what is left, which ends in this turn
Found : Design → ℕ → ℕ → Remainder → Going → Turn → Type 0
Found design p now left g turn = (t : Turn) × HasTurn design p now left g.values t × (turn ≡ continued g t)

-- the turn that a statement ends
ends_with : (g : Going) (rs : List ℕ) (left : Remainder) (wait : Wait) (finish : Bool) (others : Going → Option Turn) (turn : Turn) → and_then (stops (counted rs g) wait finish left) others ≡ Some turn → turn ≡ continued g (with_step rs (over_at_once left wait finish))
ends_with g rs left wait finish others turn e =
    let is : Over (continued (counted rs g) (over_at_once left wait finish)) ≡ stops (counted rs g) wait finish left = sym (stopped (counted rs g) left wait finish) in
    let same : turn ≡ continued (counted rs g) (over_at_once left wait finish) = cc in
    same ∙ continued_step g rs (over_at_once left wait finish)

false_not_true : False ≢ True
false_not_true e = cc

unknown_not_true : Unknown ≢ True
unknown_not_true e = cc

if_found : (k : ℕ) (design : Design) (p now : ℕ) (g : Going) (place : ℕ) (c : Expression ℕ) (body otherwise : Statements) (rest : Remainder) (turn : Turn) (b : Truth) → condition_truth design g c ≡ b → statement_at design place ≡ If c body otherwise → ((h : Going) → turn_within k design p now h ≡ Some turn → Found design p now h.left h turn) → turn_within k design p now (record (counted (registers_of c) g) { left = where_true b (parts (place + 1) body ++ rest) (parts (place + 1 + size body) otherwise ++ rest) }) ≡ Some turn → Found design p now (At place ∷ rest) g turn
unfolding Found continued
if_found k design p now g place c body otherwise rest turn True is at later e =
    let (t, d, same) = later (record (counted (registers_of c) g) { left = parts (place + 1) body ++ rest }) e in
    (with_step (registers_of c) t, chosen place c body otherwise rest g.values t at is d, same ∙ continued_step g (registers_of c) t)
if_found k design p now g place c body otherwise rest turn False is at later e =
    let (t, d, same) = later (record (counted (registers_of c) g) { left = parts (place + 1 + size body) otherwise ++ rest }) e in
    (with_step (registers_of c) t, other place c body otherwise rest g.values t at (rw is false_not_true) d, same ∙ continued_step g (registers_of c) t)
if_found k design p now g place c body otherwise rest turn Unknown is at later e =
    let (t, d, same) = later (record (counted (registers_of c) g) { left = parts (place + 1 + size body) otherwise ++ rest }) e in
    (with_step (registers_of c) t, other place c body otherwise rest g.values t at (rw is unknown_not_true) d, same ∙ continued_step g (registers_of c) t)

while_found : (k : ℕ) (design : Design) (p now : ℕ) (g : Going) (place : ℕ) (c : Expression ℕ) (body : Statements) (rest : Remainder) (turn : Turn) (b : Truth) → condition_truth design g c ≡ b → statement_at design place ≡ While c body → ((h : Going) → turn_within k design p now h ≡ Some turn → Found design p now h.left h turn) → turn_within k design p now (record (counted (registers_of c) g) { left = where_true b (parts (place + 1) body ++ At place ∷ rest) rest }) ≡ Some turn → Found design p now (At place ∷ rest) g turn
unfolding Found continued
while_found k design p now g place c body rest turn True is at later e =
    let (t, d, same) = later (record (counted (registers_of c) g) { left = parts (place + 1) body ++ At place ∷ rest }) e in
    (with_step (registers_of c) t, again place c body rest g.values t at is d, same ∙ continued_step g (registers_of c) t)
while_found k design p now g place c body rest turn False is at later e =
    let (t, d, same) = later (record (counted (registers_of c) g) { left = rest }) e in
    (with_step (registers_of c) t, past place c body rest g.values t at (rw is false_not_true) d, same ∙ continued_step g (registers_of c) t)
while_found k design p now g place c body rest turn Unknown is at later e =
    let (t, d, same) = later (record (counted (registers_of c) g) { left = rest }) e in
    (with_step (registers_of c) t, past place c body rest g.values t at (rw is unknown_not_true) d, same ∙ continued_step g (registers_of c) t)

statement_found : (k : ℕ) (design : Design) (p now : ℕ) (g : Going) (place : ℕ) (s : Statement) (rest : Remainder) (turn : Turn) → statement_at design place ≡ s → ((h : Going) → turn_within k design p now h ≡ Some turn → Found design p now h.left h turn) → and_then (after_statement design now g place s rest) (turn_within k design p now) ≡ Some turn → Found design p now (At place ∷ rest) g turn
unfolding Found continued
statement_found k design p now g place Empty rest turn at later e =
    let (t, d, same) = later (record (counted [] g) { left = rest }) e in
    (with_step [] t, nothing place rest g.values t at d, same ∙ continued_step g [] t)
statement_found k design p now g place (Assign r x) rest turn at later e =
    let v : Vector = assigned_value design.widths g.values r x in
    let h : Going = counted (registers_of x) g in
    let (t, d, same) = later (record h { left = rest; values = slice_set g.values r v; writes = g.writes ++ (r, v) ∷ [] }) e in (
      with_step (registers_of x) (with_write r v t),
      assigned place r x rest g.values t at d,
      same ∙ continued_write h rest (slice_set g.values r v) r v t ∙ continued_step g (registers_of x) (with_write r v t),
    )
statement_found k design p now g place (AssignAfter r d x) rest turn at later e = (
  with_step (registers_of x) (over_at_once (Set r (assigned_value design.widths g.values r x) ∷ rest) (delayed now d) false),
  assigned_after place r d x rest g.values at,
  ends_with g (registers_of x) (Set r (assigned_value design.widths g.values r x) ∷ rest) (delayed now d) false (turn_within k design p now) turn e,
)
statement_found k design p now g place (AssignLater r d x) rest turn at later e =
    let l : NonblockingAssignment = record { register = r; value = assigned_value design.widths g.values r x; due = now + d } in
    let h : Going = counted (registers_of x) g in
    let (t, has, same) = later (record h { left = rest; nbas = g.nbas ++ l ∷ [] }) e in (
      with_step (registers_of x) (with_later l t),
      assigned_later place r d x rest g.values t at has,
      same ∙ continued_later h rest l t ∙ continued_step g (registers_of x) (with_later l t),
    )
statement_found k design p now g place (Now r) rest turn at later e =
    let v : Vector = time_value design.widths r now in
    let h : Going = counted [] g in
    let (t, d, same) = later (record h { left = rest; values = slice_set g.values r v; writes = g.writes ++ (r, v) ∷ [] }) e in (
      with_step [] (with_write r v t),
      timed place r rest g.values t at d,
      same ∙ continued_write h rest (slice_set g.values r v) r v t ∙ continued_step g [] (with_write r v t),
    )
statement_found k design p now g place (Delay d body) rest turn at later e = (
  with_step [] (over_at_once (parts (place + 1) body ++ rest) (delayed now d) false),
  delay place d body rest g.values at,
  ends_with g [] (parts (place + 1) body ++ rest) (delayed now d) false (turn_within k design p now) turn e,
)
statement_found k design p now g place (Await triggers body) rest turn at later e = (
  with_step [] (over_at_once (parts (place + 1) body ++ rest) (OnChange triggers) false),
  event place triggers body rest g.values at,
  ends_with g [] (parts (place + 1) body ++ rest) (OnChange triggers) false (turn_within k design p now) turn e,
)
statement_found k design p now g place (If c body otherwise) rest turn at later e =
    if_found k design p now g place c body otherwise rest turn (condition_truth design g c) refl at later e
statement_found k design p now g place (While c body) rest turn at later e =
    while_found k design p now g place c body rest turn (condition_truth design g c) refl at later e
statement_found k design p now g place (Print Display format arguments) rest turn at later e =
    let line : List ℕ = line_text format (own_values design.widths g.values arguments) in
    let h : Going = counted (all_registers_of arguments) g in
    let (t, d, same) = later (record h { left = rest; lines = g.lines ++ line }) e in (
      with_step (all_registers_of arguments) (with_line line t),
      displayed place format arguments rest g.values t at d,
      same ∙ continued_line h rest line t ∙ continued_step g (all_registers_of arguments) (with_line line t),
    )
statement_found k design p now g place (Print Write format arguments) rest turn at later e =
    let text : List ℕ = written_text format (own_values design.widths g.values arguments) in
    let h : Going = counted (all_registers_of arguments) g in
    let (t, d, same) = later (record h { left = rest; lines = g.lines ++ text }) e in (
      with_step (all_registers_of arguments) (with_line text t),
      text_written place format arguments rest g.values t at d,
      same ∙ continued_line h rest text t ∙ continued_step g (all_registers_of arguments) (with_line text t),
    )
statement_found k design p now g place (Print Strobe format arguments) rest turn at later e =
    let h : Going = counted [] g in
    let (t, d, same) = later (record h { left = rest; strobes = g.strobes ++ place ∷ [] }) e in (
      with_step [] (with_strobe place t),
      strobed place format arguments rest g.values t at d,
      same ∙ continued_strobe h rest place t ∙ continued_step g [] (with_strobe place t),
    )
statement_found k design p now g place Finish rest turn at later e = (
  with_step [] (over_at_once rest Ended true),
  finished place rest g.values at,
  ends_with g [] rest Ended true (turn_within k design p now) turn e,
)

end_found : (k : ℕ) (design : Design) (p now : ℕ) (g : Going) (turn : Turn) (b : Bool) → (process_at design p).repeats ≡ b → ((h : Going) → turn_within k design p now h ≡ Some turn → Found design p now h.left h turn) → and_then (if b then goes_on (counted [] g) (whole design p) else stops g Ended false []) (turn_within k design p now) ≡ Some turn → Found design p now [] g turn
unfolding Found continued
end_found k design p now g turn true is later e =
    let (t, d, same) = later (record (counted [] g) { left = whole design p }) e in
    (with_step [] t, restarted g.values t is d, same ∙ continued_step g [] t)
end_found k design p now g turn false is later e =
    let over_is : Over (continued g (over_at_once [] Ended false)) ≡ stops g Ended false [] = sym (stopped g [] Ended false) in
    let same : turn ≡ continued g (over_at_once [] Ended false) = cc in
    (over_at_once [] Ended false, ended g.values is, same)

next_found : (k : ℕ) (design : Design) (p now : ℕ) (g : Going) (left : Remainder) (turn : Turn) → ((h : Going) → turn_within k design p now h ≡ Some turn → Found design p now h.left h turn) → and_then (next design p now g left) (turn_within k design p now) ≡ Some turn → Found design p now left g turn
unfolding Found continued
next_found k design p now g (At place ∷ rest) turn later e =
    statement_found k design p now g place (statement_at design place) rest turn refl later e
next_found k design p now g (Set r v ∷ rest) turn later e =
    let h : Going = counted [] g in
    let (t, d, same) = later (record h { left = rest; values = slice_set g.values r v; writes = g.writes ++ (r, v) ∷ [] }) e in (
      with_step [] (with_write r v t),
      left_over r v rest g.values t d,
      same ∙ continued_write h rest (slice_set g.values r v) r v t ∙ continued_step g [] (with_write r v t),
    )
next_found k design p now g [] turn later e = end_found k design p now g turn (process_at design p).repeats refl later e

found : (k : ℕ) (design : Design) (p now : ℕ) (g : Going) (turn : Turn) → turn_within k design p now g ≡ Some turn → Found design p now g.left g turn
unfolding turn_within
found zero design p now g turn e = cc
found (suc k) design p now g turn e = next_found k design p now g g.left turn (λ h. found k design p now h turn) e

-- ---- from cases to steps

-- some number of steps leads to the end, which is this turn after what was done so far
Leads : Design → ℕ → ℕ → Remainder → Going → Turn → Type 0
Leads design p now left g turn =
    (k : ℕ) × (and_then (next design p now g left) (turn_within k design p now) ≡ Some (continued g turn))

-- a step leads to the end from where the step after it does
leads_on : (design : Design) (p now : ℕ) (h g : Going) (t turn : Turn) → Leads design p now h.left h t → continued h t ≡ continued g turn → (k : ℕ) × (turn_within k design p now h ≡ Some (continued g turn))
unfolding Leads turn_within
leads_on design p now h g t turn (k, e) same = (suc k, e ∙ ap (λ x. Some x) same)

-- a statement leads to the end that it makes
leads_off : (g : Going) (rs : List ℕ) (left : Remainder) (wait : Wait) (finish : Bool) (others : Going → Option Turn) → and_then (stops (counted rs g) wait finish left) others ≡ Some (continued g (with_step rs (over_at_once left wait finish)))
leads_off g rs left wait finish others =
    ap (λ n. and_then n others) (stopped (counted rs g) left wait finish) ∙ ap (λ x. Some x) (continued_step g rs (over_at_once left wait finish))

-- the second, where a condition isn't true
where_not_true : (t : Truth) (first second : Remainder) → t ≢ True → where_true t first second ≡ second
where_not_true True first second isnt = absurd (isnt refl)
where_not_true False first second isnt = refl
where_not_true Unknown first second isnt = refl

leads : (design : Design) (p now : ℕ) (left : Remainder) (store : Store) (turn : Turn) → HasTurn design p now left store turn → (g : Going) → Leads design p now left (record g { values = store }) turn
unfolding Leads continued
leads design p now _ _ _ (nothing place rest store turn at d) g =
    let begin : Going = record g { values = store } in
    let h : Going = record (counted [] begin) { left = rest } in
    let on : (k : ℕ) × (turn_within k design p now h ≡ Some (continued begin (with_step [] turn))) =
    leads_on design p now h begin turn (with_step [] turn) (leads design p now rest store turn d h) (continued_step begin [] turn) in
    (on.0, rw at on.1)
leads design p now _ _ _ (assigned place r x rest store turn at d) g =
    let v : Vector = assigned_value design.widths store r x in
    let begin : Going = record g { values = store } in
    let step : Going = counted (registers_of x) begin in
    let h : Going = record step { left = rest; values = slice_set store r v; writes = g.writes ++ (r, v) ∷ [] } in
    let on : (k : ℕ) × (turn_within k design p now h ≡ Some (continued begin (with_step (registers_of x) (with_write r v turn)))) =
    leads_on design p now h begin turn (with_step (registers_of x) (with_write r v turn)) (leads design p now rest (slice_set store r v) turn d h)
    (continued_write step rest (slice_set store r v) r v turn ∙ continued_step begin (registers_of x) (with_write r v turn)) in
    (on.0, rw at on.1)
leads design p now _ _ _ (timed place r rest store turn at d) g =
    let v : Vector = time_value design.widths r now in
    let begin : Going = record g { values = store } in
    let step : Going = counted [] begin in
    let h : Going = record step { left = rest; values = slice_set store r v; writes = g.writes ++ (r, v) ∷ [] } in
    let on : (k : ℕ) × (turn_within k design p now h ≡ Some (continued begin (with_step [] (with_write r v turn)))) =
    leads_on design p now h begin turn (with_step [] (with_write r v turn)) (leads design p now rest (slice_set store r v) turn d h)
    (continued_write step rest (slice_set store r v) r v turn ∙ continued_step begin [] (with_write r v turn)) in
    (on.0, rw at on.1)
leads design p now _ _ _ (left_over r v rest store turn d) g =
    let begin : Going = record g { values = store } in
    let step : Going = counted [] begin in
    let h : Going = record step { left = rest; values = slice_set store r v; writes = g.writes ++ (r, v) ∷ [] } in
    leads_on design p now h begin turn (with_step [] (with_write r v turn)) (leads design p now rest (slice_set store r v) turn d h)
    (continued_write step rest (slice_set store r v) r v turn ∙ continued_step begin [] (with_write r v turn))
leads design p now _ _ _ (assigned_after place r d x rest store at) g =
    (0, rw at (leads_off (record g { values = store }) (registers_of x) (Set r (assigned_value design.widths store r x) ∷ rest) (delayed now d) false (turn_within 0 design p now)))
leads design p now _ _ _ (assigned_later place r d x rest store turn at has) g =
    let l : NonblockingAssignment = record { register = r; value = assigned_value design.widths store r x; due = now + d } in
    let begin : Going = record g { values = store } in
    let step : Going = counted (registers_of x) begin in
    let h : Going = record step { left = rest; nbas = g.nbas ++ l ∷ [] } in
    let on : (k : ℕ) × (turn_within k design p now h ≡ Some (continued begin (with_step (registers_of x) (with_later l turn)))) =
    leads_on design p now h begin turn (with_step (registers_of x) (with_later l turn)) (leads design p now rest store turn has h)
    (continued_later step rest l turn ∙ continued_step begin (registers_of x) (with_later l turn)) in
    (on.0, rw at on.1)
leads design p now _ _ _ (delay place d body rest store at) g =
    (0, rw at (leads_off (record g { values = store }) [] (parts (place + 1) body ++ rest) (delayed now d) false (turn_within 0 design p now)))
leads design p now _ _ _ (event place triggers body rest store at) g =
    (0, rw at (leads_off (record g { values = store }) [] (parts (place + 1) body ++ rest) (OnChange triggers) false (turn_within 0 design p now)))
leads design p now _ _ _ (chosen place c body otherwise rest store turn at is d) g =
    let begin : Going = record g { values = store } in
    let h : Going = record (counted (registers_of c) begin) { left = parts (place + 1) body ++ rest } in
    let on : (k : ℕ) × (turn_within k design p now h ≡ Some (continued begin (with_step (registers_of c) turn))) =
    leads_on design p now h begin turn (with_step (registers_of c) turn) (leads design p now (parts (place + 1) body ++ rest) store turn d h)
    (continued_step begin (registers_of c) turn) in
    (on.0, rw (at, is) on.1)
leads design p now _ _ _ (other place c body otherwise rest store turn at isnt d) g =
    let begin : Going = record g { values = store } in
    let second : Remainder = parts (place + 1 + size body) otherwise ++ rest in
    let h : Going = record (counted (registers_of c) begin) { left = second } in
    let on : (k : ℕ) × (turn_within k design p now h ≡ Some (continued begin (with_step (registers_of c) turn))) =
    leads_on design p now h begin turn (with_step (registers_of c) turn) (leads design p now second store turn d h)
    (continued_step begin (registers_of c) turn) in
    (on.0, rw (at, where_not_true (truth (own_value design.widths store c)) (parts (place + 1) body ++ rest) second isnt) on.1)
leads design p now _ _ _ (again place c body rest store turn at is d) g =
    let begin : Going = record g { values = store } in
    let h : Going = record (counted (registers_of c) begin) { left = parts (place + 1) body ++ At place ∷ rest } in
    let on : (k : ℕ) × (turn_within k design p now h ≡ Some (continued begin (with_step (registers_of c) turn))) =
    leads_on design p now h begin turn (with_step (registers_of c) turn) (leads design p now (parts (place + 1) body ++ At place ∷ rest) store turn d h)
    (continued_step begin (registers_of c) turn) in
    (on.0, rw (at, is) on.1)
leads design p now _ _ _ (past place c body rest store turn at isnt d) g =
    let begin : Going = record g { values = store } in
    let h : Going = record (counted (registers_of c) begin) { left = rest } in
    let on : (k : ℕ) × (turn_within k design p now h ≡ Some (continued begin (with_step (registers_of c) turn))) =
    leads_on design p now h begin turn (with_step (registers_of c) turn) (leads design p now rest store turn d h)
    (continued_step begin (registers_of c) turn) in
    (on.0, rw (at, where_not_true (truth (own_value design.widths store c)) (parts (place + 1) body ++ At place ∷ rest) rest isnt) on.1)
leads design p now _ _ _ (displayed place format arguments rest store turn at d) g =
    let line : List ℕ = line_text format (own_values design.widths store arguments) in
    let begin : Going = record g { values = store } in
    let step : Going = counted (all_registers_of arguments) begin in
    let h : Going = record step { left = rest; lines = g.lines ++ line } in
    let on : (k : ℕ) × (turn_within k design p now h ≡ Some (continued begin (with_step (all_registers_of arguments) (with_line line turn)))) =
    leads_on design p now h begin turn (with_step (all_registers_of arguments) (with_line line turn)) (leads design p now rest store turn d h)
    (continued_line step rest line turn ∙ continued_step begin (all_registers_of arguments) (with_line line turn)) in
    (on.0, rw at on.1)
leads design p now _ _ _ (text_written place format arguments rest store turn at d) g =
    let text : List ℕ = written_text format (own_values design.widths store arguments) in
    let begin : Going = record g { values = store } in
    let step : Going = counted (all_registers_of arguments) begin in
    let h : Going = record step { left = rest; lines = g.lines ++ text } in
    let on : (k : ℕ) × (turn_within k design p now h ≡ Some (continued begin (with_step (all_registers_of arguments) (with_line text turn)))) =
    leads_on design p now h begin turn (with_step (all_registers_of arguments) (with_line text turn)) (leads design p now rest store turn d h)
    (continued_line step rest text turn ∙ continued_step begin (all_registers_of arguments) (with_line text turn)) in
    (on.0, rw at on.1)
leads design p now _ _ _ (strobed place format arguments rest store turn at d) g =
    let begin : Going = record g { values = store } in
    let step : Going = counted [] begin in
    let h : Going = record step { left = rest; strobes = g.strobes ++ place ∷ [] } in
    let on : (k : ℕ) × (turn_within k design p now h ≡ Some (continued begin (with_step [] (with_strobe place turn)))) =
    leads_on design p now h begin turn (with_step [] (with_strobe place turn)) (leads design p now rest store turn d h)
    (continued_strobe step rest place turn ∙ continued_step begin [] (with_strobe place turn)) in
    (on.0, rw at on.1)
leads design p now _ _ _ (finished place rest store at) g =
    (0, rw at (leads_off (record g { values = store }) [] rest Ended true (turn_within 0 design p now)))
leads design p now _ _ _ (ended store once) g =
    (0, rw once (ap (λ n. and_then n (turn_within 0 design p now)) (stopped (record g { values = store }) [] Ended false)))
leads design p now _ _ _ (restarted store turn repeats d) g =
    let begin : Going = record g { values = store } in
    let h : Going = record (counted [] begin) { left = whole design p } in
    let on : (k : ℕ) × (turn_within k design p now h ≡ Some (continued begin (with_step [] turn))) =
    leads_on design p now h begin turn (with_step [] turn) (leads design p now (whole design p) store turn d h) (continued_step begin [] turn) in
    (on.0, rw repeats on.1)

turn_by_cases : (design : Design) (p : ℕ) (remainder : Remainder) (store : Store) (now : ℕ) (turn : Turn) → IsTurn design p remainder store now turn → HasTurn design p now remainder store turn
unfolding Found
turn_by_cases design p remainder store now turn (k, e) =
    let (t, d, same) = found k design p now (begun remainder store) turn e in
    let is : turn ≡ t = same ∙ continued_begun remainder store t in
    rw is d

turn_by_steps : (design : Design) (p : ℕ) (remainder : Remainder) (store : Store) (now : ℕ) (turn : Turn) → HasTurn design p now remainder store turn → IsTurn design p remainder store now turn
unfolding Leads turn_within
turn_by_steps design p remainder store now turn d =
    let (k, e) = leads design p now remainder store turn d (begun remainder store) in
    (suc k, e ∙ ap (λ x. Some x) (continued_begun remainder store turn))

pub turn_by_cases_is_exact : TurnByCasesIsExact
turn_by_cases_is_exact design p remainder store now turn =
    (turn_by_steps design p remainder store now turn, turn_by_cases design p remainder store now turn)

pub short_turn_by_cases_is_exact : ShortTurnByCasesIsExact
short_turn_by_cases_is_exact design p remainder store now turn = (
  λ e. let (is, short) = short_turn_is design p remainder store now turn e in (turn_by_cases design p remainder store now turn is, short),
  λ (d, short). short_turn_found design p remainder store now turn (turn_by_steps design p remainder store now turn d) short,
)

pub turn_by_cases_is_unique : TurnByCasesIsUnique
turn_by_cases_is_unique design p remainder store now s t d e =
    turn_unique design p remainder store now s t (turn_by_steps design p remainder store now s d) (turn_by_steps design p remainder store now t e)

-- ---- an always construct whose statements are used up

-- the turn without its restart
without_step : Turn → Turn
without_step turn = record turn { count = turn.count - 1 }

without_with : (turn : Turn) → without_step (with_step [] turn) ≡ turn
unfolding without_step
without_with turn = let count : turn.count + 1 - 1 ≡ turn.count = omega arith in rw count refl

-- the turn of the whole body
Again : Design → ℕ → ℕ → Store → Turn → Type 0
Again design p now store turn = (t : Turn) × HasTurn design p now (whole design p) store t × (turn ≡ with_step [] t)

again_from : (design : Design) (p now : ℕ) (left : Remainder) (store : Store) (turn : Turn) → HasTurn design p now left store turn → left ≡ [] → (process_at design p).repeats ≡ true → Again design p now store turn
unfolding Again
again_from design p now _ _ _ (ended store once) none repeats = cc
again_from design p now _ _ _ (restarted store turn is d) none repeats = (turn, d, refl)
again_from design p now _ _ _ _ none repeats = cc

pub used_up_is_whole_again : UsedUpIsWholeAgain
unfolding Again
used_up_is_whole_again design p store now turn repeats = (
  λ d. let (t, whole_has, is) = again_from design p now [] store (with_step [] turn) d refl repeats in
      let same : turn ≡ t = sym (without_with turn) ∙ ap without_step is ∙ without_with t in
      rw same whole_has,
  λ d. restarted store turn repeats d,
)
