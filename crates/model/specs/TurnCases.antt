-- The turn of a process once more, as a relation by cases on the first statement of its remainder (IEEE 1364-2005, 9.2
-- to 9.9, 17.1, 17.4). Here nothing counts the steps in advance: a turn is its first statement, and then the turn of
-- what is left. A block is the list of its statements (9.8.1), so it needs no case of its own.
use Rattle.std.specs.Prelude.{◌≡◌, ◌≢◌, ◌↔◌, ℕ, ◌+◌, Bool, true, false, not, ◌==◌, List, [], ◌∷◌, ◌++◌, filter, slice_set, Some}
use Rattle.logic4.specs.declared.digit.Truth.TheVariants.{True}
use Rattle.logic4.specs.Vector.{Vector}
use Rattle.logic4.specs.Operators.{truth}
use Rattle.model.specs.declared.tree.Task.TheVariants.{Display, Strobe, Write}
use Rattle.model.specs.Syntax.{Expression, Expressions, registers_of, all_registers_of}
use Rattle.model.specs.Design.{Design, Empty, Assign, AssignAfter, AssignLater, Now, Delay, Await, If, While, Print, Finish, Statements, Trigger, size, statement_at, process_at}
use Rattle.model.specs.Syntax.{Piece}
use Rattle.model.specs.Expressions.{Store, own_value, assigned_value}
use Rattle.model.specs.Turns.{At, Set, Remainder, Wait, Ended, OnChange, NonblockingAssignment, Turn, parts, whole, own_values, line_text, written_text, time_value, delayed, IsTurn, IsShort, short_turn}

-- the registers without one of them
abbrev pub all_but : ℕ → List ℕ → List ℕ
all_but r rs = filter (λ q. not (r == q)) rs

-- registers in the order of their first use, each once: those that are read now, and then those that are used later
abbrev pub first_uses : List ℕ → List ℕ → List ℕ
first_uses [] later = later
first_uses (r ∷ rs) later = r ∷ all_but r (first_uses rs later)

-- the turn that is over at once, with this left, in this wait
abbrev pub over_at_once : Remainder → Wait → Bool → Turn
over_at_once left wait finish =
    record { uses = []; writes = []; nbas = []; lines = []; strobes = []; rest = left; wait = wait; finish = finish; count = 0 }

-- the turn with one more counted step before it, in which these registers are read
abbrev pub with_step : List ℕ → Turn → Turn
with_step rs turn = record turn { uses = first_uses rs turn.uses; count = turn.count + 1 }

-- the turn with a write before it: what it reads of that register from then on is its own, and no use
abbrev pub with_write : ℕ → Vector → Turn → Turn
with_write r v turn = record turn { uses = all_but r turn.uses; writes = (r, v) ∷ turn.writes }

-- the turn with a nonblocking assignment before it
abbrev pub with_later : NonblockingAssignment → Turn → Turn
with_later later turn = record turn { nbas = later ∷ turn.nbas }

-- the turn with a print before it
abbrev pub with_line : List ℕ → Turn → Turn
with_line line turn = record turn { lines = line ++ turn.lines }

-- the turn with a $strobe before it
abbrev pub with_strobe : ℕ → Turn → Turn
with_strobe place turn = record turn { strobes = place ∷ turn.strobes }

-- `HasTurn design p now remainder store turn`: at time now the process with number p, which has this remainder, has this
-- turn on this store.
pub data HasTurn (design : Design) (p now : ℕ) : Remainder → Store → Turn → Type 0 where
  -- `;` does nothing (A.6.4).
  nothing : (place : ℕ) (rest : Remainder) (store : Store) (turn : Turn)
      → statement_at design place ≡ Empty
      → HasTurn design p now rest store turn
      → HasTurn design p now (At place ∷ rest) store (with_step [] turn)
  -- `r = e;` is a write, which the rest of the turn sees (9.2.1).
  assigned : (place r : ℕ) (e : Expression ℕ) (rest : Remainder) (store : Store) (turn : Turn)
      → statement_at design place ≡ Assign r e
      → HasTurn design p now rest (slice_set store r (assigned_value design.widths store r e)) turn
      → HasTurn design p now (At place ∷ rest) store (with_step (registers_of e) (with_write r (assigned_value design.widths store r e) turn))
  -- `r = $time;` writes the time of the turn (17.7.1).
  timed : (place r : ℕ) (rest : Remainder) (store : Store) (turn : Turn)
      → statement_at design place ≡ Now r
      → HasTurn design p now rest (slice_set store r (time_value design.widths r now)) turn
      → HasTurn design p now (At place ∷ rest) store (with_step [] (with_write r (time_value design.widths r now) turn))
  -- What is left over from `r = #d e;` writes the value that was computed before its wait (9.7.7).
  left_over : (r : ℕ) (v : Vector) (rest : Remainder) (store : Store) (turn : Turn)
      → HasTurn design p now rest (slice_set store r v) turn
      → HasTurn design p now (Set r v ∷ rest) store (with_step [] (with_write r v turn))
  -- `r = #d e;` computes e and ends the turn for d; the assignment is left over (9.7.7).
  assigned_after : (place r d : ℕ) (e : Expression ℕ) (rest : Remainder) (store : Store)
      → statement_at design place ≡ AssignAfter r d e
      → HasTurn design p now (At place ∷ rest) store (with_step (registers_of e) (over_at_once (Set r (assigned_value design.widths store r e) ∷ rest) (delayed now d) false))
  -- `r <= #d e;` computes e, and its update is due d later (9.2.2).
  assigned_later : (place r d : ℕ) (e : Expression ℕ) (rest : Remainder) (store : Store) (turn : Turn)
      → statement_at design place ≡ AssignLater r d e
      → HasTurn design p now rest store turn
      → HasTurn design p now (At place ∷ rest) store
      (with_step (registers_of e) (with_later (record { register = r; value = assigned_value design.widths store r e; due = now + d }) turn))
  -- `#d s` ends the turn for d, and s is left (9.7.1).
  delay : (place d : ℕ) (body : Statements) (rest : Remainder) (store : Store)
      → statement_at design place ≡ Delay d body
      → HasTurn design p now (At place ∷ rest) store (with_step [] (over_at_once (parts (place + 1) body ++ rest) (delayed now d) false))
  -- `@(..) s` ends the turn up to such a change, and s is left (9.7.2).
  event : (place : ℕ) (triggers : List Trigger) (body : Statements) (rest : Remainder) (store : Store)
      → statement_at design place ≡ Await triggers body
      → HasTurn design p now (At place ∷ rest) store (with_step [] (over_at_once (parts (place + 1) body ++ rest) (OnChange triggers) false))
  -- `if (c) .. else ..` goes on with its first block where c is true (9.4).
  chosen : (place : ℕ) (c : Expression ℕ) (body otherwise : Statements) (rest : Remainder) (store : Store) (turn : Turn)
      → statement_at design place ≡ If c body otherwise → truth (own_value design.widths store c) ≡ True
      → HasTurn design p now (parts (place + 1) body ++ rest) store turn
      → HasTurn design p now (At place ∷ rest) store (with_step (registers_of c) turn)
  -- It goes on with its second block where c is false or unknown (9.4).
  other : (place : ℕ) (c : Expression ℕ) (body otherwise : Statements) (rest : Remainder) (store : Store) (turn : Turn)
      → statement_at design place ≡ If c body otherwise → truth (own_value design.widths store c) ≢ True
      → HasTurn design p now (parts (place + 1 + size body) otherwise ++ rest) store turn
      → HasTurn design p now (At place ∷ rest) store (with_step (registers_of c) turn)
  -- `while (c) ..` runs its block and comes again where c is true (9.6).
  again : (place : ℕ) (c : Expression ℕ) (body : Statements) (rest : Remainder) (store : Store) (turn : Turn)
      → statement_at design place ≡ While c body → truth (own_value design.widths store c) ≡ True
      → HasTurn design p now (parts (place + 1) body ++ At place ∷ rest) store turn
      → HasTurn design p now (At place ∷ rest) store (with_step (registers_of c) turn)
  -- It is left where c is false or unknown (9.6).
  past : (place : ℕ) (c : Expression ℕ) (body : Statements) (rest : Remainder) (store : Store) (turn : Turn)
      → statement_at design place ≡ While c body → truth (own_value design.widths store c) ≢ True
      → HasTurn design p now rest store turn
      → HasTurn design p now (At place ∷ rest) store (with_step (registers_of c) turn)
  -- `$display(..);` prints its line (17.1.1).
  displayed : (place : ℕ) (format : List Piece) (arguments : Expressions ℕ) (rest : Remainder) (store : Store) (turn : Turn)
      → statement_at design place ≡ Print Display format arguments
      → HasTurn design p now rest store turn
      → HasTurn design p now (At place ∷ rest) store
      (with_step (all_registers_of arguments) (with_line (line_text format (own_values design.widths store arguments)) turn))
  -- `$write(..);` prints its text, without a newline (17.1).
  text_written : (place : ℕ) (format : List Piece) (arguments : Expressions ℕ) (rest : Remainder) (store : Store) (turn : Turn)
      → statement_at design place ≡ Print Write format arguments
      → HasTurn design p now rest store turn
      → HasTurn design p now (At place ∷ rest) store
      (with_step (all_registers_of arguments) (with_line (written_text format (own_values design.widths store arguments)) turn))
  -- `$strobe(..);` is met; its line is made when the time ends, so it reads nothing here (17.1.2).
  strobed : (place : ℕ) (format : List Piece) (arguments : Expressions ℕ) (rest : Remainder) (store : Store) (turn : Turn)
      → statement_at design place ≡ Print Strobe format arguments
      → HasTurn design p now rest store turn
      → HasTurn design p now (At place ∷ rest) store (with_step [] (with_strobe place turn))
  -- `$finish;` ends the turn and the run (17.4.1).
  finished : (place : ℕ) (rest : Remainder) (store : Store)
      → statement_at design place ≡ Finish
      → HasTurn design p now (At place ∷ rest) store (with_step [] (over_at_once rest Ended true))
  -- Where nothing is left of an initial construct, it is over for good; that is no counted step (9.9.1).
  ended : (store : Store)
      → (process_at design p).repeats ≡ false
      → HasTurn design p now [] store (over_at_once [] Ended false)
  -- Where nothing is left of an always construct, its body begins again in the same turn (9.9.2).
  restarted : (store : Store) (turn : Turn)
      → (process_at design p).repeats ≡ true
      → HasTurn design p now (whole design p) store turn
      → HasTurn design p now [] store (with_step [] turn)

-- The turn by cases is the turn to which the steps lead.
abbrev pub TurnByCasesIsExact : Type 0
TurnByCasesIsExact =
    (design : Design) (p : ℕ) (remainder : Remainder) (store : Store) (now : ℕ) (turn : Turn)
    → HasTurn design p now remainder store turn ↔ IsTurn design p remainder store now turn

-- `short_turn` finds the turn by cases exactly where it is short.
abbrev pub ShortTurnByCasesIsExact : Type 0
ShortTurnByCasesIsExact =
    (design : Design) (p : ℕ) (remainder : Remainder) (store : Store) (now : ℕ) (turn : Turn)
    → (short_turn design p remainder store now ≡ Some turn) ↔ (HasTurn design p now remainder store turn × IsShort turn)

-- For one remainder, store and time there is at most one turn by cases.
abbrev pub TurnByCasesIsUnique : Type 0
TurnByCasesIsUnique =
    (design : Design) (p : ℕ) (remainder : Remainder) (store : Store) (now : ℕ) (s t : Turn)
    → HasTurn design p now remainder store s → HasTurn design p now remainder store t → s ≡ t

-- What is left of an always construct whose statements are used up is its body again: its turn is that of the whole body,
-- with one counted step more, which is the restart.
abbrev pub UsedUpIsWholeAgain : Type 0
UsedUpIsWholeAgain =
    (design : Design) (p : ℕ) (store : Store) (now : ℕ) (turn : Turn) → (process_at design p).repeats ≡ true
    → HasTurn design p now [] store (with_step [] turn) ↔ HasTurn design p now (whole design p) store turn
