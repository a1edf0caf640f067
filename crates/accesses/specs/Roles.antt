-- What an entry of a run does at a register, where lines are printed or updates are put in order, or where the run ends.
use Rattle.std.specs.Prelude.{◌≡◌, ℕ, Bool, true, false, ◌==◌, List, [], ◌∷◌, ◌++◌, Some}
use Rattle.std.specs.List.{All, list_any}
use Rattle.logic4.specs.Vector.{Vector}
use Rattle.model.specs.declared.entry.Entry.{Entry}
use Rattle.model.specs.declared.entry.Entry.TheVariants as entries
use Rattle.model.specs.Design.{Design}
use Rattle.model.specs.Turns.{Wait, Ended, Inactive, Until, OnChange, Turn}
use Rattle.model.specs.States.{Evaluate, Update, State}
use Rattle.model.specs.Runs.{action_in, has_any, turn_of, after}
use Rattle.regions.specs.Machine.{IsChange}
use Rattle.accesses.specs.declared.role.Site.{Site}
use Rattle.accesses.specs.declared.role.Site.TheVariants.{Register, Printing, Strobing, Finishing, Updating}
use Rattle.accesses.specs.declared.role.Does.{Does}
use Rattle.accesses.specs.declared.role.Does.TheVariants.{Writes, Assigns, Updates, Reads, Waits, Prints, Strobes, Finishes, Runs, Schedules}
use Rattle.accesses.specs.declared.role.Role.{Role}

-- whether a process waits for changes of a register (9.7)
abbrev pub waits_for : ℕ → Wait → Bool
waits_for r (OnChange triggers) = list_any (λ t. t.1 == r) triggers
waits_for r Ended = false
waits_for r Inactive = false
waits_for r (Until time) = false

-- whether a turn does this to a register: writes it, assigns it by a nonblocking assignment, reads it before it writes it, goes
-- on to wait for a change of it, or meets $finish, behind which no update of it comes
abbrev pub does_to : ℕ → Does → Turn → Bool
does_to r Writes turn = list_any (λ w. w.0 == r) turn.writes
does_to r Assigns turn = list_any (λ l. l.register == r) turn.nbas
does_to r Updates turn = false
does_to r Reads turn = list_any (λ u. r == u) turn.uses
does_to r Waits turn = waits_for r turn.wait
does_to r Prints turn = false
does_to r Strobes turn = false
does_to r Finishes turn = turn.finish
does_to r Runs turn = false
does_to r Schedules turn = false

-- whether a turn does this where lines are printed: prints one
abbrev pub does_print : Does → Turn → Bool
does_print Writes turn = false
does_print Assigns turn = false
does_print Updates turn = false
does_print Reads turn = false
does_print Waits turn = false
does_print Prints turn = has_any turn.lines
does_print Strobes turn = false
does_print Finishes turn = false
does_print Runs turn = false
does_print Schedules turn = false

-- whether a turn does this where the lines of $strobe statements are put in order: meets one
abbrev pub does_strobe : Does → Turn → Bool
does_strobe Writes turn = false
does_strobe Assigns turn = false
does_strobe Updates turn = false
does_strobe Reads turn = false
does_strobe Waits turn = false
does_strobe Prints turn = false
does_strobe Strobes turn = has_any turn.strobes
does_strobe Finishes turn = false
does_strobe Runs turn = false
does_strobe Schedules turn = false

-- whether a turn does this where the run ends: meets $finish, behind which no entry comes, prints a line, or is any turn
abbrev pub does_finish : Does → Turn → Bool
does_finish Writes turn = false
does_finish Assigns turn = false
does_finish Updates turn = false
does_finish Reads turn = false
does_finish Waits turn = false
does_finish Prints turn = has_any turn.lines
does_finish Strobes turn = false
does_finish Finishes turn = turn.finish
does_finish Runs turn = true
does_finish Schedules turn = false

-- whether a turn does this where updates are put in order: makes a nonblocking assignment
abbrev pub does_schedule : Does → Turn → Bool
does_schedule Writes turn = false
does_schedule Assigns turn = false
does_schedule Updates turn = false
does_schedule Reads turn = false
does_schedule Waits turn = false
does_schedule Prints turn = false
does_schedule Strobes turn = false
does_schedule Finishes turn = false
does_schedule Runs turn = false
does_schedule Schedules turn = has_any turn.nbas

-- whether a turn does this at a site
abbrev pub does_at : Site → Does → Turn → Bool
does_at (Register r) does turn = does_to r does turn
does_at Printing does turn = does_print does turn
does_at Strobing does turn = does_strobe does turn
does_at Finishing does turn = does_finish does turn
does_at Updating does turn = does_schedule does turn

-- The event with a number is an evaluation of the role's process, and the turn that it has here does at the site what the role
-- says.
pub record IsTurnIn (design : Design) (s : State) (number : ℕ) (site : Site) (role : Role) : Type 0 where
  pub turn : Turn
  pub evaluates : action_in s.active number ≡ Some (Evaluate role.process)
  pub is_turn : turn_of design s role.process ≡ Some turn
  pub does : does_at site role.does turn ≡ true

-- The event with a number is an update of the site's register. Of which process's assignment isn't said.
pub record IsUpdateIn (s : State) (number : ℕ) (site : Site) (role : Role) : Type 0 where
  pub register : ℕ
  pub value : Vector
  pub at : site ≡ Register register
  pub updates : role.does ≡ Updates
  pub is_update : action_in s.active number ≡ Some (Update register value)

-- an entry does at a site what a role says
abbrev pub HasRole : Design → State → Entry → Site → Role → Type 0
HasRole design s (entries.Turn number) site role = IsTurnIn design s number site role
HasRole design s (entries.Update number) site role = IsUpdateIn s number site role
HasRole design s entries.ActivateInactive site role = ⊥
HasRole design s entries.ActivateNba site role = ⊥
HasRole design s entries.ActivateMonitor site role = ⊥
HasRole design s (entries.Advance time) site role = ⊥

-- an entry is no change of the regions
abbrev pub IsEvent : Entry → Type 0
IsEvent entry = IsChange entry → ⊥

-- Behind a journal, at a time, an entry does at a site what a role says.
pub record IsRoleBehind (design : Design) (journal : List Entry) (entry : Entry) (site : Site) (time : ℕ) (role : Role) : Type 0 where
  pub state : State
  pub is_after : after design journal ≡ Some state
  pub at : state.time ≡ time
  pub has : HasRole design state entry site role

-- Two entries of a journal, one after the other with no change of the regions between them: the first does at a site what the
-- one role says, and the second what the other says, at this time.
pub record HasPair (design : Design) (journal : List Entry) (site : Site) (time : ℕ) (first second : Role) : Type 0 where
  pub before : List Entry
  pub one : Entry
  pub between : List Entry
  pub other : Entry
  pub behind : List Entry
  pub journal_is : journal ≡ before ++ ((one ∷ between) ++ (other ∷ behind))
  pub segment : All IsEvent (one ∷ between)
  pub is_first : IsRoleBehind design before one site time first
  pub is_second : IsRoleBehind design (before ++ (one ∷ between)) other site time second

-- an entry is one of a role: a turn of its process, whatever that turn does, or an update of the site's register
abbrev pub IsOfRole : State → Entry → Site → Role → Type 0
IsOfRole s (entries.Turn number) site role = action_in s.active number ≡ Some (Evaluate role.process)
IsOfRole s (entries.Update number) site role = IsUpdateIn s number site role
IsOfRole s entries.ActivateInactive site role = ⊥
IsOfRole s entries.ActivateNba site role = ⊥
IsOfRole s entries.ActivateMonitor site role = ⊥
IsOfRole s (entries.Advance time) site role = ⊥

-- Behind a journal, at a time, an entry is one of a role.
pub record IsOneBehind (design : Design) (journal : List Entry) (entry : Entry) (site : Site) (time : ℕ) (role : Role) : Type 0 where
  pub state : State
  pub is_after : after design journal ≡ Some state
  pub at : state.time ≡ time
  pub is_one : IsOfRole state entry site role

-- A journal has an entry later than another one had it: behind the same entries, and then some with no change of the regions, comes
-- one of the second role, and right behind that the entry itself, which is one of the first role there too.
pub record IsExchanged (design : Design) (before : List Entry) (one : Entry) (exchanged : List Entry) (site : Site) (time : ℕ) (first second : Role) : Type 0 where
  pub needed : List Entry
  pub other : Entry
  pub behind : List Entry
  pub exchanged_is : exchanged ≡ before ++ (needed ++ (other ∷ one ∷ behind))
  pub segment : All IsEvent needed
  pub is_second : IsOneBehind design (before ++ needed) other site time second
  pub is_first : IsOneBehind design ((before ++ needed) ++ other ∷ []) one site time first

-- A journal ends before an entry that another one had: behind the same entries, and then some with no change of the regions, comes
-- one that finishes, as the second role says, and is the last, and behind it the entry itself is left, one of the first role.
pub record IsCutOff (design : Design) (before : List Entry) (one : Entry) (exchanged : List Entry) (site : Site) (time : ℕ) (first second : Role) : Type 0 where
  pub needed : List Entry
  pub other : Entry
  pub exchanged_is : exchanged ≡ before ++ (needed ++ other ∷ [])
  pub segment : All IsEvent needed
  pub finishes : second.does ≡ Finishes
  pub is_second : IsRoleBehind design (before ++ needed) other site time second
  pub is_first : IsOneBehind design ((before ++ needed) ++ other ∷ []) one site time first

-- A journal's last entry finishes, as the first role says, and another journal has it later: behind the same entries comes one that
-- does what the second role says, then some with no change of the regions, and then the entry itself, which is one of the first role
-- there too.
pub record IsHeldBack (design : Design) (journal exchanged : List Entry) (site : Site) (time : ℕ) (first second : Role) : Type 0 where
  pub before : List Entry
  pub one : Entry
  pub other : Entry
  pub between : List Entry
  pub behind : List Entry
  pub journal_is : journal ≡ before ++ one ∷ []
  pub finishes : first.does ≡ Finishes
  pub is_first : IsRoleBehind design before one site time first
  pub exchanged_is : exchanged ≡ before ++ ((other ∷ between) ++ (one ∷ behind))
  pub segment : All IsEvent (other ∷ between)
  pub is_second : IsRoleBehind design before other site time second
  pub is_first_again : IsOneBehind design (before ++ (other ∷ between)) one site time first

-- In one journal the first role's entry comes before the second role's, and in another one the other way round.
pub data HasBothOrders (design : Design) (journal exchanged : List Entry) (site : Site) (time : ℕ) (first second : Role) : Type 0 where
  -- Both entries are in both journals.
  swapped : (pair : HasPair design journal site time first second) → IsExchanged design pair.before pair.one exchanged site time first second → HasBothOrders design journal exchanged site time first second
  -- Both are in the first one, and in the other the second role's finishes before the first one's comes.
  cut_off : (pair : HasPair design journal site time first second) → IsCutOff design pair.before pair.one exchanged site time first second → HasBothOrders design journal exchanged site time first second
  -- In the first one the first role's finishes before the second one's comes, and both are in the other.
  held_back : IsHeldBack design journal exchanged site time first second → HasBothOrders design journal exchanged site time first second
