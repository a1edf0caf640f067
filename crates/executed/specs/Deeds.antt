-- What the nodes of flat code do by which their process may race, and how often.
use Rattle.std.specs.Prelude.{ℕ, ◌-◌, ◌^◌, ◌==◌, min, Bool, true, false, not, List, Option, Some, None, if◌then◌else◌, count_by, slice_get}
use Rattle.std.specs.List.{sum_by}
use Rattle.model.specs.Design.{Trigger}
use Rattle.model.specs.declared.tree.Task.{Task}
use Rattle.model.specs.declared.tree.Task.TheVariants as tasks
use Rattle.design.specs.declared.code.Op.{Op}
use Rattle.design.specs.declared.code.Op.TheVariants as steps
use Rattle.design.specs.declared.code.Span.{Span}
use Rattle.design.specs.declared.code.LinePiece.{LinePiece}
use Rattle.design.specs.declared.code.LinePiece.TheVariants as pieces
use Rattle.design.specs.declared.code.Node.{Node}
use Rattle.design.specs.declared.code.Node.TheVariants as nodes
use Rattle.design.specs.ExpressionSteps.{span_of}
use Rattle.design.specs.Compiled.{Compiled}
use Rattle.accesses.specs.declared.role.Site.{Site}
use Rattle.accesses.specs.declared.role.Site.TheVariants as sites
use Rattle.accesses.specs.declared.role.Does.{Does}
use Rattle.accesses.specs.declared.role.Does.TheVariants as doings
use Rattle.executed.specs.declared.deed.Deed.{Deed}
use Rattle.executed.specs.declared.deed.Deed.TheVariants as deeds

-- what a statement does by which its process does this to a register, if it does so by one: an update is that of a nonblocking assignment
abbrev pub deed_to : ℕ → Does → Option Deed
deed_to r doings.Writes = Some (deeds.Writes r)
deed_to r doings.Assigns = Some (deeds.Assigns r)
deed_to r doings.Updates = Some (deeds.Assigns r)
deed_to r doings.Reads = Some (deeds.Reads r)
deed_to r doings.Waits = Some (deeds.Waits r)
deed_to r doings.Prints = Some deeds.Prints
deed_to r doings.Strobes = Some deeds.Strobes
deed_to r doings.Finishes = Some deeds.Finishes
deed_to r doings.Runs = None
deed_to r doings.Schedules = Some deeds.Schedules

-- so it is at a site of which no register is told
abbrev pub deed_without : Does → Option Deed
deed_without doings.Writes = None
deed_without doings.Assigns = None
deed_without doings.Updates = None
deed_without doings.Reads = None
deed_without doings.Waits = None
deed_without doings.Prints = Some deeds.Prints
deed_without doings.Strobes = Some deeds.Strobes
deed_without doings.Finishes = Some deeds.Finishes
deed_without doings.Runs = None
deed_without doings.Schedules = Some deeds.Schedules

-- what a statement does by which its process does this at a site
abbrev pub deed_of : Site → Does → Option Deed
deed_of (sites.Register r) what = deed_to r what
deed_of sites.Printing what = deed_without what
deed_of sites.Strobing what = deed_without what
deed_of sites.Finishing what = deed_without what
deed_of sites.Updating what = deed_without what

-- a step of an expression takes the value of a register
abbrev pub names_register : ℕ → Op → Bool
names_register r (steps.Load q size) = q == r
names_register r (steps.Pick q index size) = q == r
names_register r (steps.BinaryRegister operator size asked q other) = q == r
names_register r (steps.Constant value) = false
names_register r (steps.Unary operator asked) = false
names_register r (steps.Binary operator size asked) = false
names_register r (steps.BinaryConstant operator size asked value) = false
names_register r steps.Join = false
names_register r (steps.Resize size) = false
names_register r (steps.Extend by size asked) = false
names_register r (steps.Choose size) = false

-- a number, or the greatest one of 64 digits where it is more
abbrev pub at_most_word : ℕ → ℕ
at_most_word n = min n (2 ^ 64 - 1)

-- how often an expression names a register
abbrev pub times_named : Compiled → Span → ℕ → ℕ
times_named code span r = count_by (names_register r) (span_of code.ops span)

-- how often a piece of a line names a register
abbrev pub times_in_piece : Compiled → ℕ → LinePiece → ℕ
times_in_piece code r (pieces.Byte b) = 0
times_in_piece code r (pieces.Value conversion span) = times_named code span r

-- how often the pieces of a line name a register
abbrev pub times_shown : Compiled → Span → ℕ → ℕ
times_shown code span r = at_most_word (sum_by (times_in_piece code r) (span_of code.shown span))

-- how often a statement that prints reads a register in its turn: the lines of $strobe are made later
abbrev pub times_printed : Compiled → Task → Span → ℕ → ℕ
times_printed code tasks.Strobe span r = 0
times_printed code tasks.Display span r = times_shown code span r
times_printed code tasks.Write span r = times_shown code span r

-- how often a node reads a register
abbrev pub times_read : Compiled → Node → ℕ → ℕ
times_read code (nodes.Assign q value next) r = times_named code value r
times_read code (nodes.AssignAfter q delay value next) r = times_named code value r
times_read code (nodes.AssignLater q delay value next) r = times_named code value r
times_read code (nodes.Branch condition taken missed) r = times_named code condition r
times_read code (nodes.Print task span next) r = times_printed code task span r
times_read code nodes.Over r = 0
times_read code (nodes.Restart first) r = 0
times_read code (nodes.Skip next) r = 0
times_read code (nodes.Now q size next) r = 0
times_read code (nodes.Delay delay next) r = 0
times_read code (nodes.Await control next) r = 0
times_read code (nodes.Finish next) r = 0

-- how often an event control waits for a register
abbrev pub times_in_control : ℕ → Option (List Trigger) → ℕ
times_in_control r (Some triggers) = count_by (λ t. t.1 == r) triggers
times_in_control r None = 0

-- how often a node waits for a register
abbrev pub times_awaited : Compiled → Node → ℕ → ℕ
times_awaited code (nodes.Await control next) r = times_in_control r (slice_get code.controls control)
times_awaited code (nodes.Assign q value next) r = 0
times_awaited code (nodes.AssignAfter q delay value next) r = 0
times_awaited code (nodes.AssignLater q delay value next) r = 0
times_awaited code (nodes.Branch condition taken missed) r = 0
times_awaited code (nodes.Print task span next) r = 0
times_awaited code nodes.Over r = 0
times_awaited code (nodes.Restart first) r = 0
times_awaited code (nodes.Skip next) r = 0
times_awaited code (nodes.Now q size next) r = 0
times_awaited code (nodes.Delay delay next) r = 0
times_awaited code (nodes.Finish next) r = 0

-- a node writes a register, at once or after a wait
abbrev pub is_write : Node → ℕ → Bool
is_write (nodes.Assign q value next) r = q == r
is_write (nodes.AssignAfter q delay value next) r = q == r
is_write (nodes.Now q size next) r = q == r
is_write (nodes.AssignLater q delay value next) r = false
is_write (nodes.Branch condition taken missed) r = false
is_write (nodes.Print task span next) r = false
is_write nodes.Over r = false
is_write (nodes.Restart first) r = false
is_write (nodes.Skip next) r = false
is_write (nodes.Delay delay next) r = false
is_write (nodes.Await control next) r = false
is_write (nodes.Finish next) r = false

-- a register is this one, where one is given
abbrev pub is_given : Option ℕ → ℕ → Bool
is_given (Some r) q = q == r
is_given None q = true

-- a node assigns a register without blocking, or any where none is given
abbrev pub is_assignment : Node → Option ℕ → Bool
is_assignment (nodes.AssignLater q delay value next) r = is_given r q
is_assignment (nodes.Assign q value next) r = false
is_assignment (nodes.AssignAfter q delay value next) r = false
is_assignment (nodes.Now q size next) r = false
is_assignment (nodes.Branch condition taken missed) r = false
is_assignment (nodes.Print task span next) r = false
is_assignment nodes.Over r = false
is_assignment (nodes.Restart first) r = false
is_assignment (nodes.Skip next) r = false
is_assignment (nodes.Delay delay next) r = false
is_assignment (nodes.Await control next) r = false
is_assignment (nodes.Finish next) r = false

-- a task makes its line later, or else at once
abbrev pub is_task : Task → Bool → Bool
is_task tasks.Strobe strobes = strobes
is_task tasks.Display strobes = not strobes
is_task tasks.Write strobes = not strobes

-- a node prints, by $strobe or else
abbrev pub is_print : Node → Bool → Bool
is_print (nodes.Print task span next) strobes = is_task task strobes
is_print (nodes.Assign q value next) strobes = false
is_print (nodes.AssignAfter q delay value next) strobes = false
is_print (nodes.AssignLater q delay value next) strobes = false
is_print (nodes.Now q size next) strobes = false
is_print (nodes.Branch condition taken missed) strobes = false
is_print nodes.Over strobes = false
is_print (nodes.Restart first) strobes = false
is_print (nodes.Skip next) strobes = false
is_print (nodes.Delay delay next) strobes = false
is_print (nodes.Await control next) strobes = false
is_print (nodes.Finish next) strobes = false

-- a node finishes the run
abbrev pub is_finishing : Node → Bool
is_finishing (nodes.Finish next) = true
is_finishing (nodes.Print task span next) = false
is_finishing (nodes.Assign q value next) = false
is_finishing (nodes.AssignAfter q delay value next) = false
is_finishing (nodes.AssignLater q delay value next) = false
is_finishing (nodes.Now q size next) = false
is_finishing (nodes.Branch condition taken missed) = false
is_finishing nodes.Over = false
is_finishing (nodes.Restart first) = false
is_finishing (nodes.Skip next) = false
is_finishing (nodes.Delay delay next) = false
is_finishing (nodes.Await control next) = false

-- once, or never
abbrev pub once : Bool → ℕ
once yes_it_does = if yes_it_does then 1 else 0

-- how often a node does what is looked for
abbrev pub times_done : Compiled → Deed → Node → ℕ
times_done code (deeds.Writes r) node = once (is_write node r)
times_done code (deeds.Assigns r) node = once (is_assignment node (Some r))
times_done code deeds.Schedules node = once (is_assignment node None)
times_done code (deeds.Reads r) node = times_read code node r
times_done code (deeds.Waits r) node = times_awaited code node r
times_done code deeds.Prints node = once (is_print node false)
times_done code deeds.Strobes node = once (is_print node true)
times_done code deeds.Finishes node = once (is_finishing node)
