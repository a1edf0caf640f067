-- The line of an entry.
use Rattle.std.specs.Prelude.{ℕ, ◌+◌, ◌==◌, ◌||◌, Bool, true, false, if◌then◌else◌, List, [], ◌∷◌, ◌++◌, codes, decimal}
use Rattle.logic4.specs.Vector.{Vector}
use Rattle.model.specs.declared.entry.Entry.{Entry}
use Rattle.model.specs.declared.entry.Entry.TheVariants as entries
use Rattle.model.specs.Runs.{has_any}
use Rattle.turn.specs.declared.log.Nba.{Nba}
use Rattle.explain.specs.declared.phrases.EntryStyle.{EntryStyle}
use Rattle.explain.specs.declared.phrases.SourceNames.{SourceNames}
use Rattle.steps.specs.declared.entry_account.Reading.{Reading}
use Rattle.steps.specs.declared.entry_account.Changed.{Changed}
use Rattle.steps.specs.declared.entry_account.EntryActor.{EntryActor}
use Rattle.steps.specs.declared.entry_account.EntryActor.TheVariants as actors
use Rattle.steps.specs.Accounts.{Account}
use Rattle.literals.specs.declared.literal.Radix.TheVariants.{Binary}
use Rattle.literals.specs.Literals.{value_text}
use Rattle.explain.specs.Phrases.{quoted_text, register_text, process_text}

-- the delimiter before the first part of a kind: a semicolon behind another kind, else a colon
abbrev pub delimiter : Bool → List ℕ
delimiter true = codes "; "
delimiter false = codes ": "

-- what stands before a part: before the first of a kind its delimiter and its word, before others a comma
abbrev pub lead : ℕ → Bool → List ℕ → List ℕ
lead place behind word = if place == 0 then delimiter behind ++ word else codes ", "

-- binary values, and no versions
abbrev pub plain_style : EntryStyle
plain_style = record { radix = Binary; versions = false }

-- a value, as the style has it
abbrev pub styled_text : SourceNames → Vector → List ℕ
styled_text names v = value_text names.style.radix v

-- the version of a read, where the style has it
abbrev pub read_version_text : Bool → ℕ → List ℕ
read_version_text true version = codes " (version " ++ decimal version ++ codes ")"
read_version_text false version = []

-- a register that is read
abbrev pub reading_text : SourceNames → Reading → List ℕ
reading_text names r =
    register_text names r.register ++ codes "=" ++ styled_text names r.value ++ read_version_text names.style.versions r.version

-- a change
abbrev pub change_text : SourceNames → Changed → List ℕ
change_text names c = register_text names c.register ++ codes " " ++ styled_text names c.before ++ codes " -> " ++ styled_text names c.after

-- a nonblocking assignment
abbrev pub assignment_text : SourceNames → Nba → List ℕ
assignment_text names n = register_text names n.reg ++ codes " <= " ++ styled_text names n.value ++ codes " for time " ++ decimal n.due

-- the parts of a kind, from a place on
abbrev pub list_text : {A : Type 0} → (A → List ℕ) → List ℕ → Bool → ℕ → List A → List ℕ
list_text part word behind place [] = []
list_text part word behind place (x ∷ xs) = lead place behind word ++ (part x ++ list_text part word behind (place + 1) xs)

-- the lines that are printed
abbrev pub printed_text : Bool → List ℕ → List ℕ
printed_text behind [] = []
printed_text behind (byte ∷ bytes) = delimiter behind ++ codes "prints " ++ quoted_text (byte ∷ bytes)

-- an update
abbrev pub update_text : SourceNames → ℕ → Vector → List ℕ
update_text names r v = codes "update of " ++ register_text names r ++ codes " to " ++ styled_text names v

-- a change of the regions
abbrev pub region_text : Entry → List ℕ
region_text entries.ActivateInactive = codes "activates the inactive events"
region_text entries.ActivateNba = codes "activates the nonblocking updates"
region_text entries.ActivateMonitor = codes "makes the lines of the monitor region"
region_text (entries.Advance time) = codes "advances"
region_text (entries.Turn number) = codes "turn"
region_text (entries.Update number) = codes "update"

-- the region of an entry, and who does it
abbrev pub actor_text : SourceNames → Entry → EntryActor → List ℕ
actor_text names entry (actors.Turn p) = codes "active  turn of " ++ process_text names p
actor_text names entry (actors.Update r v) = codes "active  " ++ update_text names r v
actor_text names entry actors.Regions = region_text entry

-- that the run is finished
abbrev pub finish_text : Bool → Bool → List ℕ
finish_text behind true = delimiter behind ++ codes "calls $finish"
finish_text behind false = []

-- what is read, changed, assigned and printed, and whether the run is finished
abbrev pub parts_text : SourceNames → Account → Bool → List ℕ
parts_text names a finishes =
    list_text (reading_text names) (codes "reads ") false 0 a.reads
    ++ list_text (change_text names) (codes "writes ") (has_any a.reads) 0 a.changes
    ++ list_text (assignment_text names) (codes "assigns ") (has_any a.reads || has_any a.changes) 0 a.assigned
    ++ printed_text (has_any a.reads || has_any a.changes || has_any a.assigned) a.lines
    ++ finish_text (has_any a.reads || has_any a.changes || has_any a.assigned || has_any a.lines) finishes

-- the line of an entry: its number, the time, who does it, what it reads, changes, assigns and prints, and whether it finishes the run
abbrev pub entry_account_text : SourceNames → ℕ → Entry → Account → Bool → List ℕ
entry_account_text names number entry a finishes =
    decimal number ++ codes "  time " ++ decimal a.time ++ codes "  " ++ actor_text names entry a.actor ++ parts_text names a finishes ++ codes "\n"
