-- Classes of registers, by the processes that assign them.
use Rattle.std.specs.Prelude.{◌≡◌, ℕ, ◌==◌, if◌then◌else◌, List, Option, Some, None, slice_index}
use Rattle.std.specs.List.{Contains, filter_map}
use Rattle.model.specs.Design.{Design, Statement, AssignLater, Statements, all_of, process_at}

-- the target of a statement, if it is a nonblocking assignment (9.2.2)
abbrev pub target_of : Statement → Option ℕ
target_of (AssignLater r delay value) = Some r
target_of s = None

-- the targets of the nonblocking assignments among statements and the statements inside them, in the order of the text
abbrev pub targets_of : Statements → List ℕ
targets_of ss = filter_map target_of (all_of ss)

-- the process with a number assigns a register by a nonblocking assignment
abbrev pub ProcessAssignsLater : Design → ℕ → ℕ → Type 0
ProcessAssignsLater design p r = Contains (targets_of (process_at design p).body) r

-- these registers are of one class
abbrev pub AreTogether : List ℕ → List ℕ → Type 0
AreTogether classes registers =
    (one other : ℕ) → Contains registers one → Contains registers other → slice_index classes one ≡ slice_index classes other

-- registers of one class are still of one class
abbrev pub AreStillTogether : List ℕ → List ℕ → Type 0
AreStillTogether old new = (one other : ℕ) → slice_index old one ≡ slice_index old other → slice_index new one ≡ slice_index new other

-- two registers that one process assigns by nonblocking assignments are of one class
abbrev pub AreTogetherIn : Design → List ℕ → Type 0
AreTogetherIn design classes =
    (p one other : ℕ) → ProcessAssignsLater design p one → ProcessAssignsLater design p other → slice_index classes one ≡ slice_index classes other

-- a class, where one class is given another name
abbrev pub renamed_class : ℕ → ℕ → ℕ → ℕ
renamed_class from to class = if class == from then to else class
