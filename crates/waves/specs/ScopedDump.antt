-- The text of a value change dump of a whole design, with its scopes (IEEE 1364-2005, 18.2).
use Rattle.std.specs.Prelude.{ℕ, zero, suc, ◌+◌, ◌/◌, ◌%◌, ◌==◌, ◌&&◌, Bool, true, false, not, if◌then◌else◌, List, [], ◌∷◌, ◌++◌, Option, Some, None, get_or, codes}
use Rattle.std.specs.List.{filter, flat_map, list_any}
use Rattle.std.specs.Str.{bytes_eq}
use Rattle.logic4.specs.Vector.{unknown}
use Rattle.model.specs.Syntax.{Text}
use Rattle.waves.specs.declared.wave.ValueChange.{ValueChange}
use Rattle.waves.specs.declared.scoped.ShownScope.{ShownScope}
use Rattle.waves.specs.Dump.{changes_text, new_time, register_line, value_line}
use Rattle.waves.specs.FullNames.{is_shown_name, name_in_scope, scope_of_name}

-- a scope of a design: its full name, and whether it is that of a module's instance
pub record PlainScope : Type 0 where
  pub path : Text
  pub is_instance : Bool

abbrev pub plain_scope : ShownScope → PlainScope
plain_scope s = record { path = s.path.now; is_instance = s.is_instance }

-- one of some scopes has a full name
abbrev pub is_scope : List PlainScope → Text → Bool
is_scope scopes path = list_any (λ s. bytes_eq s.path path) scopes

-- What is in such a scope stands in the scope of a full name; and in none, where there is no such scope.
abbrev pub stands_in : List PlainScope → Option Text → Text → Bool
stands_in scopes (Some path) home = bytes_eq home path
stands_in scopes None home = not (is_scope scopes home)

abbrev pub stands_within : List PlainScope → Option Text → Text → Bool
stands_within scopes around name = stands_in scopes around (scope_of_name name)

-- the line of a register, where it stands in a scope and is shown
abbrev pub register_within : List PlainScope → Option Text → ℕ → Text → ℕ → List ℕ
register_within scopes around r name width = if is_shown_name name && stands_within scopes around name then register_line r (name_in_scope name) width else []

-- the lines of the registers in a scope, from one number on
abbrev pub registers_within : List PlainScope → Option Text → ℕ → List Text → List ℕ → List ℕ
registers_within scopes around r (name ∷ names) (width ∷ widths) = register_within scopes around r name width ++ registers_within scopes around (r + 1) names widths
registers_within scopes around r _ _ = []

abbrev pub scope_word : Bool → List ℕ
scope_word true = codes "module"
scope_word false = codes "begin"

-- the line at which a scope begins
abbrev pub scope_line : PlainScope → List ℕ
scope_line s = codes "$scope " ++ scope_word s.is_instance ++ codes " " ++ name_in_scope s.path ++ codes " $end\n"

-- the lines of a scope, with those of what stands in it
abbrev pub scope_lines : PlainScope → List ℕ → List ℕ
scope_lines s inner = scope_line s ++ inner ++ codes "$upscope $end\n"

-- the same, where it stands in another
abbrev pub scope_within : List PlainScope → Option Text → (Text → List ℕ) → PlainScope → List ℕ
scope_within scopes around inner s = if stands_within scopes around s.path then scope_lines s (inner s.path) else []

-- the lines of what stands in a scope, as deep as is asked for: its registers, and then its scopes, each with what stands in it
unfoldable pub contents_text : ℕ → List PlainScope → List Text → List ℕ → Option Text → List ℕ
contents_text zero scopes names widths around = registers_within scopes around 0 names widths
contents_text (suc room) scopes names widths around =
    registers_within scopes around 0 names widths
    ++ flat_map (scope_within scopes around (λ (path : Text). contents_text room scopes names widths (Some path))) scopes

-- the lines of the scopes in a scope, each with what stands in it
abbrev pub scopes_text : ℕ → List PlainScope → List Text → List ℕ → Option Text → List ℕ
scopes_text room scopes names widths around = flat_map (scope_within scopes around (λ (path : Text). contents_text room scopes names widths (Some path))) scopes

-- the line of a register's value before its first change, where it is shown
abbrev pub unknown_shown : ℕ → Text → ℕ → List ℕ
unknown_shown r name width = if is_shown_name name then value_line r (unknown width) else []

-- the values of the registers that are shown before their first change, from one number on
abbrev pub unknown_shown_text : ℕ → List Text → List ℕ → List ℕ
unknown_shown_text r (name ∷ names) (width ∷ widths) = unknown_shown r name width ++ unknown_shown_text (r + 1) names widths
unknown_shown_text r _ _ = []

-- a change is of a register that is shown
abbrev pub is_change_shown : List Text → ValueChange → Bool
is_change_shown names c = is_shown_name (get_or names c.register [])

-- the lines of a change, behind those of a time
abbrev pub change_lines : ℕ → ValueChange → List ℕ
change_lines standing c = new_time standing c.time ++ value_line c.register c.value

-- the lines of the changes of registers that are shown, and at last the end
abbrev pub shown_changes_text : List Text → List ValueChange → ℕ → List ℕ
shown_changes_text names changes end = changes_text 0 (filter (is_change_shown names) changes) end

-- a time as it is written: 1, 10 or 100 of a unit, by the power of ten femtoseconds (19.8)
abbrev pub number_of_tick : ℕ → List ℕ
number_of_tick power = if power % 3 == 0 then codes "1" else (if power % 3 == 1 then codes "10" else codes "100")

abbrev pub unit_of_tick : ℕ → List ℕ
unit_of_tick power =
    if power / 3 == 0 then codes "fs" else (if power / 3 == 1 then codes "ps" else (if power / 3 == 2 then codes "ns" else (if power / 3 == 3 then codes "us" else (if power / 3 == 4 then codes "ms" else codes "s"))))

-- the line of the unit of all times
abbrev pub tick_line : ℕ → List ℕ
tick_line power = codes "$timescale " ++ number_of_tick power ++ codes " " ++ unit_of_tick power ++ codes " $end\n"

-- what stands before the first change
abbrev pub scoped_header_text : ℕ → List PlainScope → List Text → List ℕ → List ℕ
scoped_header_text tick scopes names widths =
    tick_line tick ++ contents_text 1024 scopes names widths None
    ++ codes "$enddefinitions $end\n#0\n$dumpvars\n" ++ unknown_shown_text 0 names widths ++ codes "$end\n"

-- the whole text, by the unit of all times, the scopes, the names and widths of the registers, the changes, and the time of the end
abbrev pub scoped_text : ℕ → List PlainScope → List Text → List ℕ → List ValueChange → ℕ → List ℕ
scoped_text tick scopes names widths changes end = scoped_header_text tick scopes names widths ++ shown_changes_text names changes end
