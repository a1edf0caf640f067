-- The words of Verilog that the language lacks, and what is written instead.
use Rattle.std.specs.Prelude.{ℕ, List, [], ◌∷◌, Bool, true, false, not, ◌&&◌, ◌||◌, ◌==◌, nat_le, if◌then◌else◌, Option, Some, None, codes}
use Rattle.std.specs.Str.{bytes_eq}
use Rattle.tokens.specs.ByteClasses.{is_letter}
use Rattle.diagnosis.specs.Lexemes.{begins_number}
use Rattle.diagnosis.specs.declared.words.Advice.{Advice}
use Rattle.diagnosis.specs.declared.words.Advice.TheVariants as advice

-- Words, each with what is written instead.
abbrev pub Table : Type 0
Table = List (List ℕ × Advice)

-- The words that the language lacks.
unfoldable pub lacked_words : Table
lacked_words =
    (codes "case", advice.Choice) ∷ (codes "casex", advice.Choice) ∷ (codes "casez", advice.Choice) ∷ (codes "endcase", advice.Choice) ∷ (codes "default", advice.Choice) ∷
    (codes "for", advice.Loop) ∷ (codes "repeat", advice.Loop) ∷ (codes "forever", advice.Loop) ∷
    (codes "input", advice.OneModule) ∷ (codes "output", advice.OneModule) ∷ (codes "inout", advice.OneModule) ∷ (codes "parameter", advice.OneModule) ∷ (codes "localparam", advice.OneModule) ∷
    (codes "defparam", advice.OneModule) ∷ (codes "generate", advice.OneModule) ∷ (codes "endgenerate", advice.OneModule) ∷ (codes "genvar", advice.OneModule) ∷ (codes "macromodule", advice.OneModule) ∷
    (codes "primitive", advice.OneModule) ∷ (codes "endprimitive", advice.OneModule) ∷ (codes "specify", advice.OneModule) ∷ (codes "endspecify", advice.OneModule) ∷
    (codes "cell", advice.OneFile) ∷ (codes "config", advice.OneFile) ∷ (codes "design", advice.OneFile) ∷ (codes "endconfig", advice.OneFile) ∷ (codes "incdir", advice.OneFile) ∷
    (codes "include", advice.OneFile) ∷ (codes "instance", advice.OneFile) ∷ (codes "liblist", advice.OneFile) ∷ (codes "library", advice.OneFile) ∷ (codes "use", advice.OneFile) ∷
    (codes "table", advice.TruthTable) ∷ (codes "endtable", advice.TruthTable) ∷
    (codes "specparam", advice.PathDelay) ∷ (codes "ifnone", advice.PathDelay) ∷ (codes "edge", advice.PathDelay) ∷ (codes "showcancelled", advice.PathDelay) ∷ (codes "noshowcancelled", advice.PathDelay) ∷
    (codes "pulsestyle_onevent", advice.PathDelay) ∷ (codes "pulsestyle_ondetect", advice.PathDelay) ∷
    (codes "wire", advice.Net) ∷ (codes "wand", advice.Net) ∷ (codes "wor", advice.Net) ∷ (codes "tri", advice.Net) ∷ (codes "tri0", advice.Net) ∷
    (codes "tri1", advice.Net) ∷ (codes "triand", advice.Net) ∷ (codes "trior", advice.Net) ∷ (codes "trireg", advice.Net) ∷ (codes "uwire", advice.Net) ∷
    (codes "supply0", advice.Net) ∷ (codes "supply1", advice.Net) ∷ (codes "assign", advice.Net) ∷ (codes "deassign", advice.Net) ∷ (codes "force", advice.Net) ∷
    (codes "release", advice.Net) ∷ (codes "scalared", advice.Net) ∷ (codes "vectored", advice.Net) ∷
    (codes "and", advice.Gate) ∷ (codes "nand", advice.Gate) ∷ (codes "nor", advice.Gate) ∷ (codes "xor", advice.Gate) ∷ (codes "xnor", advice.Gate) ∷
    (codes "not", advice.Gate) ∷ (codes "buf", advice.Gate) ∷
    (codes "bufif0", advice.ThreeState) ∷ (codes "bufif1", advice.ThreeState) ∷ (codes "notif0", advice.ThreeState) ∷ (codes "notif1", advice.ThreeState) ∷
    (codes "cmos", advice.Switch) ∷ (codes "nmos", advice.Switch) ∷ (codes "pmos", advice.Switch) ∷ (codes "rcmos", advice.Switch) ∷ (codes "rnmos", advice.Switch) ∷
    (codes "rpmos", advice.Switch) ∷ (codes "tran", advice.Switch) ∷ (codes "tranif0", advice.Switch) ∷ (codes "tranif1", advice.Switch) ∷ (codes "rtran", advice.Switch) ∷
    (codes "rtranif0", advice.Switch) ∷ (codes "rtranif1", advice.Switch) ∷ (codes "pulldown", advice.Switch) ∷ (codes "pullup", advice.Switch) ∷
    (codes "highz0", advice.Strength) ∷ (codes "highz1", advice.Strength) ∷ (codes "strong0", advice.Strength) ∷ (codes "strong1", advice.Strength) ∷ (codes "pull0", advice.Strength) ∷
    (codes "pull1", advice.Strength) ∷ (codes "weak0", advice.Strength) ∷ (codes "weak1", advice.Strength) ∷ (codes "large", advice.Strength) ∷ (codes "medium", advice.Strength) ∷
    (codes "small", advice.Strength) ∷
    (codes "integer", advice.Register) ∷ (codes "real", advice.Register) ∷ (codes "realtime", advice.Register) ∷ (codes "time", advice.Register) ∷
    (codes "task", advice.Subroutine) ∷ (codes "endtask", advice.Subroutine) ∷ (codes "function", advice.Subroutine) ∷ (codes "endfunction", advice.Subroutine) ∷ (codes "automatic", advice.Subroutine) ∷
    (codes "event", advice.NamedEvent) ∷
    (codes "fork", advice.Parallel) ∷ (codes "join", advice.Parallel) ∷ (codes "wait", advice.Wait) ∷ (codes "disable", advice.Parallel) ∷
    (codes "signed", advice.Unsigned) ∷ (codes "unsigned", advice.Unsigned) ∷
    (codes "$monitor", advice.Monitor) ∷ (codes "$monitorb", advice.Monitor) ∷ (codes "$monitoro", advice.Monitor) ∷ (codes "$monitorh", advice.Monitor) ∷ []

-- What a table has for a word.
abbrev pub advice_in : Table → List ℕ → Option Advice
advice_in [] w = None
advice_in (row ∷ rows) w = if bytes_eq w row.0 then Some row.1 else advice_in rows w

-- The first byte of a text, 0 where it has none.
abbrev pub first_byte : List ℕ → ℕ
first_byte [] = 0
first_byte (b ∷ bs) = b

-- A system name that the language lacks: a `$`, and what is none of its three names.
abbrev pub is_system_word : List ℕ → Bool
is_system_word w = first_byte w == 36 && not (bytes_eq w (codes "$display") || bytes_eq w (codes "$strobe") || bytes_eq w (codes "$finish"))

-- What is written instead of a directive, which a backquote begins, or of a system name; none for every other text.
abbrev pub advice_by_mark : List ℕ → Option Advice
advice_by_mark w = if first_byte w == 96 then Some advice.Directive else (if is_system_word w then Some advice.SystemName else None)

-- The first of two advices, where there is one, else the second.
abbrev pub first_advice : Option Advice → Option Advice → Option Advice
first_advice (Some one) other = Some one
first_advice None other = other

-- What is written instead of a word of the table, of another system name that the language lacks, or of a directive; none for every other text.
unfoldable pub advice_of : List ℕ → Option Advice
advice_of w = first_advice (advice_in lacked_words w) (advice_by_mark w)

-- A large letter, or _.
abbrev pub is_large : ℕ → Bool
is_large b = (nat_le 65 b && nat_le b 90) || b == 95

-- A large letter or _ stands behind a base's `'`, which may stand before.
abbrev pub has_large : Bool → List ℕ → Bool
has_large based [] = false
has_large based (b ∷ bs) = if based && is_large b then true else has_large (based || b == 39) bs

-- What may have a note with an advice by what stands around it, and is no word of the table: any lexeme where a block lacks, a
-- number, a string, a sign, a word or a `:` in square brackets, the words `module` and `or`, the name of an instance, of a call, of
-- an event or of a delay, and no string where a format lacks.
abbrev pub suits : Advice → List ℕ → Bool
suits advice.Block text = true
suits advice.Size text = begins_number (first_byte text)
suits advice.Digits text = begins_number (first_byte text) && has_large false text
suits advice.Conversion text = first_byte text == 34
suits advice.Format text = not (first_byte text == 34)
suits advice.Triggers text = first_byte text == 42
suits advice.Operator text = first_byte text == 42 || first_byte text == 47 || first_byte text == 37
suits advice.Index text = is_letter (first_byte text) || first_byte text == 58
suits advice.BlockName text = first_byte text == 58
suits advice.Value text = first_byte text == 61
suits advice.Memory text = first_byte text == 91
suits advice.Attribute text = first_byte text == 40
suits advice.BareEvent text = is_letter (first_byte text)
suits advice.NamedDelay text = is_letter (first_byte text)
suits advice.NamedEvent text = first_byte text == 45
suits advice.Sign text = first_byte text == 45 || first_byte text == 43
suits advice.Inverted text = first_byte text == 126 || first_byte text == 94
suits advice.Shift text = first_byte text == 62 || first_byte text == 60
suits advice.Replication text = begins_number (first_byte text) || is_letter (first_byte text)
suits advice.LeftSide text = first_byte text == 123 || first_byte text == 93
suits advice.Gate text = bytes_eq text (codes "or")
suits advice.Subroutine text = is_letter (first_byte text)
suits advice.OneModule text = is_letter (first_byte text) || (first_byte text == 46 || (first_byte text == 40 || bytes_eq text (codes "module")))
suits _ text = false
