-- What is told on standard error, and what the writer has of it.
use Rattle.std.specs.Prelude.{◌≡◌, ◌⊎◌, ◌==◌, ℕ, List, [], ◌∷◌, ◌++◌, Option, Bool, true, false, codes, decimal, chars, if◌then◌else◌}
use Rattle.std.specs.Char.{encode_utf8, is_control}
use Rattle.std.specs.Char.Escape.{escape_default}
use Rattle.std.specs.Io.KnownBytes.{Appends}
use Rattle.journal.specs.Counted.{failed_calls, held, one_more_failure}
use Rattle.journal.specs.Written.{AppendsBeginning}
use Rattle.journal.specs.declared.counted.Counted.{Counted}
use Rattle.telling.specs.declared.line.SubjectLine.{SubjectLine}
use Rattle.telling.specs.declared.line.Subject.{Subject}
use Rattle.telling.specs.declared.line.Subject.TheVariants.{Nothing, Number, Name, Path}
use Rattle.telling.specs.declared.telling.Showing.{Showing}
use Rattle.telling.specs.declared.telling.Showing.TheVariants.{Line, Lines}

-- a line of the program's own: its name, a text in three parts, and a newline
abbrev pub program_line : List ℕ → List ℕ → List ℕ → List ℕ
program_line head subject tail = codes "vsimtx: " ++ (head ++ (subject ++ (tail ++ 10 ∷ [])))

-- each character by its bytes, one behind another
abbrev pub spelled : (ℕ → List ℕ) → List ℕ → List ℕ
spelled f [] = []
spelled f (c ∷ cs) = f c ++ spelled f cs

-- a character as it is shown: a control character by its escape
abbrev pub shown_letter : ℕ → List ℕ
shown_letter c = if is_control c then spelled encode_utf8 (escape_default c) else encode_utf8 c

-- a path as it is shown
abbrev pub shown_path : List ℕ → List ℕ
shown_path path = spelled shown_letter (chars path)

-- a character of a text of several lines as it is shown: a newline as it is
abbrev pub shown_in_lines : ℕ → List ℕ
shown_in_lines c = if c == 10 then 10 ∷ [] else shown_letter c

-- a character of a text as it is shown, which is of one line or of several
abbrev pub shown_by : Showing → (ℕ → List ℕ)
shown_by Line = shown_letter
shown_by Lines = shown_in_lines

-- a text of several lines as it is shown
abbrev pub shown_lines : List ℕ → List ℕ
shown_lines text = spelled shown_in_lines (chars text)

-- a number in decimal, a name as it is, a path as it is shown, or nothing
abbrev pub subject_text : Subject → List ℕ
subject_text Nothing = []
subject_text (Number n) = decimal n
subject_text (Name name) = name.now
subject_text (Path path) = shown_path path.now

-- the bytes of a line
abbrev pub line_of : SubjectLine → List ℕ
line_of l = program_line l.head.now (subject_text l.subject) l.tail.now

-- those up to its subject
abbrev pub head_of : SubjectLine → List ℕ
head_of l = codes "vsimtx: " ++ l.head.now

-- those behind it
abbrev pub end_of : SubjectLine → List ℕ
end_of l = l.tail.now ++ 10 ∷ []

-- those from it on
abbrev pub rest_of : SubjectLine → List ℕ
rest_of l = subject_text l.subject ++ end_of l

-- no write failed, and known bytes grew by the text
abbrev pub IsWrittenWhole : {E : Type 0} → (E → Option (List ℕ)) → Counted E → Counted E → List ℕ → Type 0
IsWrittenWhole contents old new text = (failed_calls new ≡ failed_calls old) × Appends (contents (held old)) (contents (held new)) text

-- one write failed, or took no byte, and known bytes grew by a beginning of the text
abbrev pub IsBroken : {E : Type 0} → (E → Option (List ℕ)) → Counted E → Counted E → List ℕ → Type 0
IsBroken contents old new text = (failed_calls new ≡ one_more_failure (failed_calls old)) × AppendsBeginning (contents (held old)) (contents (held new)) text

-- the text was told once, up to the first write that failed
abbrev pub Tells : {E : Type 0} → (E → Option (List ℕ)) → Counted E → Counted E → List ℕ → Type 0
Tells contents old new text = IsWrittenWhole contents old new text ⊎ IsBroken contents old new text

-- so it was, and this tells whether no write failed
abbrev pub Sends : {E : Type 0} → Bool → (E → Option (List ℕ)) → Counted E → Counted E → List ℕ → Type 0
Sends true contents old new text = IsWrittenWhole contents old new text
Sends false contents old new text = IsBroken contents old new text
