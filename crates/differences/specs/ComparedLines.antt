-- The lines on two journals.
use Rattle.std.specs.Prelude.{◌≡◌, ℕ, ◌==◌, Bool, true, false, nat_lt, if◌then◌else◌, List, [], ◌∷◌, ◌++◌, length, Option, Some, None, codes, decimal}
use Rattle.model.specs.declared.entry.Entry.{Entry}
use Rattle.model.specs.Runs.{has_any}
use Rattle.literals.specs.declared.literal.Radix.{Radix}
use Rattle.literals.specs.Literals.{value_text}
use Rattle.explain.specs.declared.phrases.SourceNames.{SourceNames}
use Rattle.explain.specs.EntryText.{IsEntryLine}
use Rattle.explain.specs.Phrases.{register_text}
use Rattle.verdict.specs.RaceLines.{differing_line_text}
use Rattle.verdict.specs.VerdictLines.{HaveSameLines, IsFirstDifference}
use Rattle.differences.specs.declared.ends.EndsCompared.{EndsCompared}
use Rattle.differences.specs.declared.ends.EndsCompared.TheVariants.{Alike, AtOtherTimes, Different}
use Rattle.differences.specs.declared.value_difference.GivenValue.{GivenValue}
use Rattle.differences.specs.declared.value_difference.ValueDifference.{ValueDifference}
use Rattle.differences.specs.declared.value_difference.ValueGiver.{ValueGiver}

-- what comes behind the entries that two journals have in common, by whether each has more
abbrev pub title_end : Bool → Bool → List ℕ
title_end true true = codes "; then the journals part (these entries needn't be the race)\n"
title_end false true = codes "; then the first journal ends\n"
title_end true false = codes "; then the second journal ends\n"
title_end false false = codes "; the journals are the same\n"

-- how many entries two journals have in common, and what comes then
abbrev pub parting_title_text : ℕ → Bool → Bool → List ℕ
parting_title_text count first second = codes "common entries: " ++ decimal count ++ title_end first second

-- The line of the entry of a journal behind those in common, in words, where there is one.
abbrev pub IsSideText : SourceNames → List Entry → ℕ → List ℕ → Bool → List ℕ → Type 0
IsSideText names journal count label true text = (line : List ℕ) × IsEntryLine names journal count line × (text ≡ label ++ line)
IsSideText names journal count label false text = text ≡ []

-- such a line was put behind a text
pub record PutsSide (names : SourceNames) (journal : List Entry) (count : ℕ) (label : List ℕ) (old new : List ℕ) : Type 0 where
  pub text : List ℕ
  pub is_text : IsSideText names journal count label (nat_lt count (length journal)) text
  pub put : new ≡ old ++ text

-- Where two journals part, and the entry of each there.
pub record IsPartingText (names : SourceNames) (first second : List Entry) (count : ℕ) (text : List ℕ) : Type 0 where
  pub one : List ℕ
  pub is_one : IsSideText names first count (codes "  first: ") (nat_lt count (length first)) one
  pub other : List ℕ
  pub is_other : IsSideText names second count (codes "  second: ") (nat_lt count (length second)) other
  pub text_is : text ≡ parting_title_text count (nat_lt count (length first)) (nat_lt count (length second)) ++ one ++ other

-- that was put behind a text
pub record PutsParting (names : SourceNames) (first second : List Entry) (count : ℕ) (old new : List ℕ) : Type 0 where
  pub text : List ℕ
  pub is_text : IsPartingText names first second count text
  pub put : new ≡ old ++ text

-- the first line in which two texts differ, as each has it
abbrev pub different_text : ℕ → List ℕ → List ℕ → List ℕ
different_text number first second =
    codes "they print different lines\n  first" ++ differing_line_text (Some number) first ++ codes "  second" ++ differing_line_text (Some number) second

-- What is said of the lines of two runs: that they are the same, or the first that differs, as each has it.
abbrev pub IsLinesText : List ℕ → List ℕ → Bool → List ℕ → Type 0
IsLinesText one other true text = HaveSameLines one other × (text ≡ codes "they print the same lines\n")
IsLinesText one other false text =
    (number : ℕ) × (first : List ℕ) × (second : List ℕ) × IsFirstDifference one other number first second × (text ≡ different_text number first second)

-- that was put behind a text
pub record PutsLinesText (one other old new : List ℕ) (same : Bool) : Type 0 where
  pub text : List ℕ
  pub is_text : IsLinesText one other same text
  pub put : new ≡ old ++ text

-- the ends of two runs, of which each is told in words
abbrev pub both_ends : List ℕ → List ℕ → List ℕ
both_ends one other = codes "  first: " ++ one ++ codes "  second: " ++ other

-- what stands before the time at which two runs end alike, by whether `$finish` ends them
abbrev pub both_end_head : Bool → List ℕ
both_end_head true = codes "both end by $finish at time "
both_end_head false = codes "both end at time "

-- and behind it, by that and by whether no event is left
abbrev pub both_end_tail : Bool → Bool → List ℕ
both_end_tail true quiet = codes "\n"
both_end_tail false true = codes ", with no event left\n"
both_end_tail false false = codes ", with events left\n"

-- that two runs end alike at a time: by `$finish`, with no event left, or with events left
abbrev pub both_end_text : Bool → Bool → ℕ → List ℕ
both_end_text finished quiet time = both_end_head finished ++ decimal time ++ both_end_tail finished quiet

-- What is said of the ends of two runs, by how they compare, by how the first one ends, and by both ends in words.
abbrev pub ends_text : EndsCompared → Bool → Bool → ℕ → List ℕ → List ℕ → List ℕ
ends_text Alike finished quiet time one other = both_end_text finished quiet time
ends_text AtOtherTimes finished quiet time one other = codes "they end alike, at other times\n" ++ both_ends one other
ends_text Different finished quiet time one other = codes "they end differently\n" ++ both_ends one other

-- who changed a register by an entry: a process by its turn, or an update
abbrev pub done_by_text : Option ℕ → List ℕ
done_by_text (Some p) = codes ", process " ++ decimal p
done_by_text None = codes ", update"

-- which entry gave a register its value, if one did
abbrev pub giver_text : Option ValueGiver → List ℕ
giver_text (Some g) = codes " (entry " ++ decimal g.entry ++ done_by_text g.process ++ codes ")"
giver_text None = []

-- a value in these digits, and which entry gave it
abbrev pub given_text : Radix → GivenValue → List ℕ
given_text radix v = value_text radix v.value ++ giver_text v.by

-- a register whose values differ
abbrev pub row_text : SourceNames → ValueDifference → List ℕ
row_text names d =
    codes "time " ++ decimal d.time ++ codes "  " ++ register_text names d.register ++ codes "  " ++ given_text names.style.radix d.first ++ codes "  "
    ++ given_text names.style.radix d.second ++ codes "\n"

-- so all of them
abbrev pub row_lines : SourceNames → List ValueDifference → List ℕ
row_lines names [] = []
row_lines names (d ∷ ds) = row_text names d ++ row_lines names ds

-- what is said before them, by whether there are any, and whether each is told at each time
abbrev pub values_title : Bool → Bool → List ℕ
values_title false all = codes "the registers have the same values whenever time passes\n"
values_title true true = codes "registers differ when time passes\n"
values_title true false = codes "registers differ when time passes: each at its first time (--all shows each time)\n"

-- what is said of the registers
abbrev pub values_text : SourceNames → Bool → List ValueDifference → List ℕ
values_text names all ds = values_title (has_any ds) all ++ row_lines names ds

-- which of two runs ends earlier, and when
abbrev pub stop_head : ℕ → ℕ → List ℕ
stop_head one other =
    if nat_lt one other then codes "the first run ends at time " ++ decimal one else codes "the second run ends at time " ++ decimal other

-- where one run ends earlier than the other, and so no later time is compared
abbrev pub earlier_end_text : ℕ → ℕ → List ℕ
earlier_end_text one other = if one == other then [] else stop_head one other ++ codes ", and later times aren't compared\n"
