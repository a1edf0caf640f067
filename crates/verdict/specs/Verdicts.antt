-- What is said of the texts that were found.
use Rattle.std.specs.Prelude.{ℕ, ◌+◌, ◌/◌, ◌%◌, ◌==◌, Bool, true, false, nat_lt, if◌then◌else◌, List, [], ◌∷◌, ◌++◌, Option, Some, None, codes, count_by, decimal}
use Rattle.model.specs.Journal.{newline}
use Rattle.verdict.specs.RaceLines.{saved_journal_text}
use Rattle.verdict.specs.StopLines.{has_stops, stops_text}
use Rattle.verdict.specs.EndingLines.{endings_text}
use Rattle.verdict.specs.declared.endings.RunEndings.{RunEndings}
use Rattle.verdict.specs.declared.stops.StopDescription.{StopDescription}
use Rattle.verdict.specs.declared.claim.SampledOrders.{SampledOrders}
use Rattle.verdict.specs.declared.claim.Claim.{Claim}
use Rattle.verdict.specs.declared.claim.Claim.TheVariants.{Every, SoFar, Sampled}
use Rattle.verdict.specs.declared.claim.SearchStop.{SearchStop}
use Rattle.verdict.specs.declared.claim.SearchStop.TheVariants.{States, Texts, Entries, Megabytes, Memory}

-- a comma, and the three digits of a number below a thousand
abbrev pub group : ℕ → List ℕ
group n = codes "," ++ (48 + n / 100) ∷ (48 + n / 10 % 10) ∷ (48 + n % 10) ∷ []

-- a number, with a comma before its last three digits where it has more
abbrev pub thousands : ℕ → List ℕ
thousands n = if nat_lt n 1000 then decimal n else (decimal (n / 1000) ++ group (n % 1000))

-- a number, with a comma before each three of its last six digits where it has more
abbrev pub grouped : ℕ → List ℕ
grouped n = if nat_lt n 1000 then decimal n else (thousands (n / 1000) ++ group (n % 1000))

-- how many texts there are, and that they are told apart by their ends too
abbrev pub several_text : ℕ → Bool → List ℕ
several_text count true = decimal count ++ codes " texts and ends"
several_text count false = decimal count ++ codes " texts"

-- so, with words for none and one
abbrev pub text_count_text : ℕ → Bool → List ℕ
text_count_text count ends = if count == 0 then codes "no text" else if count == 1 then codes "one text" else several_text count ends

-- up to this time
abbrev pub up_to_time : ℕ → List ℕ
up_to_time time = codes " up to time " ++ decimal time

-- up to which time, if there is one
abbrev pub up_to : Option ℕ → List ℕ
up_to (Some time) = up_to_time time
up_to None = []

-- how many lines a text has
abbrev pub lines_in : List ℕ → ℕ
lines_in text = count_by (λ byte. byte == newline) text

-- a number between two pieces
abbrev pub number_between : List ℕ → ℕ → List ℕ → List ℕ
number_between before number behind = before ++ grouped number ++ behind

-- that so many lines follow, with words for none and one
abbrev pub these_lines : ℕ → List ℕ
these_lines count =
    if count == 0 then codes "no line\n" else if count == 1 then codes "this line\n" else number_between (codes "these ") count (codes " lines\n")

-- so many of a thing, with one word for one and another for more
abbrev pub many_text : ℕ → List ℕ → List ℕ → List ℕ
many_text n one many = grouped n ++ (if n == 1 then one else many)

-- how many states were reached, where nothing was left out
abbrev pub states_text : ℕ → List ℕ
states_text states = codes "(" ++ many_text states (codes " state, no choice left open)\n") (codes " states, no choice left open)\n")

-- that a limit was met, with so many of a thing
abbrev pub limit_text : ℕ → List ℕ → List ℕ → List ℕ
limit_text most one many = codes "a limit was met (" ++ many_text most one many

-- why a search stopped: the limit that was met, or want of memory
abbrev pub stop_phrase : SearchStop → List ℕ
stop_phrase (States most) = limit_text most (codes " state)") (codes " states)")
stop_phrase (Texts most) = limit_text most (codes " text)") (codes " texts)")
stop_phrase (Entries most) = limit_text most (codes " entry)") (codes " entries)")
stop_phrase (Megabytes most) = limit_text most (codes " MB)") (codes " MB)")
stop_phrase Memory = codes "memory was refused"

-- so it stands at the end of a line
abbrev pub stop_text : SearchStop → List ℕ
stop_text stop = stop_phrase stop ++ codes "\n"

-- that an option may take a greater number, or, where there are several texts or waves, a race be mended first
abbrev pub raise_head : ℕ → List ℕ
raise_head count = if nat_lt 1 count then codes "; mend a race and look again, or raise " else codes "; raise "

-- so it is of this option
abbrev pub raise_text : ℕ → List ℕ → List ℕ
raise_text count option = raise_head count ++ option

-- what may be done where a search stopped: of a limit that was met the option may take a greater number
abbrev pub next_step_text : ℕ → SearchStop → List ℕ
next_step_text count (States most) = raise_text count (codes "--max-states\n")
next_step_text count (Texts most) = raise_text count (codes "--max-texts\n")
next_step_text count (Entries most) = raise_text count (codes "--max-entries\n")
next_step_text count (Megabytes most) = raise_text count (codes "--max-memory\n")
next_step_text count Memory = codes "\n"

-- that there may be others: several texts are all that is known, and so is one or none so far
abbrev pub open_text : ℕ → List ℕ
open_text count = if nat_lt 1 count then codes " or more: " else codes " so far: "

-- so it is, why, and what may be done
abbrev pub so_far_text : SearchStop → ℕ → List ℕ
so_far_text stop count = open_text count ++ stop_phrase stop ++ next_step_text count stop

-- so many random orders, with a word for one
abbrev pub random_orders_text : ℕ → List ℕ
random_orders_text count = decimal count ++ (if count == 1 then codes " random lawful order" else codes " random lawful orders")

-- that so many random orders were tried of so many that were asked for, and why no more were
abbrev pub fewer_text : ℕ → ℕ → SearchStop → List ℕ
fewer_text made asked stop = codes " in " ++ decimal made ++ codes " of " ++ random_orders_text asked ++ codes " and those tried to name races: " ++ stop_text stop

-- that all random orders were tried that were asked for
abbrev pub asked_text : ℕ → List ℕ
asked_text made = codes " in " ++ random_orders_text made ++ codes " and those tried to name races: others may be possible\n"

-- that random orders were tried, and why no more were, where fewer were than asked for
abbrev pub sampled_by : ℕ → ℕ → Option SearchStop → List ℕ
sampled_by made asked (Some stop) = fewer_text made asked stop
sampled_by made asked None = asked_text made

-- so it is of these
abbrev pub sampled_text : SampledOrders → List ℕ
sampled_text orders = sampled_by orders.made orders.asked orders.stop

-- that no lawful run comes to an end, with the journal of one, where one is known
abbrev pub none_every : Option ℕ → Option ℕ → Option (List ℕ) → List ℕ
none_every until endless prefix = codes ": no lawful run" ++ up_to until ++ codes " comes to an end" ++ saved_journal_text prefix endless ++ codes "\n"

-- that some lawful runs don't come to an end, with the journal of one
abbrev pub some_endless : Option ℕ → Option (List ℕ) → List ℕ
some_endless endless prefix = codes "some lawful runs don't come to an end" ++ saved_journal_text prefix endless ++ codes "\n"

-- so it is where one is known
abbrev pub endless_text : Option ℕ → Option (List ℕ) → List ℕ
endless_text (Some number) prefix = some_endless (Some number) prefix
endless_text None prefix = []

-- that all lawful runs are spoken of, or that none comes to an end, where some stop short
abbrev pub every_or_none : Bool → List ℕ
every_or_none false = codes ": every lawful run"
every_or_none true = codes ": no lawful run"

-- that a run with an end prints what follows, or that those which stop short do
abbrev pub run_prints : Bool → List ℕ
run_prints false = codes " that comes to an end prints "
run_prints true = codes " comes to an end, and every one that stops short prints "

-- that every lawful run with an end prints this text, or that none has an end, and each that stops short prints it
abbrev pub one_every : ℕ → Option ℕ → RunEndings → List ℕ → List StopDescription → Option ℕ → Option (List ℕ) → List ℕ
one_every states until endings only stops endless prefix =
    every_or_none (has_stops stops) ++ up_to until ++ run_prints (has_stops stops) ++ these_lines (lines_in only) ++ states_text states
    ++ endings_text endings (has_stops stops) until ++ stops_text (codes "text ") prefix stops ++ endless_text endless prefix ++ only

-- that a run with an end does so, or one that stops short, where some do
abbrev pub run_that_ends : Bool → List ℕ
run_that_ends false = codes " that comes to an end"
run_that_ends true = codes " that comes to an end or stops short"

-- that it prints one of the texts, or has one of the texts with its end
abbrev pub one_of_them : Bool → List ℕ
one_of_them true = codes " has one of them\n"
one_of_them false = codes " prints one of them\n"

-- that every lawful run with an end does so, of texts or of waves, as this word says
abbrev pub many_every : Option ℕ → Bool → RunEndings → List ℕ → List StopDescription → Option ℕ → Option (List ℕ) → List ℕ
many_every until ends endings word stops endless prefix =
    codes ": every lawful run" ++ up_to until ++ run_that_ends (has_stops stops) ++ one_of_them ends ++ endings_text endings (has_stops stops) until
    ++ stops_text word prefix stops ++ endless_text endless prefix

-- what is said of every lawful run
abbrev pub every_text : ℕ → Option ℕ → Option ℕ → ℕ → Bool → RunEndings → List ℕ → List StopDescription → Option (List ℕ) → List ℕ
every_text states endless until count ends endings first stops prefix =
    if count == 0 then none_every until endless prefix else if count == 1 then one_every states until endings first stops endless prefix
    else many_every until ends endings (codes "text ") stops endless prefix

-- what the texts are among those of all lawful runs, and whose runs stop short
abbrev pub claim_text : Claim → Option ℕ → ℕ → Bool → RunEndings → List ℕ → List StopDescription → Option (List ℕ) → List ℕ
claim_text (Every states endless) until count ends endings first stops prefix = every_text states endless until count ends endings first stops prefix
claim_text (SoFar stop) until count ends endings first stops prefix = so_far_text stop count ++ stops_text (codes "text ") prefix stops
claim_text (Sampled orders) until count ends endings first stops prefix = sampled_text orders ++ stops_text (codes "text ") prefix stops

-- what is said of the texts: how many there are, what they are among those of all lawful runs, and whose runs stop short
abbrev pub verdict_text : Claim → Option ℕ → ℕ → Bool → RunEndings → List ℕ → List StopDescription → Option (List ℕ) → List ℕ
verdict_text claim until count ends endings first stops prefix = text_count_text count ends ++ claim_text claim until count ends endings first stops prefix
