-- The line on how the runs of texts or waves end.
use Rattle.std.specs.Prelude.{ℕ, ◌||◌, Bool, true, false, if◌then◌else◌, List, [], ◌++◌, Option, Some, None, codes, decimal}
use Rattle.verdict.specs.declared.endings.RunEndings.{RunEndings}

-- at this time
abbrev pub cut_time_text : ℕ → List ℕ
cut_time_text time = codes " at time " ++ decimal time

-- at which time, if there is a limit
abbrev pub cut_at_text : Option ℕ → List ℕ
cut_at_text (Some time) = cut_time_text time
cut_at_text None = []

-- that runs are cut, where others aren't, or where each is
abbrev pub cut_head : Bool → List ℕ
cut_head true = codes "(some of these runs are cut"
cut_head false = codes "(each of these runs is cut"

-- so it is, at the limit of time
abbrev pub cut_runs_text : Bool → Option ℕ → List ℕ
cut_runs_text others until = cut_head others ++ cut_at_text until ++ codes ")\n"

-- how runs end of which none is cut, where each ends so: some do by `$finish`, and some with no event left
abbrev pub ended_runs_text : Bool → Bool → List ℕ
ended_runs_text true true = []
ended_runs_text true false = codes "(each of these runs ends by $finish)\n"
ended_runs_text false true = codes "(each of these runs ends with no event left)\n"
ended_runs_text false false = []

-- that some runs are cut, or how each of them ends, where some stop short or none does
abbrev pub endings_text : RunEndings → Bool → Option ℕ → List ℕ
endings_text e short until =
    if e.cut then cut_runs_text (e.finish || (e.quiet || short)) until else if short then [] else ended_runs_text e.finish e.quiet
