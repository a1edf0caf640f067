-- What an observer sees of a journal: besides the lines, bytes of each state from which time passes, and of the last one.
use Rattle.std.specs.Prelude.{◌≡◌, ◌≢◌, ℕ, ◌<◌, ◌⊎◌, List, [], ◌∷◌, ◌++◌, length, Option, Some, option_map, option_and_then}
use Rattle.std.specs.Option.{IsSomeAnd}
use Rattle.model.specs.declared.entry.Entry.{Entry}
use Rattle.model.specs.declared.entry.Entry.TheVariants.{Turn, Update, ActivateInactive, ActivateNba, ActivateMonitor, Advance}
use Rattle.model.specs.declared.end.Limits.{Limits}
use Rattle.model.specs.declared.end.Why.TheVariants.{Finish, Entries, Memory}
use Rattle.model.specs.declared.end.End.{End}
use Rattle.model.specs.declared.end.End.TheVariants.{Quiet, Stopped}
use Rattle.model.specs.Design.{Design}
use Rattle.model.specs.States.{State, start}
use Rattle.model.specs.Runs.{Effect, silent, joined, step, after, AreTimely, EndsIn, Ends}

-- an observer: the bytes that are seen of a state
abbrev pub Observer : Type 0
Observer = State → List ℕ

-- it sees nothing of any state
abbrev pub SeesNothing : Observer → Type 0
SeesNothing observe = (s : State) → observe s ≡ []

-- what is seen where an entry is taken: what the observer sees of the state from which time passes, and nothing at any other entry
abbrev pub seen_at : Observer → State → Entry → List ℕ
seen_at observe s (Turn number) = []
seen_at observe s (Update number) = []
seen_at observe s ActivateInactive = []
seen_at observe s ActivateNba = []
seen_at observe s ActivateMonitor = []
seen_at observe s (Advance time) = observe s

-- an effect with what was seen before its lines
abbrev pub effect_with_seen : List ℕ → Effect → Effect
effect_with_seen seen e = record e { lines = seen ++ e.lines }

-- one observed step: what comes of an entry that is permitted, and before its lines what is seen where it is taken
abbrev pub observed_step : Design → Observer → State → Entry → Option Effect
observed_step design observe s entry = option_map (effect_with_seen (seen_at observe s entry)) (step design s entry)

-- what comes of the entries of a journal and is seen at them, after what came before them
abbrev pub observed_run_from : Design → Observer → Effect → List Entry → Option Effect
observed_run_from design observe e [] = Some e
observed_run_from design observe e (entry ∷ entries) =
    option_and_then (λ f. observed_run_from design observe (joined e f) entries) (observed_step design observe e.state entry)

-- what comes of a journal and is seen at its entries, from the start
abbrev pub observed_run : Design → Observer → List Entry → Option Effect
observed_run design observe journal = observed_run_from design observe (silent (start design)) journal

-- The observed text of a lawful journal: its lines in order, and before each advance what the observer sees of the state.
abbrev pub observed_text : Design → Observer → List Entry → Option (List ℕ)
observed_text design observe journal = option_map (λ e. e.lines) (observed_run design observe journal)

-- an observed end: how a run ends, and what is seen of its last state
pub record SeenEnd : Type 0 where
  pub end : End
  pub seen : List ℕ

-- the journal is lawful, a run with these limits may end so after it, and this is what the observer sees of the state there
abbrev pub EndsObserved : Design → Limits → Observer → List Entry → SeenEnd → Type 0
EndsObserved design limits observe journal end =
    IsSomeAnd (after design journal) (λ s. EndsIn design limits (length journal) s end.end × (end.seen ≡ observe s))

-- A text and an end are the observed ones of this journal: it is lawful and in time, the text is its lines and what is seen before each
-- advance, what is seen of its last state is told, and its run ends so within the limits where it has fewer entries than the most, or where
-- the run is quiet or finished.
pub record IsObservedText (design : Design) (limits : Limits) (observe : Observer) (journal : List Entry) (text : List ℕ) (end : SeenEnd) : Type 0 where
  pub effect : Effect
  pub lawful : observed_run design observe journal ≡ Some effect
  pub timely : AreTimely limits journal
  pub prints : text ≡ effect.lines
  pub sees : end.seen ≡ observe effect.state
  pub goes_on : (end.end ≢ Stopped Entries) × (end.end ≢ Stopped Memory)
  pub ends : length journal < limits.max_entries → Ends design limits journal end.end
  pub halts : (end.end ≡ Quiet) ⊎ (end.end ≡ Stopped Finish) → Ends design limits journal end.end

-- Of each lawful journal in time and each end of its run, but by the most entries or for want of memory, the observed text and the
-- observed end are there.
abbrev pub AreAllObservedTexts : Design → Limits → Observer → (List ℕ → SeenEnd → Type 0) → Type 0
AreAllObservedTexts design limits observe IsThere =
    (journal : List Entry) (text : List ℕ) (end : SeenEnd) → observed_text design observe journal ≡ Some text → AreTimely limits journal
    → EndsObserved design limits observe journal end → end.end ≢ Stopped Entries → end.end ≢ Stopped Memory → IsThere text end
