-- How the ends of two runs compare.
use Rattle.std.specs.Prelude.{◌≡◌, ◌≢◌, ℕ, Bool, true, false}
use Rattle.model.specs.States.{State}
use Rattle.model.specs.Runs.{is_quiet}
use Rattle.differences.specs.declared.ends.EndsCompared.{EndsCompared}
use Rattle.differences.specs.declared.ends.EndsCompared.TheVariants.{Alike, AtOtherTimes, Different}

-- The ends of two runs are of one kind, of each whether it met `$finish`, and whether no event is left: both met it or neither; and where
-- they didn't, an event is left in both or in neither.
abbrev pub AreOfOneKind : Bool → Bool → Bool → Bool → Type 0
AreOfOneKind finished quiet finished' quiet' = (finished ≡ finished') × (finished ≡ false → quiet ≡ quiet')

-- How the ends of two runs compare, of each the time too: they are of one kind and at one time, of one kind at two times, or of two kinds.
abbrev pub HowEndsCompare : ℕ → Bool → Bool → ℕ → Bool → Bool → EndsCompared → Type 0
HowEndsCompare time finished quiet time' finished' quiet' Alike = (time ≡ time') × AreOfOneKind finished quiet finished' quiet'
HowEndsCompare time finished quiet time' finished' quiet' AtOtherTimes = (time ≢ time') × AreOfOneKind finished quiet finished' quiet'
HowEndsCompare time finished quiet time' finished' quiet' Different = AreOfOneKind finished quiet finished' quiet' → ⊥

-- so two runs that end in these states
abbrev pub HowRunsEnd : State → State → EndsCompared → Type 0
HowRunsEnd one other = HowEndsCompare one.time one.finished (is_quiet one) other.time other.finished (is_quiet other)

-- whether the ends are of one kind, and at one time
abbrev pub are_alike : EndsCompared → Bool
are_alike Alike = true
are_alike AtOtherTimes = false
are_alike Different = false
