-- Where a run halts, it ends in one way, and where it goes on, only by a turn that is too long.
use Rattle.std.proofs.Common.{◌≡◌, ℕ, ◌<◌, ◌≤◌, ◌⊎◌, inl, inr, Bool, true, false, not, ◌&&◌, ◌||◌, List, [], ◌∷◌, Option, Some, None, refl, sym, ◌∙◌, ap, subst, arith}
use Rattle.std.specs.Prelude.{◌≢◌, IfSome}
use Rattle.std.proofs.lemmas.Bool.{both_ways, not-true, and_parts}
use Rattle.std.proofs.lemmas.Bool.{cases_lt}
use Rattle.model.specs.declared.entry.Entry.{Entry}
use Rattle.model.specs.declared.entry.Entry.TheVariants as entries
use Rattle.model.specs.declared.entry.Entry.TheVariants.{ActivateInactive, ActivateNba, ActivateMonitor, Advance}
use Rattle.model.specs.declared.entry.Refusal.TheVariants.{Finished, NotDue}
use Rattle.model.specs.declared.end.Limits.{Limits}
use Rattle.model.specs.declared.end.Why.TheVariants.{Finish, Until, Entries, TooLong, Time, Memory}
use Rattle.model.specs.declared.end.End.{End}
use Rattle.model.specs.declared.end.End.TheVariants.{Quiet, Running, Stopped}
use Rattle.model.specs.Design.{Design}
use Rattle.model.specs.States.{Action, Evaluate, Event, State}
use Rattle.model.specs.Runs.{silent, action_in, has_any, has_earlier, has_future, Future, refused_where, refusal, entry_refusal, least_time, last_time, is_quiet, is_idle, HasLongTurn, IsPast, IsPastLimit, most_time, IsTimely, EndsIn, why_past}
use Rattle.model.specs.Texts.{EndsHere}
use Rattle.model.proofs.RunLaws.{where_none, either_false}
use Rattle.regions.specs.Machine.{IsChange, IsDue}
use Rattle.runs.specs.Halting.{MayBeNext, IsAtAnyCount, HaltsAt, GoesOn, OnlyLongTurnsEnd}
use Rattle.runs.proofs.Permits.{only_future, permitted_advance, advance_rests, advance_next, no_time, SomeNext, active_next}

has_active : (es : List Event) (n : ℕ) (a : Action) → action_in es n ≡ Some a → has_any es ≡ true
has_active [] n a there = cc
has_active (e ∷ es) n a there = refl

-- no turn is left where nothing is active
no_long_turn : (design : Design) (s : State) (p : ℕ) → has_earlier Future s ≡ false → HasLongTurn design s p → ⊥
no_long_turn design s p none (n, there, long) =
    both_ways (has_any s.active) (only_future s none).active (has_active s.active n (Evaluate p) there)

-- a quiet state has no event
quiet_parts : (s : State) → is_quiet s ≡ true → (has_earlier Future s ≡ false) × (has_future s ≡ false)
quiet_parts s quiet = either_false (has_earlier Future s) (has_future s) (not-true (has_earlier Future s || has_future s) quiet)

-- an idle one has future events alone
idle_parts : (s : State) → is_idle s ≡ true → (has_earlier Future s ≡ false) × (has_future s ≡ true)
idle_parts s idle =
    let (none, some) = and_parts (not (has_earlier Future s)) (has_future s) idle in
    (not-true (has_earlier Future s) none, some)

never_both : (s : State) → is_quiet s ≡ true → is_idle s ≡ true → ⊥
never_both s quiet idle = both_ways (has_future s) (quiet_parts s quiet).1 (idle_parts s idle).1

past_idle : (s : State) (o : Option ℕ) → IsPastLimit s o → is_idle s ≡ true
past_idle s None past = absurd past
past_idle s (Some until) past = past.0

-- the ways in which a run may end where it is finished, quiet, or past its limit
only_finish : (design : Design) (limits : Limits) (s : State) (other : End) → s.finished ≡ true → other ≢ Stopped Entries → other ≢ Stopped Memory
    → EndsIn design limits 0 s other → other ≡ Stopped Finish
only_finish design limits s Quiet f o m ends = absurd (both_ways s.finished ends.1 f)
only_finish design limits s Running f o m ends = absurd ends
only_finish design limits s (Stopped Finish) f o m ends = refl
only_finish design limits s (Stopped Entries) f o m ends = absurd (o refl)
only_finish design limits s (Stopped (TooLong p)) f o m ends = absurd (both_ways s.finished ends.1 f)
only_finish design limits s (Stopped Until) f o m ends = absurd (both_ways s.finished ends.1 f)
only_finish design limits s (Stopped Time) f o m ends = absurd (both_ways s.finished ends.1 f)
only_finish design limits s (Stopped Memory) f o m ends = absurd (m refl)

only_quiet : (design : Design) (limits : Limits) (s : State) (other : End) → s.finished ≡ false → is_quiet s ≡ true → other ≢ Stopped Entries → other ≢ Stopped Memory
    → EndsIn design limits 0 s other → other ≡ Quiet
only_quiet design limits s Quiet g q o m ends = refl
only_quiet design limits s Running g q o m ends = absurd ends
only_quiet design limits s (Stopped Finish) g q o m ends = absurd (both_ways s.finished g ends)
only_quiet design limits s (Stopped Entries) g q o m ends = absurd (o refl)
only_quiet design limits s (Stopped (TooLong p)) g q o m ends = absurd (no_long_turn design s p (quiet_parts s q).0 ends.2)
only_quiet design limits s (Stopped Until) g q o m ends = absurd (never_both s q (past_idle s limits.until ends.2))
only_quiet design limits s (Stopped Time) g q o m ends = absurd (never_both s q ends.3.0)
only_quiet design limits s (Stopped Memory) g q o m ends = absurd (m refl)

limit_why : (s : State) (o : Option ℕ) → IsPastLimit s o → Stopped Until ≡ Stopped (why_past o)
limit_why s None past = absurd past
limit_why s (Some until) past = refl

only_past : (design : Design) (limits : Limits) (s : State) (other : End) → s.finished ≡ false → is_idle s ≡ true → other ≢ Stopped Entries → other ≢ Stopped Memory
    → EndsIn design limits 0 s other → other ≡ Stopped (why_past limits.until)
only_past design limits s Quiet g i o m ends = absurd (never_both s ends.0 i)
only_past design limits s Running g i o m ends = absurd ends
only_past design limits s (Stopped Finish) g i o m ends = absurd (both_ways s.finished g ends)
only_past design limits s (Stopped Entries) g i o m ends = absurd (o refl)
only_past design limits s (Stopped (TooLong p)) g i o m ends = absurd (no_long_turn design s p (idle_parts s i).0 ends.2)
only_past design limits s (Stopped Until) g i o m ends = limit_why s limits.until ends.2
only_past design limits s (Stopped Time) g i o m ends = ap (λ x. Stopped (why_past x)) (sym ends.2)
only_past design limits s (Stopped Memory) g i o m ends = absurd (m refl)

-- a finished run halts
pub halts_finished : (design : Design) (limits : Limits) (s : State) → s.finished ≡ true → HaltsAt design limits s (Stopped Finish)
halts_finished design limits s f = record {
  nothing = λ entry next. both_ways s.finished (where_none s.finished Finished (entry_refusal s entry) next.0).0 f;
  ends = λ room. ((λ e. cc), (λ e. cc), f);
  only = λ other h. only_finish design limits s other f h.0 h.1 h.2;
}

no_advance : (s : State) (entry : Entry) → has_earlier Future s ≡ false → has_future s ≡ false → refusal s entry ≡ None → ⊥
no_advance s entry none future permitted =
    let (time, is, least) = permitted_advance s entry none permitted in
    let clash : Some time ≡ None = sym least ∙ no_time s future in cc

-- so does a quiet one
pub halts_quiet : (design : Design) (limits : Limits) (s : State) → s.finished ≡ false → is_quiet s ≡ true → HaltsAt design limits s Quiet
halts_quiet design limits s g q =
    let (none, future) = quiet_parts s q in
    record {
      nothing = λ entry next. no_advance s entry none future next.0;
      ends = λ room. ((λ e. cc), (λ e. cc), (q, g));
      only = λ other h. only_quiet design limits s other g q h.0 h.1 h.2;
    }

-- no entry may be next in time where the next time is past the limit
past_stops : (limits : Limits) (s : State) (entry : Entry) → IsPast s (most_time limits.until) → MayBeNext limits s entry → ⊥
past_stops limits s entry (idle, past) (permitted, timely) =
    let (time, is, least) = permitted_advance s entry (idle_parts s idle).0 permitted in
    let low : time ≤ most_time limits.until = subst (λ e. IsTimely limits e) is timely in
    let high : most_time limits.until < time = subst (λ o. IfSome o (λ due. most_time limits.until < due)) least past in
    omega (arith, low, high)

past_ends : (design : Design) (limits : Limits) (s : State) (o : Option ℕ) → limits.until ≡ o → 0 < limits.max_entries → s.finished ≡ false → IsPast s (most_time o)
    → EndsHere design limits (silent s) (Stopped (why_past o))
past_ends design limits s None is few going past = ((λ e. cc), (λ e. cc), (few, going, is, past))
past_ends design limits s (Some until) is few going past =
    ((λ e. cc), (λ e. cc), (few, going, subst (λ o. IsPastLimit s o) (sym is) past))

counted : (o : Option ℕ) → IsAtAnyCount (Stopped (why_past o)) → ⊥
counted None (inl e) = cc
counted None (inr e) = cc
counted (Some until) (inl e) = cc
counted (Some until) (inr e) = cc

past_room : (design : Design) (limits : Limits) (s : State) → s.finished ≡ false → IsPast s (most_time limits.until)
    → (0 < limits.max_entries) ⊎ IsAtAnyCount (Stopped (why_past limits.until)) → EndsHere design limits (silent s) (Stopped (why_past limits.until))
past_room design limits s going past (inl few) = past_ends design limits s limits.until refl few going past
past_room design limits s going past (inr any) = absurd (counted limits.until any)

-- and a run whose next time is past its limit
halts_past : (design : Design) (limits : Limits) (s : State) → s.finished ≡ false → IsPast s (most_time limits.until)
    → HaltsAt design limits s (Stopped (why_past limits.until))
halts_past design limits s going past = record {
  nothing = λ entry next. past_stops limits s entry past next;
  ends = past_room design limits s going past;
  only = λ other h. only_past design limits s other going past.0 h.0 h.1 h.2;
}

-- no change of the regions may be next
abbrev pub NoChangeNext : Limits → State → Type 0
NoChangeNext limits s =
    record {
      inactive : refusal s ActivateInactive ≡ None → ⊥;
      nonblocking : refusal s ActivateNba ≡ None → ⊥;
      monitor : refusal s ActivateMonitor ≡ None → ⊥;
      advance : (time : ℕ) → MayBeNext limits s (Advance time) → ⊥;
    }

none_due : (before own : Bool) (s : State) (finished : Bool) → finished ≡ false → before ≡ false
    → (refused_where finished Finished (refused_where (before || not own) NotDue None) ≡ None → ⊥) → own ≡ false
none_due before true s finished f b h = absurd (h (rw (f, b) refl))
none_due before false s finished f b h = refl

idle_by : (present future : Bool) → present ≡ false → not (present || future) ≡ false → (not present && future) ≡ true
idle_by true future p q = cc
idle_by false true p q = refl
idle_by false false p q = cc

most_is_low : (o : Option ℕ) → IfSome o (λ until. until ≤ last_time) → most_time o ≤ last_time
most_is_low None low = omega arith
most_is_low (Some until) low = low

late : (limits : Limits) (s : State) (o : Option ℕ) → least_time s ≡ o → s.finished ≡ false → has_earlier Future s ≡ false → has_future s ≡ true
    → most_time limits.until ≤ last_time → ((time : ℕ) → MayBeNext limits s (Advance time) → ⊥) → IfSome o (λ due. most_time limits.until < due)
late limits s None least going none some low never = tt
late limits s (Some due) least going none some low never =
    elim (cases_lt (most_time limits.until) due) [
      | inl less ↦ less
      | inr more ↦
          let early : due ≤ last_time = omega (arith, more, low) in
          absurd (never due (advance_next s due going none least early, more))
    ]

-- where no change of the regions may be next, nothing is active and some event is left, the next time is past the limit
is_past : (limits : Limits) (s : State) → s.finished ≡ false → is_quiet s ≡ false → has_any s.active ≡ false → IfSome limits.until (λ until. until ≤ last_time)
    → NoChangeNext limits s → IsPast s (most_time limits.until)
is_past limits s going left a low never =
    let i : has_any s.inactive ≡ false = none_due (has_any s.active) (has_any s.inactive) s s.finished going a never.inactive in
    let two : (has_any s.active || has_any s.inactive) ≡ false = rw (a, i) refl in
    let n : has_any s.nonblocking ≡ false = none_due (has_any s.active || has_any s.inactive) (has_any s.nonblocking) s s.finished going two never.nonblocking in
    let three : (has_any s.active || has_any s.inactive || has_any s.nonblocking) ≡ false = rw (a, i, n) refl in
    let m : has_any s.monitor ≡ false = none_due (has_any s.active || has_any s.inactive || has_any s.nonblocking) (has_any s.monitor) s s.finished going three never.monitor in
    let none : has_earlier Future s ≡ false = rw (a, i, n, m) refl in
    let idle : is_idle s ≡ true = idle_by (has_earlier Future s) (has_future s) none left in
    (idle, late limits s (least_time s) refl going none (idle_parts s idle).1 (most_is_low limits.until low) never.advance)

pub halts_late : (design : Design) (limits : Limits) (s : State) → s.finished ≡ false → is_quiet s ≡ false → has_any s.active ≡ false
    → IfSome limits.until (λ until. until ≤ last_time) → NoChangeNext limits s → HaltsAt design limits s (Stopped (why_past limits.until))
halts_late design limits s going left a low never = halts_past design limits s going (is_past limits s going left a low never)

-- where one entry may be next in time, each that is permitted is in time
pub all_timely : (limits : Limits) (s : State) (entry other : Entry) → MayBeNext limits s entry → refusal s other ≡ None → IsTimely limits other
all_timely limits s entry (entries.Turn n) next permitted = tt
all_timely limits s entry (entries.Update n) next permitted = tt
all_timely limits s entry ActivateInactive next permitted = tt
all_timely limits s entry ActivateNba next permitted = tt
all_timely limits s entry ActivateMonitor next permitted = tt
all_timely limits s entry (Advance time) next permitted =
    let none = advance_rests s time permitted in
    let (due, is, least) = permitted_advance s entry none next.0 in
    let (again, this, also) = permitted_advance s (Advance time) none permitted in
    let same : Some due ≡ Some again = sym least ∙ also in
    let times : Advance due ≡ Advance time = cc in
    subst (λ e. IsTimely limits e) (is ∙ times) next.1

pub goes_on : (limits : Limits) (s : State) → SomeNext limits s → GoesOn limits s
goes_on limits s (entry, next) =
    record { entry = entry; next = next; timely = λ other permitted. all_timely limits s entry other next permitted }

pub goes_on_active : (limits : Limits) (s : State) → s.finished ≡ false → has_any s.active ≡ true → GoesOn limits s
goes_on_active limits s going some = goes_on limits s (active_next limits s going some)

until_past : (limits : Limits) (s : State) (o : Option ℕ) → limits.until ≡ o → IsPastLimit s o → IsPast s (most_time limits.until)
until_past limits s None is past = absurd past
until_past limits s (Some until) is past = subst (λ o. IsPast s (most_time o)) (sym is) past

pub only_long_turns_end : OnlyLongTurnsEnd
only_long_turns_end design limits s entry Quiet next (o, m, ends) =
    let (none, future) = quiet_parts s ends.0 in absurd (no_advance s entry none future next.0)
only_long_turns_end design limits s entry Running next (o, m, ends) = absurd ends
only_long_turns_end design limits s entry (Stopped Finish) next (o, m, ends) =
    absurd (both_ways s.finished (where_none s.finished Finished (entry_refusal s entry) next.0).0 ends)
only_long_turns_end design limits s entry (Stopped Entries) next (o, m, ends) = absurd (o refl)
only_long_turns_end design limits s entry (Stopped (TooLong p)) next (o, m, ends) = (p, refl, ends.2)
only_long_turns_end design limits s entry (Stopped Until) next (o, m, ends) =
    absurd (past_stops limits s entry (until_past limits s limits.until refl ends.2) next)
only_long_turns_end design limits s entry (Stopped Time) next (o, m, ends) =
    absurd (past_stops limits s entry (subst (λ x. IsPast s (most_time x)) (sym ends.2) ends.3) next)
only_long_turns_end design limits s entry (Stopped Memory) next (o, m, ends) = absurd (m refl)

-- a change that is due and not in time is the only one, and where none is due there is none
late_change : (limits : Limits) (s : State) (change entry : Entry) → IsDue s (Some change) → (IsTimely limits change → ⊥) → IsChange entry
    → MayBeNext limits s entry → ⊥
late_change limits s change entry due late_one is next =
    let same : Some change ≡ Some entry = (due entry).1 (is, next.0) in
    let one : entry ≡ change = cc in
    late_one (subst (λ e. IsTimely limits e) one next.1)

pub never_late : (limits : Limits) (s : State) (change : Entry) → IsDue s (Some change) → (IsTimely limits change → ⊥) → NoChangeNext limits s
never_late limits s change due late_one = record {
  inactive = λ p. late_change limits s change ActivateInactive due late_one tt (p, tt);
  nonblocking = λ p. late_change limits s change ActivateNba due late_one tt (p, tt);
  monitor = λ p. late_change limits s change ActivateMonitor due late_one tt (p, tt);
  advance = λ time next. late_change limits s change (Advance time) due late_one tt next;
}

none_change : (s : State) (entry : Entry) → IsDue s None → IsChange entry → refusal s entry ≡ None → ⊥
none_change s entry due is permitted =
    let same : None ≡ Some entry = (due entry).1 (is, permitted) in cc

pub never_due : (limits : Limits) (s : State) → IsDue s None → NoChangeNext limits s
never_due limits s due = record {
  inactive = λ p. none_change s ActivateInactive due tt p;
  nonblocking = λ p. none_change s ActivateNba due tt p;
  monitor = λ p. none_change s ActivateMonitor due tt p;
  advance = λ time next. none_change s (Advance time) due tt next.0;
}
