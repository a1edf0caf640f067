-- Runs that are followed from time to time.
use Rattle.std.proofs.Common.{◌≡◌, ◌∙◌, ap, sym, refl, subst, ℕ, suc, ◌+◌, ◌<◌, ◌≤◌, Bool, true, false, List, [], ◌∷◌, ◌++◌, length, take, drop, if◌then◌else◌, append-nil, Some, arith}
use Rattle.std.specs.Prelude.{flat_map, slice_index, slice_index_or}
use Rattle.std.specs.List.Sorted.{IsStrictlyIncreasing}
use Rattle.std.proofs.lemmas.Bool.{ltb-true, ltb-false}
use Rattle.std.proofs.lemmas.Grind.{flat_map-append, get_or_default_zero}
use Rattle.std.proofs.lemmas.List.{take_more}
use Rattle.logic4.specs.Vector.{Vector}
use Rattle.model.specs.declared.entry.Entry.{Entry}
use Rattle.model.specs.declared.entry.Entry.TheVariants.{Turn, Update, ActivateInactive, ActivateNba, ActivateMonitor, Advance}
use Rattle.model.specs.Design.{Design}
use Rattle.model.specs.States.{State}
use Rattle.model.specs.Runs.{run}
use Rattle.design.specs.Compiled.{Compiled, design_of}
use Rattle.differences.specs.declared.followed_run.FollowedRun.{FollowedRun}
use Rattle.differences.specs.declared.value_difference.GivenValue.{GivenValue}
use Rattle.differences.specs.declared.value_difference.ValueDifference.{ValueDifference}
use Rattle.differences.specs.ComparedValues.{count_until, differing, given_from, given_values, given_when, goes_past, rows_at, store_left, values_when}
use Rattle.differences.specs.Givers.{last_giver}
use Rattle.differences.proofs.Given.{given_are}
use Rattle.differences.specs.Following.{IsRunFollowed, IsFollowedSince, IsFollowedTo}

-- how many entries come before a time passes

past_later : (t u : ℕ) (e : Entry) → t ≤ u → goes_past t e ≡ false → goes_past u e ≡ true → ⊥
past_later t u (Turn number) le h k = cc
past_later t u (Update number) le h k = cc
past_later t u ActivateInactive le h k = cc
past_later t u ActivateNba le h k = cc
past_later t u ActivateMonitor le h k = cc
past_later t u (Advance next) le h k = omega (arith, le, ltb-false t next h, ltb-true u next k)

counted : (t : ℕ) (e : Entry) (es : List Entry) (b : Bool) → goes_past t e ≡ b → count_until t (e ∷ es) ≡ (if b then 0 else suc (count_until t es))
counted t e es b h = ap (λ (c : Bool). if c then 0 else suc (count_until t es)) h

-- one entry more, where so it is behind it
further_by : (t u : ℕ) (e : Entry) (es : List Entry) (b c : Bool) → t ≤ u → goes_past t e ≡ b → goes_past u e ≡ c → count_until u es ≡ count_until t es + count_until u (drop (count_until t es) es)
    → count_until u (e ∷ es) ≡ count_until t (e ∷ es) + count_until u (drop (count_until t (e ∷ es)) (e ∷ es))
further_by t u e es true c le h k rest =
    subst (λ (n : ℕ). count_until u (e ∷ es) ≡ n + count_until u (drop n (e ∷ es))) (sym (counted t e es true h)) (omega arith)
further_by t u e es false true le h k rest = absurd (past_later t u e le h k)
further_by t u e es false false le h k rest =
    let here : count_until u (e ∷ es) ≡ suc (count_until u es) = counted u e es false k in
    let one : suc (count_until u es) ≡ suc (count_until t es) + count_until u (drop (count_until t es) es) = omega (arith, rest) in
    subst (λ (n : ℕ). count_until u (e ∷ es) ≡ n + count_until u (drop n (e ∷ es))) (sym (counted t e es false h)) (here ∙ one)

pub further : (t u : ℕ) (es : List Entry) → t ≤ u → count_until u es ≡ count_until t es + count_until u (drop (count_until t es) es)
further t u [] le = omega arith
further t u (e ∷ es) le = further_by t u e es (goes_past t e) (goes_past u e) le refl refl (further t u es le)

-- at the start each time is ahead
pub followed_none : (journal : List Entry) (times : List ℕ) (run : FollowedRun) → IsRunFollowed journal run → run.explainer.position.core.entries ≡ 0 → IsFollowedSince journal times 0 run
followed_none journal times run followed none = record {
  followed = followed;
  ahead = λ time after. subst (λ (n : ℕ). count_until time journal ≡ n + count_until time (drop n journal)) (sym none) (omega arith);
}

-- one time more

module _ (journal : List Entry) (times : List ℕ) (place d : ℕ) (old new : FollowedRun) (inside : place < length times) (rise : IsStrictlyIncreasing times) (since : IsFollowedSince journal times place old)
    (to : IsFollowedTo (slice_index_or times place d) journal old new) where
  same_time : slice_index_or times place d ≡ slice_index times place
  same_time = get_or_default_zero times place d inside

  later : (k : ℕ) → k + 1 ≡ place → slice_index times k ≤ slice_index_or times place d
  later k is =
      let lower : slice_index times k < slice_index times (k + 1) = rise k (omega (arith, is, inside)) in
      let there : slice_index times (k + 1) ≡ slice_index times place = ap (slice_index times) is in
      omega (arith, lower, there, same_time)

  pub count_there : new.explainer.position.core.entries ≡ count_until (slice_index_or times place d) journal
  count_there = to.count ∙ sym (since.ahead (slice_index_or times place d) later)

  pub since_next : IsFollowedSince journal times (place + 1) new
  since_next = record {
    followed = to.followed;
    ahead = λ time after.
        let reached : slice_index times place ≤ time = after place refl in
        let le : slice_index_or times place d ≤ time = omega (arith, reached, same_time) in
        subst (λ (n : ℕ). count_until time journal ≡ n + count_until time (drop n journal)) (sym count_there) (further (slice_index_or times place d) time journal le);
  }

  values_there : (code : Compiled) → new.explainer.position.code ≡ code → new.explainer.position.values ≡ values_when (design_of code) journal (slice_index_or times place d)
  values_there code same =
      let ran : run (design_of code) (take new.explainer.position.core.entries journal) ≡ Some to.followed.behind.effect =
      ap (λ (c : Compiled). run (design_of c) (take new.explainer.position.core.entries journal)) (sym same) ∙ to.followed.behind.is_run in
      ap (λ (s : State). s.store) (sym to.followed.behind.state_is)
      ∙ (ap store_left (sym ran) ∙ ap (λ (n : ℕ). store_left (run (design_of code) (take n journal))) count_there)

  pub given_there : (code : Compiled) → new.explainer.position.code ≡ code → length new.explainer.position.values ≡ length new.givers.items
      → given_values new.explainer.position.values new.givers.items ≡ given_when (design_of code) journal (slice_index_or times place d)
  given_there code same long =
      let values : List Vector = new.explainer.position.values in
      let count : ℕ = new.explainer.position.core.entries in
      given_are values new.givers.items (λ r. last_giver (design_of new.explainer.position.code) journal r count) long to.followed.givers_are
      ∙ (ap (λ (c : Compiled). given_from (λ r. last_giver (design_of c) journal r count) 0 values) same
      ∙ (ap (λ (n : ℕ). given_from (λ r. last_giver (design_of code) journal r n) 0 values) count_there
      ∙ ap (given_from (λ r. last_giver (design_of code) journal r (count_until (slice_index_or times place d) journal)) 0) (values_there code same)))

-- the rows of one time more
pub rows_next : (design : Design) (first second : List Entry) (times : List ℕ) (place d : ℕ) (rows rows' : List ValueDifference) (one other : List GivenValue) → place < length times
    → rows ≡ flat_map (rows_at design first second) (take place times) → rows' ≡ rows ++ differing (slice_index_or times place d) 0 one other
    → one ≡ given_when design first (slice_index_or times place d) → other ≡ given_when design second (slice_index_or times place d)
    → rows' ≡ flat_map (rows_at design first second) (take (place + 1) times)
rows_next design first second times place d rows rows' one other inside before put is_one is_other =
    let time : ℕ = slice_index_or times place d in
    let rows_of : ℕ → List ValueDifference = rows_at design first second in
    let here : differing time 0 one other ≡ rows_of time =
    ap (λ (v : List GivenValue). differing time 0 v other) is_one ∙ ap (λ (v : List GivenValue). differing time 0 (given_when design first time) v) is_other in
    let all : flat_map rows_of (take (place + 1) times) ≡ flat_map rows_of (take place times) ++ rows_of time =
    ap (flat_map rows_of) (take_more times place d inside)
    ∙ (flat_map-append rows_of (take place times) (time ∷ []) ∙ ap (λ (l : List ValueDifference). flat_map rows_of (take place times) ++ l) (append-nil (rows_of time))) in
    put ∙ (ap (λ (l : List ValueDifference). l ++ differing time 0 one other) before
    ∙ (ap (λ (l : List ValueDifference). flat_map rows_of (take place times) ++ l) here ∙ sym all))
