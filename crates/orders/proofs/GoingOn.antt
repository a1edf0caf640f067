-- Where something is active, and each active process has a short turn, no run ends.
use Rattle.std.proofs.Common.{◌≡◌, ◌≢◌, ℕ, true, false, List, ◌∷◌, Option, Some, None, refl, sym, ◌∙◌}
use Rattle.model.specs.declared.end.Limits.{Limits}
use Rattle.model.specs.declared.end.Why.TheVariants.{Finish, Until, Entries, TooLong, Time, Memory}
use Rattle.model.specs.declared.end.End.{End}
use Rattle.model.specs.declared.end.End.TheVariants.{Quiet, Running, Stopped}
use Rattle.model.specs.Design.{Design}
use Rattle.model.specs.States.{Event, State}
use Rattle.model.specs.Runs.{EndsIn, is_quiet, is_idle, IsPastLimit, HasLongTurn}

past_not : (s : State) (limit : Option ℕ) → is_idle s ≡ false → IsPastLimit s limit → ⊥
past_not s None is past = past
past_not s (Some until) is (idle, past) =
    let both : true ≡ false = sym idle ∙ is in
    cc

no_end : (design : Design) (limits : Limits) (s : State) (n : ℕ) (end : End) → is_quiet s ≡ false → is_idle s ≡ false → s.finished ≡ false → ((p : ℕ) → HasLongTurn design s p → ⊥)
    → end ≢ Stopped Entries → end ≢ Stopped Memory → EndsIn design limits n s end → ⊥
no_end design limits s n Quiet quiet idle going short few memory ends =
    let both : true ≡ false = sym ends.0 ∙ quiet in
    cc
no_end design limits s n Running quiet idle going short few memory ends = ends
no_end design limits s n (Stopped Finish) quiet idle going short few memory ends =
    let both : true ≡ false = sym ends ∙ going in
    cc
no_end design limits s n (Stopped Entries) quiet idle going short few memory ends = few refl
no_end design limits s n (Stopped (TooLong p)) quiet idle going short few memory (less, open', long) = short p long
no_end design limits s n (Stopped Until) quiet idle going short few memory (less, open', past) = past_not s limits.until idle past
no_end design limits s n (Stopped Time) quiet idle going short few memory (less, open', none, past) =
    let both : true ≡ false = sym past.0 ∙ idle in
    cc
no_end design limits s n (Stopped Memory) quiet idle going short few memory ends = memory refl

pub goes_on : (design : Design) (limits : Limits) (s : State) (x : Event) (xs : List Event) (n : ℕ) (end : End) → s.active ≡ x ∷ xs → s.finished ≡ false → ((p : ℕ) → HasLongTurn design s p → ⊥)
    → end ≢ Stopped Entries → end ≢ Stopped Memory → EndsIn design limits n s end → ⊥
goes_on design limits s x xs n end is going short few memory ends =
    let quiet : is_quiet s ≡ false = rw is refl in
    let idle : is_idle s ≡ false = rw is refl in
    no_end design limits s n end quiet idle going short few memory ends
