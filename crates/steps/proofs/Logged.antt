-- Reads by their places, updates by their numbers, and entries that the rules don't permit.
use Rattle.std.proofs.Common.{◌≡◌, ℕ, zero, suc, ◌+◌, ◌<◌, ◌==◌, Bool, true, false, List, [], ◌∷◌, ◌++◌, map, length, take, drop, get_or, Option, Some, None, refl, sym, ◌∙◌, ap, subst, arith, if◌then◌else◌, eq-eqb, eqb-true}
use Rattle.std.specs.Prelude.{slice_get, ◌≢◌, IsSome}
use Rattle.std.proofs.lemmas.List.{drop_more}
use Rattle.model.specs.declared.entry.Entry.TheVariants as entries
use Rattle.model.specs.declared.entry.Refusal.{Refusal}
use Rattle.model.specs.declared.entry.Refusal.TheVariants.{Finished, NotActive}
use Rattle.model.specs.States.{Action, State}
use Rattle.model.specs.Runs.{Effect, action_in, refused_where, update_refusal, refusal, effect, unless_refused, step}
use Rattle.design.specs.Compiled.{Compiled, design_of}
use Rattle.turn.specs.declared.memory.Seen.{Seen}
use Rattle.turn.specs.Reads.{registers, AreDeclared}
use Rattle.regions.specs.declared.queue.Update.{Update}
use Rattle.regions.specs.Queue.{update_event}
use Rattle.steps.specs.declared.entry_account.Reading.{Reading}
use Rattle.steps.specs.ExplainerStanding.{update_of}

-- reads

take_got : (rs : List ℕ) (i r : ℕ) → slice_get rs i ≡ Some r → take (suc i) rs ≡ take i rs ++ r ∷ []
take_got [] i r got = cc
take_got (x ∷ rs) zero r got = let same : x ≡ r = cc in ap (λ y. y ∷ []) same
take_got (x ∷ rs) (suc i) r got = ap (λ ys. x ∷ ys) (take_got rs i r got)

map_push : (f : ℕ → Reading) (rs : List ℕ) (r : ℕ) → map f (rs ++ r ∷ []) ≡ map f rs ++ f r ∷ []
map_push f [] r = refl
map_push f (x ∷ rs) r = ap (λ ys. f x ∷ ys) (map_push f rs r)

-- one read more is told
pub read_more : (f : ℕ → Reading) (rs : List ℕ) (i r : ℕ) (told more : List Reading) (one : Reading) → slice_get rs i ≡ Some r → told ≡ map f (take i rs) → one ≡ f r
    → more ≡ told ++ one ∷ [] → more ≡ map f (take (i + 1) rs)
read_more f rs i r told more one got is read pushed =
    let next : suc i ≡ i + 1 = omega arith in
    pushed ∙ ap (λ l. l ++ one ∷ []) is ∙ ap (λ x. map f (take i rs) ++ x ∷ []) read ∙ sym (map_push f (take i rs) r)
    ∙ ap (map f) (sym (take_got rs i r got)) ∙ ap (λ n. map f (take n rs)) next

-- a register that was read is declared
pub declared_at : (n : ℕ) (reads : List (ℕ × Seen)) (i r : ℕ) → AreDeclared n reads → slice_get (registers reads) i ≡ Some r → r < n
declared_at n [] i r all got = cc
declared_at n (x ∷ reads) zero r all got =
    let same : x.0 ≡ r = cc in
    let first : x.0 < n = all 0 x (omega arith) in
    subst (λ k. k < n) same first
declared_at n (x ∷ reads) (suc i) r all got = declared_at n reads i r (λ k d lt. all (suc k) d (omega (arith, lt))) got

-- updates

here_is : (b : Bool) (u : Update) (n : ℕ) (o : Option Action) → (u.number == n) ≡ b → b ≡ true → update_of (if u.number == n then Some (Action.Update u.register u.value) else o) ≡ Some (u.register, u.value)
here_is true u n o is holds = rw is refl
here_is false u n o is holds = cc

pub update_here : (us : List Update) (i n : ℕ) (u : Update) → i < length us → u ≡ get_or us i u → u.number ≡ n
    → update_of (action_in (map update_event (drop i us)) n) ≡ Some (u.register, u.value)
update_here us i n u lt is same =
    let more : drop i us ≡ u ∷ drop (i + 1) us = drop_more us i u lt ∙ ap (λ x. x ∷ drop (i + 1) us) (sym is) in
    ap (λ l. update_of (action_in (map update_event l) n)) more
    ∙ here_is (u.number == n) u n (action_in (map update_event (drop (i + 1) us)) n) refl (eq-eqb u.number n same)

other_is : (b : Bool) (u : Update) (n : ℕ) (o : Option Action) → (u.number == n) ≡ b → b ≡ false → (if u.number == n then Some (Action.Update u.register u.value) else o) ≡ o
other_is true u n o is no_one = cc
other_is false u n o is no_one = rw is refl

differ : (b : Bool) (m n : ℕ) → (m == n) ≡ b → m ≢ n → b ≡ false
differ true m n is other = absurd (other (eqb-true m n is))
differ false m n is other = refl

pub update_past : (us : List Update) (i n : ℕ) (u : Update) → i < length us → u ≡ get_or us i u → u.number ≢ n
    → update_of (action_in (map update_event (drop (i + 1) us)) n) ≡ update_of (action_in (map update_event (drop i us)) n)
update_past us i n u lt is other =
    let more : drop i us ≡ u ∷ drop (i + 1) us = drop_more us i u lt ∙ ap (λ x. x ∷ drop (i + 1) us) (sym is) in
    sym (
    ap (λ l. update_of (action_in (map update_event l) n)) more
    ∙ ap update_of (other_is (u.number == n) u n (action_in (map update_event (drop (i + 1) us)) n) refl (differ (u.number == n) u.number n refl other)))

-- an entry that the rules don't permit has no step

refused_step : (o : Option Refusal) (x : Option Effect) → IsSome o → unless_refused o x ≡ None
refused_step None x is = cc
refused_step (Some r) x is = refl

-- such a turn
pub no_turn : (code : Compiled) (s : State) (n : ℕ) → IsSome (refusal s (entries.Turn n)) → step (design_of code) s (entries.Turn n) ≡ None
no_turn code s n is = refused_step (refusal s (entries.Turn n)) (effect (design_of code) s (entries.Turn n)) is

not_active : (b : Bool) (o : Option Refusal) → o ≡ Some NotActive → IsSome (refused_where b Finished o)
not_active true o is = refl
not_active false None is = cc
not_active false (Some r) is = refl

no_update_refusal : (s : State) (n : ℕ) (o : Option Action) → update_of o ≡ None → update_refusal s n o ≡ Some NotActive
no_update_refusal s n None is = refl
no_update_refusal s n (Some (Action.Evaluate p)) is = refl
no_update_refusal s n (Some (Action.Update r v)) is = cc

-- and that of an event that is no active update
pub no_update_inactive : (code : Compiled) (s : State) (n : ℕ) → update_of (action_in s.active n) ≡ None → step (design_of code) s (entries.Update n) ≡ None
no_update_inactive code s n is =
    refused_step (refusal s (entries.Update n)) (effect (design_of code) s (entries.Update n))
    (not_active s.finished (update_refusal s n (action_in s.active n)) (no_update_refusal s n (action_in s.active n) is))
