-- Whom notes concern, and notes that say that they are apart.
use Rattle.std.proofs.Common.{◌≡◌, ◌⊎◌, ℕ, true, false, ◌==◌, not, List, [], ◌∷◌, ◌++◌, inl, inr, refl, sym, ap, subst, ◌∙◌, eqb-true}
use Rattle.std.specs.List.{Contains}
use Rattle.std.proofs.lemmas.List.Elements.{Contains-append_left, Contains-append_right, Contains-append_cases}
use Rattle.model.specs.Turns.{contains}
use Rattle.loose.specs.declared.transition.LooseTransition.{LooseTransition}
use Rattle.loose.specs.declared.transition.LooseTransition.TheVariants.{Process, FirstOf, Change}
use Rattle.footprints.specs.Footprints.{Footprint, process_of_actor}
use Rattle.footprints.specs.Moves.{GivesTo}
use Rattle.certificates.specs.Masks.{meet}
use Rattle.certificates.specs.Notes.{NoteView, TellsOf}
use Rattle.certificates.specs.Coming.{is_same, begins, wakes_actor}
use Rattle.certificates.specs.Apart.{differ, SayApart}
use Rattle.certificates.proofs.Tests.{or_left, or_cases, never_true, same_number, any_at, any_in, any_told}
use Rattle.looseparts.specs.StandTogether.{concern}

-- an actor is the same as himself

same_self : (a : LooseTransition) (note : NoteView) → begins note a ≡ true → (is_same note.owner a ≡ true) ⊎ (wakes_actor note a ≡ true)
same_self a note h = or_cases (is_same note.owner a) (wakes_actor note a) h

pub concerned_by : (notes : List NoteView) (note : NoteView) (a : LooseTransition) → Contains notes note → begins note a ≡ true → concern notes a ≡ true
concerned_by notes note a there is = any_in (λ n. begins n a) notes note there is

pub concerned_at : (notes : List NoteView) (a : LooseTransition) → concern notes a ≡ true → (note : NoteView) × Contains notes note × (begins note a ≡ true)
concerned_at notes a h = any_at (λ n. begins n a) notes h

pub concern_more : (notes more : List NoteView) (a : LooseTransition) → ((n : NoteView) → Contains notes n → Contains more n) → concern notes a ≡ true → concern more a ≡ true
concern_more notes more a told h = any_told (λ n. begins n a) notes more told h

pub concern_either : (notes more : List NoteView) (a : LooseTransition) → concern (notes ++ more) a ≡ true → (concern notes a ≡ true) ⊎ (concern more a ≡ true)
concern_either notes more a h =
    let (note, there, is) = concerned_at (notes ++ more) a h in
    elim (Contains-append_cases notes more note there) [
      | inl first ↦ inl (concerned_by notes note a first is)
      | inr second ↦ inr (concerned_by more note a second is)
    ]

pub concern_left : (notes more : List NoteView) (a : LooseTransition) → concern notes a ≡ true → concern (notes ++ more) a ≡ true
concern_left notes more a h = concern_more notes (notes ++ more) a (λ n there. Contains-append_left notes more n there) h

pub concern_right : (notes more : List NoteView) (a : LooseTransition) → concern more a ≡ true → concern (notes ++ more) a ≡ true
concern_right notes more a h = concern_more more (notes ++ more) a (λ n there. Contains-append_right notes more n there) h

-- whom a step gives an event is woken by what its note says
pub given_told : (note : NoteView) (f : Footprint) (a : LooseTransition) → TellsOf note f → GivesTo f a → wakes_actor note a ≡ true
given_told note f a told (p, is, woken) = subst (λ z. wakes_actor note z ≡ true) (sym is) (sym (told.woken p) ∙ woken)

-- who steps is the owner of the note

pub same_owner : (a : LooseTransition) (p : ℕ) → a ≡ Process p → is_same a a ≡ true
same_owner a p is = subst (λ z. is_same z z ≡ true) (sym is) (same_number p)

-- notes that say that they are apart concern no actor both

not_same_both : (k m n : ℕ) → not (m == n) ≡ true → (m == k) ≡ true → (n == k) ≡ true → ⊥
not_same_both k m n h is is' =
    let same : m ≡ n = eqb-true m k is ∙ sym (eqb-true n k is') in
    let there : (m == n) ≡ true = subst (λ z. (m == z) ≡ true) same (same_number m) in
    never_true (not (m == n)) h (ap not there)

owners_differ : (a b c : LooseTransition) → differ a b ≡ true → is_same a c ≡ true → is_same b c ≡ true → ⊥
owners_differ (Process p) (Process q) (Process k) h is is' = not_same_both k p q h is is'
owners_differ (Process p) (Process q) (FirstOf d) h is is' = cc
owners_differ (Process p) (Process q) (Change e) h is is' = cc
owners_differ (Process p) (FirstOf d) (Process k) h is is' = cc
owners_differ (Process p) (FirstOf d) (FirstOf k) h is is' = cc
owners_differ (Process p) (FirstOf d) (Change e) h is is' = cc
owners_differ (Process p) (Change d) c h is is' = cc
owners_differ (FirstOf p) (Process q) (Process k) h is is' = cc
owners_differ (FirstOf p) (Process q) (FirstOf k) h is is' = cc
owners_differ (FirstOf p) (Process q) (Change e) h is is' = cc
owners_differ (FirstOf p) (FirstOf q) (Process k) h is is' = cc
owners_differ (FirstOf p) (FirstOf q) (FirstOf k) h is is' = not_same_both k p q h is is'
owners_differ (FirstOf p) (FirstOf q) (Change e) h is is' = cc
owners_differ (FirstOf p) (Change d) c h is is' = cc
owners_differ (Change d) b c h is is' = cc

woken_not_both : (xs ys : List ℕ) (n : ℕ) → meet xs ys ≡ false → contains xs n ≡ true → contains ys n ≡ true → ⊥
woken_not_both xs ys n none one other =
    let (m, there, is) = any_at (λ q. q == n) xs one in
    let among : contains ys m ≡ true = subst (λ z. contains ys z ≡ true) (sym (eqb-true m n is)) other in
    never_true (meet xs ys) (any_in (λ q. contains ys q) xs m there among) none

owner_not_woken : (a b : LooseTransition) (woken : List ℕ) (note : NoteView) → note.woken ≡ woken → meet (process_of_actor a) woken ≡ false → is_same a b ≡ true → wakes_actor note b ≡ true → ⊥
owner_not_woken (Process p) (Process q) woken note is none same wakes =
    woken_not_both (p ∷ []) woken q none (or_left (p == q) false same) (ap (λ z. contains z q) (sym is) ∙ wakes)
owner_not_woken (Process p) (FirstOf d) woken note is none same wakes = cc
owner_not_woken (Process p) (Change e) woken note is none same wakes = cc
owner_not_woken (FirstOf c) (Process q) woken note is none same wakes = cc
owner_not_woken (FirstOf c) (FirstOf d) woken note is none same wakes = cc
owner_not_woken (FirstOf c) (Change e) woken note is none same wakes = cc
owner_not_woken (Change e) b woken note is none same wakes = cc

both_not_woken : (a b : NoteView) (c : LooseTransition) → meet a.woken b.woken ≡ false → wakes_actor a c ≡ true → wakes_actor b c ≡ true → ⊥
both_not_woken a b (Process p) none one other = woken_not_both a.woken b.woken p none one other
both_not_woken a b (FirstOf d) none one other = cc
both_not_woken a b (Change e) none one other = cc

pub apart_not_both : (a b : NoteView) (c : LooseTransition) → SayApart a b → begins a c ≡ true → begins b c ≡ true → ⊥
apart_not_both a b c say one other =
    elim (same_self c a one) [
      | inl own ↦
          elim (same_self c b other) [
            | inl own' ↦ owners_differ a.owner b.owner c say.concern.owners own own'
            | inr woken' ↦ owner_not_woken a.owner c b.woken b refl say.concern.woken own woken'
          ]
      | inr woken ↦
          elim (same_self c b other) [
            | inl own' ↦ owner_not_woken b.owner c a.woken a refl say.concern.other_woken own' woken
            | inr woken' ↦ both_not_woken a b c say.concern.both_woken woken woken'
          ]
    ]
