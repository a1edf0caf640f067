-- Notes that are ordered certify, and stay ordered when one is added that comes of each of them or is apart from it.
use Rattle.std.proofs.Common.{◌≡◌, ◌⊎◌, ℕ, Bool, true, false, ◌&&◌, ◌==◌, List, [], ◌∷◌, ◌++◌, inl, inr, sym, ap, subst, ◌∙◌, eqb-true, true≢false, refl}
use Rattle.std.specs.List.{list_any}
use Rattle.model.specs.Design.{Design}
use Rattle.model.specs.Turns.{contains}
use Rattle.loose.specs.declared.transition.LooseTransition.{LooseTransition}
use Rattle.loose.specs.declared.transition.LooseTransition.TheVariants.{Process, FirstOf, Change}
use Rattle.traces.specs.Traces.{Moves}
use Rattle.traces.specs.Certificates.{EachComesOrIsApart}
use Rattle.footprints.specs.Footprints.{Footprint}
use Rattle.footprints.specs.Moves.{OrderedState, loose_moves, GivesTo}
use Rattle.certificates.specs.Notes.{NoteView, TellsOf, TellOfAll}
use Rattle.certificates.specs.Apart.{SayApart}
use Rattle.certificates.specs.Coming.{is_same, wakes_actor, begins, is_of_any, with_woken, ComeOrAreApart, AreOrdered, leading, ComesOrIsApart}
use Rattle.certificates.specs.Certified.{AreCertified, Certify}
use Rattle.certificates.proofs.Tests.{or_left, or_right, or_cases, and_both, and_parts, is_or_not, false_by, same_number, any_at, any_in, one_of}
use Rattle.certificates.proofs.Telling.{said_stands}

-- actors

same_is : (a b : LooseTransition) → is_same a b ≡ true → a ≡ b
same_is (Process p) (Process q) h = ap Process (eqb-true p q h)
same_is (Process p) (FirstOf d) h = cc
same_is (Process p) (Change e) h = cc
same_is (FirstOf c) (Process q) h = cc
same_is (FirstOf c) (FirstOf d) h = ap FirstOf (eqb-true c d h)
same_is (FirstOf c) (Change e) h = cc
same_is (Change d) (Process q) h = cc
same_is (Change d) (FirstOf c) h = cc
same_is (Change d) (Change e) h = cc

same_second : (a b : LooseTransition) → is_same a b ≡ true → is_same b b ≡ true
same_second a b h = subst (λ z. is_same z b ≡ true) (same_is a b h) h

-- those that lead to a step are actors
leading_actor : (last : LooseTransition) (notes : List NoteView) (a : LooseTransition) → leading last notes a ≡ true → is_same a a ≡ true
leading_actor last [] a h = same_second last a h
leading_actor last (note ∷ notes) a h =
    elim (or_cases (leading last notes a) (is_of_any (leading last notes) note && is_same note.owner a) h) [
      | inl before ↦ leading_actor last notes a before
      | inr own ↦ same_second note.owner a (and_parts (is_of_any (leading last notes) note) (is_same note.owner a) own).1
    ]

-- those whose steps come of a step, after these
abbrev after : (LooseTransition → Bool) → List NoteView → LooseTransition → Bool
after comes [] = comes
after comes (note ∷ notes) = after (with_woken comes note) notes

-- a last step comes of a first one, if one of those whose steps come of it leads to the last
leads : (last : LooseTransition) (notes : List NoteView) (comes : LooseTransition → Bool) (a : LooseTransition) → comes a ≡ true → leading last notes a ≡ true → after comes notes last ≡ true
leads last [] comes a here h = subst (λ z. comes z ≡ true) (sym (same_is last a h)) here
leads last (note ∷ notes) comes a here h =
    elim (or_cases (leading last notes a) (is_of_any (leading last notes) note && is_same note.owner a) h) [
      | inl before ↦ leads last notes (with_woken comes note) a (or_left (comes a) (comes note.owner && wakes_actor note a) here) before
      | inr own ↦
          let (any, same) = and_parts (is_of_any (leading last notes) note) (is_same note.owner a) own in
          let owner : comes note.owner ≡ true = subst (λ z. comes z ≡ true) (sym (same_is note.owner a same)) here in
          elim (or_cases (leading last notes note.owner) (list_any (λ p. leading last notes (Process p)) note.woken) any) [
            | inl there ↦ leads last notes (with_woken comes note) note.owner (or_left (comes note.owner) (comes note.owner && wakes_actor note note.owner) owner) there
            | inr woken ↦
                let (p, among, there) = one_of (λ q. leading last notes (Process q)) note.woken woken in
                leads last notes (with_woken comes note) (Process p)
                (or_right (comes (Process p)) (comes note.owner && contains note.woken p) (and_both (comes note.owner) (contains note.woken p) owner among)) there
          ]
    ]

-- of a noted step, a later one comes, if it leads to it
begins_leads : (note : NoteView) (last : LooseTransition) (notes : List NoteView) → is_of_any (leading last notes) note ≡ true → after (begins note) notes last ≡ true
begins_leads note last notes h =
    elim (or_cases (leading last notes note.owner) (list_any (λ p. leading last notes (Process p)) note.woken) h) [
      | inl own ↦
          leads last notes (begins note) note.owner
          (or_left (is_same note.owner note.owner) (wakes_actor note note.owner) (leading_actor last notes note.owner own)) own
      | inr woken ↦
          let (p, among, there) = one_of (λ q. leading last notes (Process q)) note.woken woken in
          leads last notes (begins note) (Process p) (or_right (is_same note.owner (Process p)) (contains note.woken p) among) there
    ]

-- one note more

one_more : (first : NoteView) (comes : LooseTransition → Bool) (notes : List NoteView) (last : NoteView) → ComeOrAreApart first comes notes
    → (after comes notes last.owner ≡ false → SayApart first last) → ComeOrAreApart first comes (notes ++ last ∷ [])
one_more first comes [] last each own = (own, tt)
one_more first comes (note ∷ notes) last (here, each) own = (here, one_more first (with_woken comes note) notes last each own)

pub ordered_more : (notes : List NoteView) (last : NoteView) → AreOrdered notes → last.finishes ≡ false → ComesOrIsApart notes last → AreOrdered (notes ++ last ∷ [])
ordered_more [] last ordered free each = (free, tt, tt)
ordered_more (note ∷ notes) last (ends, later, ordered) free (here, each) =
    let own : after (begins note) notes last.owner ≡ false → SayApart note last =
    λ never. here (elim (is_or_not (is_of_any (leading last.owner notes) note)) [
      | inl is ↦ absurd (true≢false (sym (begins_leads note last.owner notes is) ∙ never))
      | inr none ↦ none
    ]) in
    (ends, one_more note (begins note) notes last later own, ordered_more notes last ordered free each)

-- and back

wakes_is_actor : (note : NoteView) (a : LooseTransition) → wakes_actor note a ≡ true → is_same a a ≡ true
wakes_is_actor note (Process p) h = same_number p
wakes_is_actor note (FirstOf c) h = cc
wakes_is_actor note (Change e) h = cc

begins_actors : (note : NoteView) (a : LooseTransition) → begins note a ≡ true → is_same a a ≡ true
begins_actors note a h =
    elim (or_cases (is_same note.owner a) (wakes_actor note a) h) [
      | inl own ↦ same_second note.owner a own
      | inr woken ↦ wakes_is_actor note a woken
    ]

with_actors : (comes : LooseTransition → Bool) (note : NoteView) → ((a : LooseTransition) → comes a ≡ true → is_same a a ≡ true) → (a : LooseTransition) → with_woken comes note a ≡ true → is_same a a ≡ true
with_actors comes note actors a h =
    elim (or_cases (comes a) (comes note.owner && wakes_actor note a) h) [
      | inl before ↦ actors a before
      | inr woken ↦ wakes_is_actor note a (and_parts (comes note.owner) (wakes_actor note a) woken).1
    ]

woken_leads : (has : LooseTransition → Bool) (note : NoteView) (a : LooseTransition) → wakes_actor note a ≡ true → has a ≡ true → list_any (λ p. has (Process p)) note.woken ≡ true
woken_leads has note (Process p) h there =
    let (q, among, is) = any_at (λ q. q == p) note.woken h in
    any_in (λ q. has (Process q)) note.woken q among (subst (λ z. has (Process z) ≡ true) (sym (eqb-true q p is)) there)
woken_leads has note (FirstOf c) h there = cc
woken_leads has note (Change e) h there = cc

after_back : (last : LooseTransition) (notes : List NoteView) (comes : LooseTransition → Bool) → ((a : LooseTransition) → comes a ≡ true → is_same a a ≡ true) → after comes notes last ≡ true
    → (a : LooseTransition) × (comes a ≡ true) × (leading last notes a ≡ true)
after_back last [] comes actors h = (last, h, actors last h)
after_back last (note ∷ notes) comes actors h =
    let (a, there, lead) = after_back last notes (with_woken comes note) (with_actors comes note actors) h in
    elim (or_cases (comes a) (comes note.owner && wakes_actor note a) there) [
      | inl before ↦ (a, before, or_left (leading last notes a) (is_of_any (leading last notes) note && is_same note.owner a) lead)
      | inr woken ↦
          let (own, wakes) = and_parts (comes note.owner) (wakes_actor note a) woken in
          let any : is_of_any (leading last notes) note ≡ true =
          or_right (leading last notes note.owner) (list_any (λ p. leading last notes (Process p)) note.woken) (woken_leads (leading last notes) note a wakes lead) in (
            note.owner,
            own,
            or_right (leading last notes note.owner) (is_of_any (leading last notes) note && is_same note.owner note.owner)
                (and_both (is_of_any (leading last notes) note) (is_same note.owner note.owner) any (actors note.owner own)),
          )
    ]

-- a later step leads to a noted one, if it comes of it
leads_back : (note : NoteView) (last : LooseTransition) (notes : List NoteView) → after (begins note) notes last ≡ true → is_of_any (leading last notes) note ≡ true
leads_back note last notes h =
    let (a, there, lead) = after_back last notes (begins note) (begins_actors note) h in
    elim (or_cases (is_same note.owner a) (wakes_actor note a) there) [
      | inl own ↦
          or_left (leading last notes note.owner) (list_any (λ p. leading last notes (Process p)) note.woken)
          (subst (λ z. leading last notes z ≡ true) (sym (same_is note.owner a own)) lead)
      | inr woken ↦ or_right (leading last notes note.owner) (list_any (λ p. leading last notes (Process p)) note.woken) (woken_leads (leading last notes) note a woken lead)
    ]

one_less : (first : NoteView) (comes : LooseTransition → Bool) (notes : List NoteView) (last : NoteView) → ComeOrAreApart first comes (notes ++ last ∷ [])
    → ComeOrAreApart first comes notes × (after comes notes last.owner ≡ false → SayApart first last)
one_less first comes [] last (own, none) = (tt, own)
one_less first comes (note ∷ notes) last (here, each) =
    let (rest, own) = one_less first (with_woken comes note) notes last each in
    ((here, rest), own)

pub ordered_less : (notes : List NoteView) (last : NoteView) → AreOrdered (notes ++ last ∷ []) → AreOrdered notes × (last.finishes ≡ false) × ComesOrIsApart notes last
ordered_less [] last (free, each, none) = (tt, free, tt)
ordered_less (note ∷ notes) last (ends, later, ordered) =
    let (rest, free, each) = ordered_less notes last ordered in
    let (first, own) = one_less note (begins note) notes last later in
    let here : is_of_any (leading last.owner notes) note ≡ false → SayApart note last =
    λ none. own (false_by (after (begins note) notes last.owner) (is_of_any (leading last.owner notes) note) (leads_back note last.owner notes) none) in
    ((ends, first, rest), free, (here, each))

-- what the steps themselves say

module _ (class : ℕ → ℕ) (design : Design) where
  abbrev moves : Moves OrderedState LooseTransition Footprint
  moves = loose_moves class design

  wider : (f : Footprint) (Comes Others : LooseTransition → Type 0) (w : List (LooseTransition × Footprint)) → ((a : LooseTransition) → Comes a → Others a)
      → EachComesOrIsApart moves f Comes w → EachComesOrIsApart moves f Others w
  wider f Comes Others [] more each = tt
  wider f Comes Others (x ∷ w) more (inl (comes, later)) =
      inl (more x.0 comes, wider f (λ b. Comes b ⊎ GivesTo x.1 b) (λ b. Others b ⊎ GivesTo x.1 b) w (λ a. λ h. elim h [ inl is ↦ inl (more a is) | inr given ↦ inr given ]) later)
  wider f Comes Others (x ∷ w) more (inr (apart, later)) = inr (apart, wider f Comes Others w more later)

  given_by : (note : NoteView) (f : Footprint) → TellsOf note f → (a : LooseTransition) → wakes_actor note a ≡ true → GivesTo f a
  given_by note f tells (Process p) h = (p, refl, tells.woken p ∙ h)
  given_by note f tells (FirstOf c) h = cc
  given_by note f tells (Change e) h = cc

  abbrev Each : Footprint → (LooseTransition → Bool) → List (LooseTransition × Footprint) → Type 0
  Each f comes w = EachComesOrIsApart moves f (λ a. comes a ≡ true) w

  each_after : (f g : Footprint) (note : NoteView) (comes : LooseTransition → Bool) (w : List (LooseTransition × Footprint)) → TellsOf note g → Each f (with_woken comes note) w
      → (comes note.owner ≡ true → EachComesOrIsApart moves f (λ a. (comes a ≡ true) ⊎ GivesTo g a) w) × (comes note.owner ≡ false → Each f comes w)
  each_after f g note comes w tells each = (
    (λ is. wider f (λ a. with_woken comes note a ≡ true) (λ a. (comes a ≡ true) ⊎ GivesTo g a) w
        (λ a. λ h. elim (or_cases (comes a) (comes note.owner && wakes_actor note a) h) [
          | inl before ↦ inl before
          | inr woken ↦ inr (given_by note g tells a (and_parts (comes note.owner) (wakes_actor note a) woken).1)
        ]) each),
    (λ none. wider f (λ a. with_woken comes note a ≡ true) (λ a. comes a ≡ true) w
        (λ a. λ h. elim (or_cases (comes a) (comes note.owner && wakes_actor note a) h) [
          | inl before ↦ before
          | inr woken ↦ absurd (true≢false (sym (and_parts (comes note.owner) (wakes_actor note a) woken).0 ∙ none))
        ]) each),
  )

  each_of : (first : NoteView) (f : Footprint) → TellsOf first f → (comes : LooseTransition → Bool) (notes : List NoteView) (w : List (LooseTransition × Footprint)) → TellOfAll notes w → ComeOrAreApart first comes notes → Each f comes w
  each_of first f tells comes [] [] all each = tt
  each_of first f tells comes [] (x ∷ w) all each = absurd all
  each_of first f tells comes (note ∷ notes) [] all each = absurd all
  each_of first f tells comes (note ∷ notes) (x ∷ w) (own, told, all) (here, each) =
      let later : Each f (with_woken comes note) w = each_of first f tells (with_woken comes note) notes w all each in
      let (coming, not_coming) = each_after f x.1 note comes w told later in
      elim (is_or_not (comes note.owner)) [
        | inl is ↦ inl (subst (λ z. comes z ≡ true) (sym own) is, coming is)
        | inr none ↦ inr (said_stands first note (here none) f x.1 tells told, not_coming none)
      ]

  begun : (note : NoteView) (f : Footprint) (a : LooseTransition) → TellsOf note f → a ≡ note.owner → (b : LooseTransition) → begins note b ≡ true → (b ≡ a) ⊎ GivesTo f b
  begun note f a tells own b h =
      elim (or_cases (is_same note.owner b) (wakes_actor note b) h) [
        | inl same ↦ inl (sym (same_is note.owner b same) ∙ sym own)
        | inr woken ↦ inr (given_by note f tells b woken)
      ]

  pub ordered_certify : (notes : List NoteView) (w : List (LooseTransition × Footprint)) → TellOfAll notes w → AreOrdered notes → AreCertified class design w
  ordered_certify [] [] all ordered = tt
  ordered_certify [] (x ∷ w) all ordered = absurd all
  ordered_certify (note ∷ notes) [] all ordered = absurd all
  ordered_certify (note ∷ notes) (x ∷ w) (own, told, all) (ends, later, ordered) = (
    (λ over. true≢false (sym over ∙ told.finishes ends)),
    wider x.1 (λ a. begins note a ≡ true) (λ b. (b ≡ x.0) ⊎ GivesTo x.1 b) w (begun note x.1 x.0 told own) (each_of note x.1 told (begins note) notes w all later),
    ordered_certify notes w all ordered,
  )

pub ordered_certifies : (notes : List NoteView) → AreOrdered notes → Certify notes
ordered_certifies notes ordered class design w all = ordered_certify class design notes w all ordered
