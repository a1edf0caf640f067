-- What stands for all that some actors do, put together from first steps and from parts.
use Rattle.std.proofs.Common.{◌≡◌, ◌⊎◌, ℕ, true, false, List, [], ◌∷◌, ◌++◌, Some, map, inl, inr, refl, sym, ap, subst, ◌∙◌, append-nil}
use Rattle.std.specs.List.{All, Contains}
use Rattle.std.proofs.lemmas.List.{map-append}
use Rattle.std.proofs.lemmas.List.Elements.{All-head, All-tail, All-contains, Contains-append_left, Contains-append_right, Contains-append_cases}
use Rattle.model.specs.Design.{Design}
use Rattle.model.specs.States.{Action, Evaluate, State}
use Rattle.orders.specs.Alike.{IsInOrder}
use Rattle.loose.specs.declared.transition.LooseTransition.{LooseTransition}
use Rattle.loose.specs.declared.transition.LooseTransition.TheVariants.{Process, FirstOf}
use Rattle.loose.specs.Loose.{AlikeIn, loose_transition_of_action}
use Rattle.loose.proofs.ClassStates.{states_in-same, states_in-sym}
use Rattle.traces.specs.Traces.{Moves, AreMoves}
use Rattle.traces.specs.StandsFor.{FoundOfSet, StandsFor, IncludesFoundAfter, IsActorFollowed}
use Rattle.traces.proofs.RunLaws.{alike_runs}
use Rattle.traces.proofs.Branches.{steps_stand_for}
use Rattle.traces.proofs.LargerSets.{larger_sets}
use Rattle.footprints.specs.Footprints.{Footprint, AreApart}
use Rattle.footprints.specs.Moves.{OrderedState, IsWaiting, IsMove, loose_moves}
use Rattle.footprints.proofs.StepsApart.{apart_is_symmetric}
use Rattle.footprints.proofs.LooseMoves.{loose_steps_are_moves}
use Rattle.certificates.specs.Notes.{NoteView, TellsOf}
use Rattle.certificates.specs.Coming.{wakes_actor, is_same}
use Rattle.certificates.specs.Apart.{SayApart}
use Rattle.certificates.proofs.Telling.{said_stands}
use Rattle.certificates.proofs.Tests.{never_true, or_left, or_right, same_number}
use Rattle.certifiedruns.specs.CertifiedCover.{actors_of}
use Rattle.looseparts.specs.StandTogether.{concern, IsTold, EndsBy, StandTogether, GoesOnTogether, IsFollowedFirst}
use Rattle.looseparts.specs.PartLaws.{FollowedStand, SayAllApart, HaveEachBehind, ApartStand}
use Rattle.looseparts.proofs.Lists.{contains_here, contains_later, contains_none, contains_split, contains_mapped, mapped_at}
use Rattle.looseparts.proofs.AlikeStarts.{stands_alike}
use Rattle.looseparts.proofs.TwoParts.{AreTwo, two_stand}
use Rattle.looseparts.proofs.Notes.{concerned_by, concerned_at, concern_more, concern_either, concern_left, concern_right, given_told, apart_not_both}

-- who waits is the same as himself

same_inside : (a b : LooseTransition) → Some a ≡ Some b → a ≡ b
same_inside a b h = cc

actor_same : (class : ℕ → ℕ) (action : Action) (a : LooseTransition) → loose_transition_of_action class (Some action) ≡ Some a → is_same a a ≡ true
actor_same class (Evaluate p) a own = subst (λ z. is_same z z ≡ true) (same_inside (Process p) a own) (same_number p)
actor_same class (Action.Update r v) a own = subst (λ z. is_same z z ≡ true) (same_inside (FirstOf (class r)) a own) (same_number (class r))

waiting_same : (class : ℕ → ℕ) (s : State) (a : LooseTransition) → IsWaiting class s a → is_same a a ≡ true
waiting_same class s a (number, action, is, own) = actor_same class action a own

module _ (class : ℕ → ℕ) (design : Design) where
  abbrev moves : Moves OrderedState LooseTransition Footprint
  moves = loose_moves class design

  laws : AreMoves moves
  laws = loose_steps_are_moves class design

  -- first steps

  module _ (s : State) (order : IsInOrder s) (group : List LooseTransition) (ways ends : List (List LooseTransition)) (notes : List NoteView) where
    abbrev First : LooseTransition → Type 0
    First a = IsFollowedFirst class design s group ways ends notes a

    abbrev Step : Type 0
    Step = LooseTransition × Footprint

    abbrev On : (a : LooseTransition) → NoteView → Footprint → State → Type 0
    On a note own after =
        ((own.finishes ≡ true) × (after.finished ≡ true) × Contains ends (a ∷ [])) ⊎ ((own.finishes ≡ false) × GoesOnTogether class design group note after ways ends notes a)

    -- the ways and the texts that were found behind a step
    abbrev Behind : (a : LooseTransition) (note : NoteView) (own : Footprint) (after : State) → On a note own after → List (List Step)
    Behind a note own after (inl ended) = []
    Behind a note own after (inr on) = on.1.stand.found.ways

    abbrev TextsBehind : (a : LooseTransition) (note : NoteView) (own : Footprint) (after : State) → On a note own after → List (List ℕ)
    TextsBehind a note own after (inl ended) = []
    TextsBehind a note own after (inr on) = on.1.stand.found.texts

    -- the texts of an actor who steps first
    abbrev OwnTexts : (a : LooseTransition) (note : NoteView) (own : Footprint) (after : State) → On a note own after → List (List ℕ)
    OwnTexts a note own after (inl ended) = own.lines ∷ []
    OwnTexts a note own after (inr on) = map (λ text. own.lines ++ text) on.1.stand.found.texts

    abbrev AreWays : List (List Step) → Type 0
    AreWays all = (w : List Step) → Contains all w → Contains ways (actors_of w)

    abbrev AreEnds : List (List ℕ) → Type 0
    AreEnds texts = (text : List ℕ) → Contains texts text → EndsBy class design (s, order) ends text

    -- the ways and the texts that were found behind the first step of an actor are among these, with it before them
    abbrev Leads : (a : LooseTransition) → First a → List (List Step) → Type 0
    Leads a d all = (w : List Step) → Contains (Behind a d.note d.own d.after d.on) w → Contains all ((a, d.own) ∷ w)

    abbrev Prints : (a : LooseTransition) → First a → List (List ℕ) → Type 0
    Prints a d texts =
        (d.own.finishes ≡ true → Contains texts d.own.lines) × ((text : List ℕ) → Contains (TextsBehind a d.note d.own d.after d.on) text → Contains texts (d.own.lines ++ text))

    abbrev Gathered : List LooseTransition → Type 0
    Gathered actors =
        (all : List (List Step)) × (texts : List (List ℕ)) × ((a : LooseTransition) → Contains actors a → (d : First a) × Leads a d all × Prints a d texts) × AreWays all
        × AreEnds texts

    are_ways : (a : LooseTransition) (note : NoteView) (own : Footprint) (after : State) (on : On a note own after) → AreWays (map (λ (w : List Step). (a, own) ∷ w) (Behind a note own after on))
    are_ways a note own after (inl ended) w there = absurd (contains_none w there)
    are_ways a note own after (inr on) w there =
        let (y, among, is) = mapped_at (λ (w : List Step). (a, own) ∷ w) on.1.stand.found.ways w there in
        subst (λ z. Contains ways (actors_of z)) is (on.1.ways_on (actors_of y) (on.1.stand.ways_are y among))

    -- a way to an end from what is like the state after a step is one behind that step
    ends_behind : (a : LooseTransition) (note : NoteView) (own : Footprint) (after : State) (after_order : IsInOrder after) → IsMove class design s a own after → (on : GoesOnTogether class design group note after ways ends notes a) (text : List ℕ)
        → EndsBy class design (on.near, on.stand.order) on.more_ends text → EndsBy class design (s, order) ends (own.lines ++ text)
    ends_behind a note own after after_order step on text (w, u, run, finished, prints, there) =
        let here : OrderedState = (after, after_order) in
        let (v, run', near) = alike_runs OrderedState LooseTransition Footprint moves laws (on.near, on.stand.order) here u w (states_in-sym class after on.near on.alike) run in
        ((a, own) ∷ w, v, (here, step, run'), sym near.finished ∙ finished, ap (λ z. own.lines ++ z) prints, on.ends_on (actors_of w) there)

    are_ends : (a : LooseTransition) (note : NoteView) (own : Footprint) (after : State) (after_order : IsInOrder after) → IsMove class design s a own after → (on : On a note own after) → AreEnds (OwnTexts a note own after on)
    are_ends a note own after after_order step (inl ended) text there =
        elim (contains_split text own.lines [] there) [
          | inl is ↦
              let here : OrderedState = (after, after_order) in
              ((a, own) ∷ [], here, (here, step, refl), ended.1, append-nil own.lines ∙ is, ended.2)
          | inr later ↦ absurd (contains_none text later)
        ]
    are_ends a note own after after_order step (inr on) text there =
        let (y, among, is) = mapped_at (λ (z : List ℕ). own.lines ++ z) on.1.stand.found.texts text there in
        subst (λ z. EndsBy class design (s, order) ends z) is (ends_behind a note own after after_order step on.1 y (on.1.stand.ends_are y among))

    own_prints : (a : LooseTransition) (note : NoteView) (own : Footprint) (after : State) (on : On a note own after)
        → (own.finishes ≡ true → Contains (OwnTexts a note own after on) own.lines) × ((text : List ℕ) → Contains (TextsBehind a note own after on) text → Contains (OwnTexts a note own after on) (own.lines ++ text))
    own_prints a note own after (inl ended) = ((λ is. contains_here own.lines []), (λ text there. absurd (contains_none text there)))
    own_prints a note own after (inr on) = (
      (λ is. absurd (never_true own.finishes is on.0)),
      (λ text there. contains_mapped (λ (z : List ℕ). own.lines ++ z) on.1.stand.found.texts text there),
    )

    gathered : (actors : List LooseTransition) → All First actors → Gathered actors
    gathered [] each = ([], [], (λ a there. absurd (contains_none a there)), (λ w there. absurd (contains_none w there)), (λ text there. absurd (contains_none text there)))
    gathered (a ∷ actors) each =
        let d : First a = All-head First a actors each in
        let (all, texts, leads, are, are') = gathered actors (All-tail First a actors each) in
        let own : List (List Step) = map (λ (w : List Step). (a, d.own) ∷ w) (Behind a d.note d.own d.after d.on) in
        let own' : List (List ℕ) = OwnTexts a d.note d.own d.after d.on in
        let prints = own_prints a d.note d.own d.after d.on in (
          own ++ all,
          own' ++ texts,
          (λ b there.
              elim (contains_split b a actors there) [
                | inl is ↦
                    subst (λ z. (e : First z) × Leads z e (own ++ all) × Prints z e (own' ++ texts)) is (
                      d,
                      (λ w among. Contains-append_left own all ((a, d.own) ∷ w) (contains_mapped (λ (w : List Step). (a, d.own) ∷ w) (Behind a d.note d.own d.after d.on) w among)),
                      ((λ ended. Contains-append_left own' texts d.own.lines (prints.0 ended)), (λ text among. Contains-append_left own' texts (d.own.lines ++ text) (prints.1 text among))),
                    )
                | inr later ↦
                    let (e, lead, print) = leads b later in (
                      e,
                      (λ w among. Contains-append_right own all ((b, e.own) ∷ w) (lead w among)),
                      ((λ ended. Contains-append_right own' texts e.own.lines (print.0 ended)), (λ text among. Contains-append_right own' texts (e.own.lines ++ text) (print.1 text among))),
                    )
              ]),
          (λ w there.
              elim (Contains-append_cases own all w there) [
                | inl first ↦ are_ways a d.note d.own d.after d.on w first
                | inr second ↦ are w second
              ]),
          (λ text there.
              elim (Contains-append_cases own' texts text there) [
                | inl first ↦ are_ends a d.note d.own d.after d.after_order d.steps d.on text first
                | inr second ↦ are' text second
              ]),
        )

    -- what was found after a step, and stands for all of the larger set
    module _ (all : List (List Step)) (texts : List (List ℕ)) (closed : (a : LooseTransition) → IsWaiting class s a → concern notes a ≡ true → Contains group a) where
      abbrev found : FoundOfSet LooseTransition Footprint (List NoteView)
      found = record { ways = all; texts = texts; summary = notes }

      waiting_after : (a b : LooseTransition) (note : NoteView) (own : Footprint) (after : State) (after_order : IsInOrder after) → IsMove class design s a own after → TellsOf note own → concern notes b ≡ true → IsWaiting class after b
          → Contains group b ⊎ (wakes_actor note b ≡ true)
      waiting_after a b note own after after_order step tells among waits =
          elim (laws.given (s, order) (after, after_order) a b own step waits) [
            | inl before ↦ inl (closed b before among)
            | inr gives ↦ inr (given_told note own b tells gives)
          ]

      stands_after : (a : LooseTransition) (note : NoteView) (own : Footprint) (after : State) (after_order : IsInOrder after) (on : GoesOnTogether class design group note after ways ends notes a) → IsMove class design s a own after → TellsOf note own
          → StandsFor moves (λ f told. IsTold f told) (concern notes) (after, after_order) on.stand.found
      stands_after a note own after after_order on step tells =
          let there : OrderedState = (on.near, on.stand.order) in
          let here : OrderedState = (after, after_order) in
          let alike : AlikeIn class on.near after = states_in-sym class after on.near on.alike in
          let alone : StandsFor moves (λ f told. IsTold f told) (concern on.more_notes) here on.stand.found =
          stands_alike OrderedState LooseTransition Footprint (List NoteView) moves (λ f told. IsTold f told) laws (concern on.more_notes) on.stand.found there here alike on.stand.stands in
          larger_sets moves (λ f told. IsTold f told) (concern on.more_notes) (concern notes) here on.stand.found laws (λ b own'. concern_more on.more_notes notes b on.notes_on own')
          (λ b among waits. on.all b (laws.waits_alike here there b on.alike waits) (waiting_after a b note own after after_order step tells among waits)) alone

      continued : (a : LooseTransition) (note : NoteView) (own : Footprint) (after : State) (on : GoesOnTogether class design group note after ways ends notes a) → ((w : List Step) → Contains on.stand.found.ways w → Contains all ((a, own) ∷ w))
          → ((text : List ℕ) → Contains on.stand.found.texts text → Contains texts (own.lines ++ text)) → IncludesFoundAfter moves (λ f told. IsTold f told) a own on.stand.found found
      continued a note own after on leads prints =
          record {
            summary = λ h told.
                let (n, there, tells) = on.stand.told h told in
                (n, on.notes_on n there, tells);
            ways = leads;
            texts = prints;
          }

      goes_by : (a : LooseTransition) (note : NoteView) (own : Footprint) (after : State) (after_order : IsInOrder after) (on : On a note own after) → IsMove class design s a own after → TellsOf note own
          → ((w : List Step) → Contains (Behind a note own after on) w → Contains all ((a, own) ∷ w)) → ((text : List ℕ) → Contains (TextsBehind a note own after on) text → Contains texts (own.lines ++ text)) → (own.finishes ≡ true → ⊥)
          → (later : FoundOfSet LooseTransition Footprint (List NoteView)) × StandsFor moves (λ f told. IsTold f told) (concern notes) (after, after_order) later × IncludesFoundAfter moves (λ f told. IsTold f told) a own later found
      goes_by a note own after after_order (inl ended) step tells leads prints free = absurd (free ended.0)
      goes_by a note own after after_order (inr on) step tells leads prints free =
          (on.1.stand.found, stands_after a note own after after_order on.1 step tells, continued a note own after on.1 leads prints)

      is_followed : (a : LooseTransition) (d : First a) → Leads a d all → Prints a d texts → IsActorFollowed moves (λ f told. IsTold f told) (concern notes) (s, order) found a
      is_followed a d leads prints = (
        d.own,
        (d.after, d.after_order),
        d.steps,
        (d.note, d.there, d.tells),
        (λ b gives. concerned_by notes d.note b d.there (or_right (is_same d.note.owner b) (wakes_actor d.note b) (given_told d.note d.own b d.tells gives))),
        (λ ended. prints.0 ended),
        (λ free. goes_by a d.note d.own d.after d.after_order d.on d.steps d.tells leads prints.1 free),
      )

    pub owner_same : (a : LooseTransition) (d : First a) → concern notes a ≡ true
    owner_same a d =
        let (entry, x, step, owner, leads) = d.steps in
        let waits : IsWaiting class s a = laws.waiting (s, order) (d.after, d.after_order) a d.own d.steps in
        let same : d.note.owner ≡ a = sym d.tells.owner ∙ owner in
        concerned_by notes d.note a d.there (or_left (is_same d.note.owner a) (wakes_actor d.note a) (subst (λ z. is_same z a ≡ true) (sym same) (waiting_same class s a waits)))

    followed_by : (actors : List LooseTransition) → actors ≡ group → All First group → ((a : LooseTransition) → IsWaiting class s a → concern notes a ≡ true → Contains group a) → (group ≡ [] → Contains ways []) → StandTogether class design s ways ends notes
    followed_by [] is each closed empty =
        let all : List (List Step) = [] ∷ [] in
        record {
          order = order;
          found = found all [] closed;
          stands = steps_stand_for moves (λ f told. IsTold f told) (concern notes) (s, order) (found all [] closed) laws
              (λ a own waits. absurd (contains_none a (subst (λ z. Contains z a) (sym is) (closed a waits own)))) (λ nobody. contains_here [] []);
          told = λ f told. told;
          ways_are = λ w there. elim (contains_split w [] [] there) [
            | inl none ↦ subst (λ z. Contains ways (actors_of z)) none (empty (sym is))
            | inr later ↦ absurd (contains_none w later)
          ];
          ends_are = λ text there. absurd (contains_none text there);
        }
    followed_by (b ∷ actors) is each closed empty =
        let (all, texts, leads, are, are') = gathered group each in
        let here : Contains group b = subst (λ z. Contains z b) is (contains_here b actors) in
        let first : First b = (leads b here).0 in
        record {
          order = order;
          found = found all texts closed;
          stands = steps_stand_for moves (λ f told. IsTold f told) (concern notes) (s, order) (found all texts closed) laws
              (λ a own waits. let (d, lead, print) = leads a (closed a waits own) in is_followed all texts closed a d lead print)
              (λ nobody. absurd (nobody b (owner_same b first) (laws.waiting (s, order) (first.after, first.after_order) b first.own first.steps)));
          told = λ f told. told;
          ways_are = are;
          ends_are = are';
        }

pub followed_stand : FollowedStand
followed_stand class design s group ways ends notes order each closed empty = followed_by class design s order group ways ends notes group refl each closed empty

-- parts

abbrev products : {X : Type 0} → List (List X) → List (List X) → List (List X)
products [] ys = []
products (x ∷ xs) ys = map (λ y. x ++ y) ys ++ products xs ys

product_there : {X : Type 0} (xs ys : List (List X)) (x y : List X) → Contains xs x → Contains ys y → Contains (products xs ys) (x ++ y)
product_there {X} [] ys x y there there' = absurd (contains_none x there)
product_there {X} (z ∷ xs) ys x y there there' =
    elim (contains_split x z xs there) [
      | inl is ↦ Contains-append_left (map (λ (y : List X). z ++ y) ys) (products xs ys) (x ++ y)
          (subst (λ (q : List X). Contains (map (λ (y : List X). z ++ y) ys) (q ++ y)) is (contains_mapped (λ (y : List X). z ++ y) ys y there'))
      | inr later ↦ Contains-append_right (map (λ (y : List X). z ++ y) ys) (products xs ys) (x ++ y) (product_there xs ys x y later there')
    ]

abbrev IsProduct : {X : Type 0} → List (List X) → List (List X) → List X → Type 0
IsProduct {X} xs ys w = (x : List X) × (y : List X) × Contains xs x × Contains ys y × (x ++ y ≡ w)

product_at : {X : Type 0} (xs ys : List (List X)) (w : List X) → Contains (products xs ys) w → IsProduct xs ys w
product_at {X} [] ys w there = absurd (contains_none w there)
product_at {X} (z ∷ xs) ys w there =
    elim (Contains-append_cases (map (λ (y : List X). z ++ y) ys) (products xs ys) w there) [
      | inl first ↦ let (y, among, is) = mapped_at (λ (y : List X). z ++ y) ys w first in (z, y, contains_here z xs, among, is)
      | inr second ↦ let (x, y, among, among', is) = product_at xs ys w second in (x, y, contains_later x z xs among, among', is)
    ]

module _ (class : ℕ → ℕ) (design : Design) (s : State) (ones others ways ends more : List (List LooseTransition)) (notes further : List NoteView)
    (h : StandTogether class design s ones ends notes) (k : StandTogether class design s others more further) (apart : SayAllApart notes further) (each : HaveEachBehind ones others ways) where
  abbrev both : FoundOfSet LooseTransition Footprint (List NoteView)
  both = record { ways = products h.found.ways k.found.ways; texts = h.found.texts ++ k.found.texts; summary = notes ++ further }

  said_apart : (n m : NoteView) → Contains notes n → Contains further m → SayApart n m
  said_apart n m there there' = All-contains (SayApart n) further m (All-contains (λ note. All (SayApart note) further) notes n apart there) there'

  are_apart : (f g : Footprint) → IsTold f h.found.summary → IsTold g k.found.summary → AreApart f g
  are_apart f g told told' =
      let (n, there, tells) = h.told f told in
      let (m, there', tells') = k.told g told' in
      said_stands n m (said_apart n m there there') f g tells tells'

  not_concerned_both : (a : LooseTransition) → concern notes a ≡ true → concern further a ≡ true → ⊥
  not_concerned_both a one other =
      let (n, there, is) = concerned_at notes a one in
      let (m, there', is') = concerned_at further a other in
      apart_not_both n m a (said_apart n m there there') is is'

  are_two : AreTwo (moves class design) (λ f told. IsTold f told) (concern notes) (concern further) (concern (notes ++ further)) (s, h.order) h.found k.found both
  are_two =
      record {
        of_one = h.stands;
        of_other = stands_alike OrderedState LooseTransition Footprint (List NoteView) (moves class design) (λ f told. IsTold f told) (laws class design) (concern further) k.found (s, k.order) (s, h.order) (states_in-same class s) k.stands;
        first_own = λ a own. concern_left notes further a own;
        second_own = λ a own. concern_right notes further a own;
        either = λ a own. concern_either notes further a own;
        not_both = not_concerned_both;
        apart = are_apart;
        apart_back = λ f g told told'. apart_is_symmetric g f (are_apart g f told' told);
        first_within = λ f told. let (n, there, tells) = h.told f told in (n, Contains-append_left notes further n there, tells);
        second_within = λ f told. let (n, there, tells) = k.told f told in (n, Contains-append_right notes further n there, tells);
        first_texts = λ text there. Contains-append_left h.found.texts k.found.texts text there;
        second_texts = λ text there. Contains-append_right h.found.texts k.found.texts text there;
        ways = λ x y there there'.
            subst (λ z. Contains (products h.found.ways k.found.ways) (x ++ z)) (sym (append-nil y)) (product_there h.found.ways k.found.ways x y there there');
      }

  way_is : (w : List (LooseTransition × Footprint)) → Contains (products h.found.ways k.found.ways) w → Contains ways (actors_of w)
  way_is w there =
      let (x, y, among, among', is) = product_at h.found.ways k.found.ways w there in
      subst (λ z. Contains ways (actors_of z)) is
      (subst (λ z. Contains ways z) (sym (map-append (λ (x : LooseTransition × Footprint). x.0) x y)) (each (actors_of x) (actors_of y) (h.ways_are x among) (k.ways_are y among')))

  first_ends : (text : List ℕ) → EndsBy class design (s, h.order) ends text → EndsBy class design (s, h.order) (ends ++ more) text
  first_ends text (w, u, run, finished, prints, there) = (w, u, run, finished, prints, Contains-append_left ends more (actors_of w) there)

  second_ends : (text : List ℕ) → EndsBy class design (s, k.order) more text → EndsBy class design (s, h.order) (ends ++ more) text
  second_ends text (w, u, run, finished, prints, there) =
      let (v, run', near) = alike_runs OrderedState LooseTransition Footprint (moves class design) (laws class design) (s, k.order) (s, h.order) u w (states_in-same class s) run in
      (w, v, run', sym near.finished ∙ finished, prints, Contains-append_right ends more (actors_of w) there)

  ends_of : (text : List ℕ) → Contains (h.found.texts ++ k.found.texts) text → EndsBy class design (s, h.order) (ends ++ more) text
  ends_of text there =
      elim (Contains-append_cases h.found.texts k.found.texts text there) [
        | inl first ↦ first_ends text (h.ends_are text first)
        | inr second ↦ second_ends text (k.ends_are text second)
      ]

  together : StandTogether class design s ways (ends ++ more) (notes ++ further)
  together =
      record {
        order = h.order;
        found = both;
        stands = two_stand OrderedState LooseTransition Footprint (List NoteView) (moves class design) (λ f told. IsTold f told) (laws class design) (concern notes) (concern further) (concern (notes ++ further)) (s, h.order) h.found k.found both are_two;
        told = λ f told. told;
        ways_are = way_is;
        ends_are = ends_of;
      }

pub apart_stand : ApartStand
apart_stand class design s ones others ways ends more notes further h k apart each = together class design s ones others ways ends more notes further h k apart each
