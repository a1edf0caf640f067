-- What is found of groups of actors stands for all.
use Rattle.std.proofs.Common.{◌≡◌, ◌≢◌, ◌⊎◌, ℕ, ◌+◌, ◌<◌, Bool, true, false, List, [], ◌∷◌, ◌++◌, map, take, length, get_or, inl, inr, Result, Ok, Err, refl, sym, ap, subst, ◌∙◌}
use Rattle.std.specs.List.{All, Contains}
use Rattle.std.specs.Prelude.{IfOk}
use Rattle.std.specs.Global.{Vec}
use Rattle.std.proofs.lemmas.List.{map-append}
use Rattle.std.proofs.lemmas.List.Elements.{All-nil, All-more, All-weaker, All-contains, Contains-append_left, Contains-append_right}
use Rattle.model.specs.declared.end.Limits.{Limits}
use Rattle.model.specs.Design.{Design}
use Rattle.model.specs.States.{State}
use Rattle.model.specs.Runs.{HasLongTurn}
use Rattle.orders.specs.Alike.{IsInOrder}
use Rattle.design.specs.Compiled.{Compiled, design_of}
use Rattle.regions.specs.Machine.{MachineView, state_at}
use Rattle.loose.specs.declared.transition.LooseTransition.{LooseTransition}
use Rattle.footprints.specs.Footprints.{Footprint}
use Rattle.footprints.specs.Moves.{IsWaiting}
use Rattle.certificates.specs.Notes.{NoteView}
use Rattle.certificates.specs.Coming.{wakes_actor}
use Rattle.looseparts.specs.declared.found.PartFindings.{PartFindings}
use Rattle.looseparts.specs.declared.found.FoundPart.{FoundPart}
use Rattle.looseparts.specs.StandTogether.{concern, StandTogether, GoesOnTogether, IsFollowedFirst}
use Rattle.looseruns.specs.ObservedEnding.{CoverToFinish}
use Rattle.looseparts.specs.FoundWays.{ways_in}
use Rattle.looseparts.specs.FoundParts.{AreAdded, IsPutBehind, IsPutTogether}
use Rattle.looseparts.specs.FoundGroups.{FoundStandsForAll, IsFoundFor, IsFollowedBy, IsPart, PartsStandTogether}
use Rattle.looseparts.specs.ActorSteps.{IsActorStep}
use Rattle.looseparts.proofs.Lists.{contains_here, contains_mapped, all_contained}
use Rattle.looseparts.proofs.Following.{owner_same, followed_stand, apart_stand}
use Rattle.looseparts.proofs.Covering.{standing_covers, nobody_is_long}

-- what an actor's first step was found among, it is among more

module _ (class : ℕ → ℕ) (design : Design) (s : State) (group : List LooseTransition) (ways more ends over : List (List LooseTransition)) (notes further : List NoteView)
    (ways_more : (way : List LooseTransition) → Contains ways way → Contains more way) (ends_more : (way : List LooseTransition) → Contains ends way → Contains over way) (notes_more : (note : NoteView) → Contains notes note → Contains further note) where
  goes_more : (note : NoteView) (after : State) (a : LooseTransition) → GoesOnTogether class design group note after ways ends notes a → GoesOnTogether class design group note after more over further a
  goes_more note after a on =
      record {
        near = on.near;
        alike = on.alike;
        more_ways = on.more_ways;
        more_ends = on.more_ends;
        more_notes = on.more_notes;
        stand = on.stand;
        all = on.all;
        ways_on = λ way there. ways_more (a ∷ way) (on.ways_on way there);
        ends_on = λ way there. ends_more (a ∷ way) (on.ends_on way there);
        notes_on = λ other there. notes_more other (on.notes_on other there);
      }

  on_more : (note : NoteView) (own : Footprint) (after : State) (a : LooseTransition)
      → ((own.finishes ≡ true) × (after.finished ≡ true) × Contains ends (a ∷ [])) ⊎ ((own.finishes ≡ false) × GoesOnTogether class design group note after ways ends notes a)
      → ((own.finishes ≡ true) × (after.finished ≡ true) × Contains over (a ∷ [])) ⊎ ((own.finishes ≡ false) × GoesOnTogether class design group note after more over further a)
  on_more note own after a (inl (ended, finished, there)) = inl (ended, finished, ends_more (a ∷ []) there)
  on_more note own after a (inr goes) = inr (goes.0, goes_more note after a goes.1)

  pub followed_more : (a : LooseTransition) → IsFollowedFirst class design s group ways ends notes a → IsFollowedFirst class design s group more over further a
  followed_more a d =
      record {
        note = d.note;
        own = d.own;
        after = d.after;
        after_order = d.after_order;
        steps = d.steps;
        tells = d.tells;
        there = notes_more d.note d.there;
        on = on_more d.note d.own d.after a d.on;
      }

-- an actor's step, and what was found behind it

abbrev behind_one : LooseTransition → List (List LooseTransition) → List (List LooseTransition)
behind_one actor ways = map (λ way. actor ∷ way) ways

module _ (class : ℕ → ℕ) (old new : MachineView) (group next : List LooseTransition) (actor : LooseTransition) (note : NoteView) (behind found : PartFindings) (step : IsActorStep class old actor note new) (put : IsPutBehind actor (note ∷ []) behind found) where
  own_note : Contains found.notes.items note
  own_note = subst (λ z. Contains z note) (sym put.notes_are) (Contains-append_right behind.notes.items (note ∷ []) note (contains_here note []))

  way_behind : (way : List LooseTransition) → Contains (ways_in behind.ways.items) way → Contains (ways_in found.ways.items) (actor ∷ way)
  way_behind way there =
      subst (λ z. Contains z (actor ∷ way)) (sym put.ways) (contains_mapped (λ (way : List LooseTransition). actor ∷ way) (ways_in behind.ways.items) way there)

  end_behind : (way : List LooseTransition) → Contains (ways_in behind.ends.items) way → Contains (ways_in found.ends.items) (actor ∷ way)
  end_behind way there =
      subst (λ z. Contains z (actor ∷ way)) (sym put.ends) (contains_mapped (λ (way : List LooseTransition). actor ∷ way) (ways_in behind.ends.items) way there)

  followed_on : new.core.finished ≡ false → ((a : LooseTransition) → IsWaiting class (state_at new) a → Contains group a ⊎ (wakes_actor note a ≡ true) → Contains next a) → IsFoundFor class old.code (state_at new) next behind → IsFollowedBy class old.code (state_at old) group actor found
  followed_on going waiting is =
      record {
        note = note;
        own = step.own;
        after = step.after;
        after_order = step.after_order;
        steps = step.steps;
        tells = step.tells;
        there = own_note;
        on = inr (
          step.ends ∙ going,
          record {
            near = state_at new;
            alike = step.alike;
            more_ways = ways_in behind.ways.items;
            more_ends = ways_in behind.ends.items;
            more_notes = behind.notes.items;
            stand = is.stand;
            all = λ b waits either. All-contains (λ a. concern behind.notes.items a ≡ true) next b is.all (waiting b waits either);
            ways_on = way_behind;
            ends_on = end_behind;
            notes_on = λ other there. subst (λ z. Contains z other) (sym put.notes_are) (Contains-append_left behind.notes.items (note ∷ []) other there);
          },
        );
      }

  -- a step that ended the run
  followed_to_end : new.core.finished ≡ true → ways_in behind.ends.items ≡ [] ∷ [] → IsFollowedBy class old.code (state_at old) group actor found
  followed_to_end finished one =
      record {
        note = note;
        own = step.own;
        after = step.after;
        after_order = step.after_order;
        steps = step.steps;
        tells = step.tells;
        there = own_note;
        on = inl (step.ends ∙ finished, step.alike.finished ∙ finished, end_behind [] (subst (λ z. Contains z []) (sym one) (contains_here [] [])));
      }

  -- whether or not it did
  followed_either : (finished : Bool) → new.core.finished ≡ finished → (finished ≡ false → (a : LooseTransition) → IsWaiting class (state_at new) a → Contains group a ⊎ (wakes_actor note a ≡ true) → Contains next a)
      → (finished ≡ false → IsFoundFor class old.code (state_at new) next behind) → (finished ≡ true → ways_in behind.ends.items ≡ [] ∷ []) → IsFollowedBy class old.code (state_at old) group actor found
  followed_either true is waiting going ended = followed_to_end is (ended refl)
  followed_either false is waiting going ended = followed_on is (waiting refl) (going refl)

-- the same, where a copy of a machine took the step
pub followed_at : (class : ℕ → ℕ) (old new one other : MachineView) (group next among : List LooseTransition) (actor : LooseTransition) (note : NoteView) (behind found : PartFindings) → IsActorStep class old actor note new → new.code ≡ old.code → one ≡ new → other ≡ new → among ≡ next
    → (one.core.finished ≡ false → (a : LooseTransition) → IsWaiting class (state_at one) a → Contains group a ⊎ (wakes_actor note a ≡ true) → Contains next a) → (other.core.finished ≡ false → IsFoundFor class other.code (state_at other) among behind)
    → (other.core.finished ≡ true → ways_in behind.ends.items ≡ [] ∷ []) → IsPutBehind actor (note ∷ []) behind found → IsFollowedBy class old.code (state_at old) group actor found
followed_at class old new one other group next among actor note behind found step code is is' is'' waiting going ended put =
    followed_either class old new group next actor note behind found step put new.core.finished refl
    (subst (λ (m : MachineView). m.core.finished ≡ false → (a : LooseTransition) → IsWaiting class (state_at m) a → Contains group a ⊎ (wakes_actor note a ≡ true) → Contains next a) is waiting)
    (subst (λ (k : Compiled). new.core.finished ≡ false → IsFoundFor class k (state_at new) next behind) code
    (subst (λ (l : List LooseTransition). new.core.finished ≡ false → IsFoundFor class new.code (state_at new) l behind) is'' (subst (λ (m : MachineView). m.core.finished ≡ false → IsFoundFor class m.code (state_at m) among behind) is' going)))
    (subst (λ (m : MachineView). m.core.finished ≡ true → ways_in behind.ends.items ≡ [] ∷ []) is' ended)

-- one actor more was followed

in_first : {X : Type 0} (old added new : List X) (x : X) → new ≡ old ++ added → Contains old x → Contains new x
in_first {X} old added new x is there = subst (λ z. Contains z x) (sym is) (Contains-append_left old added x there)

in_second : {X : Type 0} (old added new : List X) (x : X) → new ≡ old ++ added → Contains added x → Contains new x
in_second {X} old added new x is there = subst (λ z. Contains z x) (sym is) (Contains-append_right old added x there)

ways_both : (old added new : List (Vec LooseTransition)) → new ≡ old ++ added → ways_in new ≡ ways_in old ++ ways_in added
ways_both old added new is = ap ways_in is ∙ map-append (λ (w : Vec LooseTransition). w.items) old added

abbrev IsFirstIn : (ℕ → ℕ) → Compiled → State → List LooseTransition → PartFindings → LooseTransition → Type 0
IsFirstIn class code s group found a = IsFollowedFirst class (design_of code) s group (ways_in found.ways.items) (ways_in found.ends.items) found.notes.items a

module _ (class : ℕ → ℕ) (code : Compiled) (s : State) (group : List LooseTransition) (old next new : PartFindings) (added : AreAdded old next new) where
  before_it : (a : LooseTransition) → IsFirstIn class code s group old a → IsFirstIn class code s group new a
  before_it =
      followed_more class (design_of code) s group (ways_in old.ways.items) (ways_in new.ways.items) (ways_in old.ends.items) (ways_in new.ends.items) old.notes.items new.notes.items
      (λ way there. in_first (ways_in old.ways.items) (ways_in next.ways.items) (ways_in new.ways.items) way (ways_both old.ways.items next.ways.items new.ways.items added.ways) there)
      (λ way there. in_first (ways_in old.ends.items) (ways_in next.ends.items) (ways_in new.ends.items) way (ways_both old.ends.items next.ends.items new.ends.items added.ends) there)
      (λ note there. in_first old.notes.items next.notes.items new.notes.items note added.notes there)

  itself : (a : LooseTransition) → IsFirstIn class code s group next a → IsFirstIn class code s group new a
  itself =
      followed_more class (design_of code) s group (ways_in next.ways.items) (ways_in new.ways.items) (ways_in next.ends.items) (ways_in new.ends.items) next.notes.items new.notes.items
      (λ way there. in_second (ways_in old.ways.items) (ways_in next.ways.items) (ways_in new.ways.items) way (ways_both old.ways.items next.ways.items new.ways.items added.ways) there)
      (λ way there. in_second (ways_in old.ends.items) (ways_in next.ends.items) (ways_in new.ends.items) way (ways_both old.ends.items next.ends.items new.ends.items added.ends) there)
      (λ note there. in_second old.notes.items next.notes.items new.notes.items note added.notes there)

  pub one_followed : (actors : List LooseTransition) (at : ℕ) (actor d : LooseTransition) → at < length actors → get_or actors at d ≡ actor → All (IsFirstIn class code s group old) (take at actors) → IsFirstIn class code s group next actor → All (IsFirstIn class code s group new) (take (at + 1) actors)
  one_followed actors at actor d below is before own =
      All-more (IsFirstIn class code s group new) actors at d below (All-weaker (IsFirstIn class code s group old) (IsFirstIn class code s group new) before_it (take at actors) before)
      (subst (λ z. IsFirstIn class code s group new z) (sym is) (itself actor own))

-- a group whose actors were followed

pub found_for : (class : ℕ → ℕ) (code : Compiled) (s : State) (group : List LooseTransition) (found : PartFindings) → IsInOrder s → All (IsFollowedFirst class (design_of code) s group (ways_in found.ways.items) (ways_in found.ends.items) found.notes.items) group
    → ((a : LooseTransition) → IsWaiting class s a → concern found.notes.items a ≡ true → Contains group a) → group ≢ [] → IsFoundFor class code s group found
found_for class code s group found order each closed some =
    record {
      stand = followed_stand class (design_of code) s group (ways_in found.ways.items) (ways_in found.ends.items) found.notes.items order each closed (λ none. absurd (some none));
      all = All-weaker (IsFirstIn class code s group found) (λ a. concern found.notes.items a ≡ true)
          (λ a d. owner_same class (design_of code) s order group (ways_in found.ways.items) (ways_in found.ends.items) found.notes.items a d) group each;
    }

-- parts

pub nobody_stands : (class : ℕ → ℕ) (code : Compiled) (s : State) (found : PartFindings) → ways_in found.ways.items ≡ [] ∷ [] → ways_in found.ends.items ≡ [] → found.notes.items ≡ [] → IsInOrder s → FoundStandsForAll class code s found
nobody_stands class code s found ways ends notes order =
    let stand : StandTogether class (design_of code) s ([] ∷ []) [] [] =
    followed_stand class (design_of code) s [] ([] ∷ []) [] [] order (All-nil (IsFollowedFirst class (design_of code) s [] ([] ∷ []) [] [])) (λ a waits h. cc) (λ none. contains_here [] []) in
    subst (λ z. StandTogether class (design_of code) s z (ways_in found.ends.items) found.notes.items) (sym ways)
    (subst (λ z. StandTogether class (design_of code) s ([] ∷ []) z found.notes.items) (sym ends) (subst (λ z. StandTogether class (design_of code) s ([] ∷ []) [] z) (sym notes) stand))

pub part_put : (class : ℕ → ℕ) (code : Compiled) (s : State) (one other both : PartFindings) → FoundStandsForAll class code s one → FoundStandsForAll class code s other → IsPutTogether one other both → FoundStandsForAll class code s both
part_put class code s one other both h k put =
    subst (λ z. StandTogether class (design_of code) s (ways_in both.ways.items) z both.notes.items) (sym (ways_both one.ends.items other.ends.items both.ends.items put.ends))
    (subst (λ z. StandTogether class (design_of code) s (ways_in both.ways.items) (ways_in one.ends.items ++ ways_in other.ends.items) z) (sym put.notes)
    (apart_stand class (design_of code) s (ways_in one.ways.items) (ways_in other.ways.items) (ways_in both.ways.items) (ways_in one.ends.items) (ways_in other.ends.items) one.notes.items other.notes.items h k put.apart put.ways))

last_of : (class : ℕ → ℕ) (code : Compiled) (s : State) (parts : List FoundPart) (part : FoundPart) → All (IsPart class code s) (parts ++ part ∷ []) → All (IsPart class code s) parts × IsPart class code s part
last_of class code s parts part each = (
  all_contained (IsPart class code s) parts (parts ++ part ∷ []) (λ x there. Contains-append_left parts (part ∷ []) x there) each,
  All-contains (IsPart class code s) (parts ++ part ∷ []) part each (Contains-append_right parts (part ∷ []) part (contains_here part [])),
)

pub together_more : (parts : List FoundPart) (part : FoundPart) (old new : PartFindings) → PartsStandTogether parts old → IsPutTogether old part.found new → PartsStandTogether (parts ++ part ∷ []) new
together_more parts part old new before put class code s order each =
    let (firsts, last) = last_of class code s parts part each in
    part_put class code s old part.found new (before class code s order firsts) last put

-- all who wait

pub covers : (class : ℕ → ℕ) (code : Compiled) (limits : Limits) (s : State) (group : List LooseTransition) (found : PartFindings) (somebody : LooseTransition) → IsWaiting class s somebody → IsFoundFor class code s group found
    → ((a : LooseTransition) → IsWaiting class s a → Contains group a) → CoverToFinish class (design_of code) limits s (ways_in found.ways.items) (ways_in found.ends.items)
covers class code limits s group found somebody waits is among =
    standing_covers class (design_of code) limits s (ways_in found.ways.items) (ways_in found.ends.items) found.notes.items somebody waits is.stand
    (λ a waits'. All-contains (λ a. concern found.notes.items a ≡ true) group a is.all (among a waits'))

pub nobody_long : (class : ℕ → ℕ) (code : Compiled) (s : State) (group : List LooseTransition) (found : PartFindings) → IsFoundFor class code s group found → ((a : LooseTransition) → IsWaiting class s a → Contains group a)
    → (p : ℕ) → HasLongTurn (design_of code) s p → ⊥
nobody_long class code s group found is among =
    nobody_is_long class (design_of code) s (ways_in found.ways.items) (ways_in found.ends.items) found.notes.items is.stand
    (λ a waits. All-contains (λ a. concern found.notes.items a ≡ true) group a is.all (among a waits))

-- what follows from what holds where all was done, holds there too
pub if_all : {E : Type 0} (r : Result Bool E) (P Q : Type 0) → (P → Q) → IfOk r (λ all. all ≡ true → P) → IfOk r (λ all. all ≡ true → Q)
if_all (Ok all) P Q f h = λ on. f (h on)
if_all (Err e) P Q f h = tt
