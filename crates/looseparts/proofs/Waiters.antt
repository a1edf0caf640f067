-- Who waits of those that may be taken, and ways with others behind them.
use Rattle.std.proofs.Common.{◌≡◌, ◌≢◌, ◌↔◌, ◌⊎◌, ℕ, ◌+◌, ◌<◌, ◌≤◌, ◌==◌, Bool, true, false, List, [], ◌∷◌, ◌++◌, map, take, length, get_or, inl, inr, sym, ap, subst, ◌∙◌}
use Rattle.std.specs.List.{All, Contains}
use Rattle.std.specs.Global.{Vec}
use Rattle.std.proofs.lemmas.List.{take_more, map-append}
use Rattle.std.proofs.lemmas.List.Elements.{All-weaker, All-more, All-contains, Contains-append_left, Contains-append_right, Contains-append_cases}
use Rattle.model.specs.Design.{Design}
use Rattle.model.specs.States.{State}
use Rattle.orders.specs.Alike.{IsInOrder}
use Rattle.loose.specs.declared.transition.LooseTransition.{LooseTransition}
use Rattle.loosesteps.specs.LooselyTaken.{MayBeTaken}
use Rattle.footprints.specs.Moves.{IsWaiting}
use Rattle.certificates.specs.Notes.{NoteView}
use Rattle.certificates.specs.Coming.{wakes_actor}
use Rattle.looseparts.specs.PartLaws.{HaveEachBehind}
use Rattle.looseparts.specs.FoundWays.{ways_in}
use Rattle.looseparts.proofs.Lists.{contains_none, contains_split, contains_mapped, all_seen}
use Rattle.looseparts.proofs.ActorSteps.{waiting_may}

behind : (one : Vec LooseTransition) (way other : List LooseTransition) (others : List (List LooseTransition)) → Contains (one.items ∷ []) way → Contains others other → Contains (map (λ (other : List LooseTransition). one.items ++ other) others) (way ++ other)
behind one way other others last there' =
    elim (contains_split way one.items [] last) [
      | inl same ↦ subst (λ (z : List LooseTransition). Contains (map (λ (other : List LooseTransition). one.items ++ other) others) (z ++ other)) same (contains_mapped (λ (other : List LooseTransition). one.items ++ other) others other there')
      | inr none ↦ absurd (contains_none way none)
    ]

-- one way more with each of the others behind it
pub each_behind_more : (ones : List (Vec LooseTransition)) (at : ℕ) (d one : Vec LooseTransition) (others old new : List (List LooseTransition)) → at < length ones → get_or ones at d ≡ one → HaveEachBehind (ways_in (take at ones)) others old
    → new ≡ old ++ map (λ other. one.items ++ other) others → HaveEachBehind (ways_in (take (at + 1) ones)) others new
each_behind_more ones at d one others old new below is before added way other there there' =
    let split : ways_in (take (at + 1) ones) ≡ ways_in (take at ones) ++ one.items ∷ [] =
    ap ways_in (take_more ones at d below) ∙ map-append (λ (w : Vec LooseTransition). w.items) (take at ones) (get_or ones at d ∷ []) ∙ ap (λ (z : Vec LooseTransition). ways_in (take at ones) ++ z.items ∷ []) is in
    subst (λ z. Contains z (way ++ other)) (sym added)
    (elim (Contains-append_cases (ways_in (take at ones)) (one.items ∷ []) way (subst (λ z. Contains z way) split there)) [
      | inl first ↦ Contains-append_left old (map (λ (other : List LooseTransition). one.items ++ other) others) (way ++ other) (before way other first there')
      | inr last ↦ Contains-append_right old (map (λ (other : List LooseTransition). one.items ++ other) others) (way ++ other) (behind one way other others last there')
    ])

-- behind the way that takes no step others stay as they are
pub alone_before : (ones others : List (List LooseTransition)) → ones ≡ [] ∷ [] → HaveEachBehind ones others others
alone_before ones others is way other there there' =
    elim (contains_split way [] [] (subst (λ z. Contains z way) is there)) [
      | inl same ↦ subst (λ (z : List LooseTransition). Contains others (z ++ other)) same there'
      | inr none ↦ absurd (contains_none way none)
    ]

-- of the choices one more was looked at

pub kept_more : (group choices old new : List LooseTransition) (note : NoteView) (at : ℕ) (d : LooseTransition) → at < length choices → All (λ a. Contains group a ⊎ (wakes_actor note a ≡ true) → Contains old a) (take at choices)
    → ((a : LooseTransition) → Contains old a → Contains new a) → (Contains group (get_or choices at d) ⊎ (wakes_actor note (get_or choices at d) ≡ true) → Contains new (get_or choices at d))
    → All (λ a. Contains group a ⊎ (wakes_actor note a ≡ true) → Contains new a) (take (at + 1) choices)
kept_more group choices old new note at d below before kept wanted =
    All-more (λ a. Contains group a ⊎ (wakes_actor note a ≡ true) → Contains new a) choices at d below
    (All-weaker (λ a. Contains group a ⊎ (wakes_actor note a ≡ true) → Contains old a) (λ a. Contains group a ⊎ (wakes_actor note a ≡ true) → Contains new a) (λ a found either. kept a (found either)) (take at choices) before) wanted

-- whoever waits was seen among those that may be taken
pub seen_waiting : (P : LooseTransition → Type 0) (class : ℕ → ℕ) (design : Design) (s : State) (choices items : List LooseTransition) (at : ℕ) (a : LooseTransition) → choices ≡ items → ((b : LooseTransition) → Contains items b ↔ MayBeTaken class s b) → IsInOrder s
    → s.finished ≡ false → length choices ≤ at → All P (take at choices) → IsWaiting class s a → P a
seen_waiting P class design s choices items at a same permitted order going over all waits =
    All-contains P choices a (all_seen P choices at over all) (subst (λ z. Contains z a) (sym same) ((permitted a).1 (waiting_may class design s a order going waits)))

pub some_in : (group : List LooseTransition) (empty : Bool) → empty ≡ (length group == 0) → empty ≡ false → group ≢ []
some_in [] empty is none = cc
some_in (a ∷ group) empty is none = λ h. cc
