-- What is followed of the runs that were reached, and what is left open.
use Rattle.std.proofs.Common.{◌≡◌, ℕ, ◌<◌, ◌≤◌, List, [], ◌∷◌, ◌++◌, length, get_or, Some, None, Option, refl, sym, ap, ◌∙◌, subst, arith, length-append, ◌⊎◌, inl, inr, Vec, Global}
use Rattle.std.specs.Prelude.{IfSome}
use Rattle.std.specs.List.{All, Any}
use Rattle.std.proofs.lemmas.Bool.{cases_lt}
use Rattle.std.proofs.lemmas.List.{get_or_append_left, get_or_default}
use Rattle.std.proofs.Math.Seq.{get_or-append_seam}
use Rattle.sharing.specs.Parts.{Extends}
use Rattle.explore.specs.Grown.{grown}
use Rattle.explore.specs.Lineage.{ways}
use Rattle.explore.specs.SearchKept.{AreKept, Grows}
use Rattle.explore.specs.SearchedRuns.{Runs}
use Rattle.explore.specs.Reach.{earliest, earliest_left, AreFollowedBefore, AreTimed, HasNode, IsAtTime, IsFollowedOrOpen, IsLeftOpen, IsNoLater, IsWayAmong}
use Rattle.explore.specs.declared.Shown.{Shown}
use Rattle.explore.specs.declared.kept.KeptNodes.{KeptNodes}
use Rattle.explore.specs.declared.kept.Reached.{Reached}
use Rattle.explore.specs.declared.stopped.Stopped.{Stopped}
use Rattle.explore.proofs.Growing.{Extends-itself, get_or-extends, length-grown, get_or-grown}
use Rattle.explore.proofs.Complete.{Any-extends, IsFollowed-more}
use Rattle.explore.proofs.Counting.{stood_at, some_none}
use Rattle.explore.proofs.Keeping.{Any-split}

-- the earlier of two times is no later than either

pub earliest-told : (told : Option ℕ) (time n : ℕ) → IsNoLater told n → earliest told time ≤ n
earliest-told None time n is = absurd is
earliest-told (Some t) time n is = omega (arith, is)

pub earliest-time : (told : Option ℕ) (time : ℕ) → earliest told time ≤ time
earliest-time None time = omega arith
earliest-time (Some t) time = omega arith

pub left-told : (told : Option ℕ) (left : Option Stopped) (time n : ℕ) → IsNoLater told n → IsNoLater (earliest_left told left time) n
left-told told None time n is = is
left-told told (Some s) time n is = earliest-told told time n is

pub left-time : (told : Option ℕ) (left : Option Stopped) (time : ℕ) → (left ≡ None → ⊥) → IsNoLater (earliest_left told left time) time
left-time told None time cut = absurd (cut refl)
left-time told (Some s) time cut = earliest-time told time

-- what is no later than a time is no later than one behind it
pub no_later_than : (told : Option ℕ) (time n : ℕ) → IsNoLater told time → time ≤ n → IsNoLater told n
no_later_than None time n is less = absurd is
no_later_than (Some t) time n is less = omega (arith, is, less)

-- nothing is there, or something is
pub none_or_not : {X : Type 0} (o : Option X) → (o ≡ None) ⊎ (o ≡ None → ⊥)
none_or_not None = inl refl
none_or_not (Some x) = inr (λ is. some_none x is)

-- a run at whose node something may have been left out
pub open_at : {M N E : Type 0} (runs : Runs M N E) (time_of : N → ℕ) (reached : List (List M)) (times : List ℕ) (told : Option ℕ) (k : ℕ) → AreTimed runs time_of reached times → k < length reached → IsNoLater told (get_or times k 0) → IsLeftOpen runs time_of told (get_or reached k [])
open_at runs time_of reached times told k timed within is =
    let at = timed.each k within in
    (at.0, at.1, subst (λ (n : ℕ). IsNoLater told n) at.2 is)

open_more : {M N E : Type 0} (runs : Runs M N E) (time_of : N → ℕ) (told told' : Option ℕ) (run : List M) → ((n : ℕ) → IsNoLater told n → IsNoLater told' n) → IsLeftOpen runs time_of told run → IsLeftOpen runs time_of told' run
open_more runs time_of told told' run lower at = (at.0, at.1, lower (time_of at.0) at.2)

-- so it stays where more is shown, more runs were reached and an earlier time is told
followed_or_open_more : {M N E : Type 0} (runs : Runs M N E) (time_of : N → ℕ) (reached reached' : List (List M)) (shown shown' : List (Shown M E)) (told told' : Option ℕ) (run : List M) → Extends reached reached' → Extends shown shown' → ((n : ℕ) → IsNoLater told n → IsNoLater told' n) →
    IsFollowedOrOpen runs time_of shown told reached run → IsFollowedOrOpen runs time_of shown' told' reached' run
followed_or_open_more runs time_of reached reached' shown shown' told told' run more longer lower known = elim known [
  | inl followed ↦ inl (IsFollowed-more runs reached reached' shown shown' run more longer followed)
  | inr open_run ↦ inr (open_more runs time_of told told' run lower open_run)
]

-- what is known of the run with a number: its node is pending, or it is followed, or it was left open
abbrev pub IsKnownOrOpen : {M N E : Type 0} → Runs M N E → (N → ℕ) → KeptNodes N M → List (Shown M E) → Option ℕ → ℕ → Type 0
IsKnownOrOpen runs time_of kept shown told k =
    Any (λ p. p.number ≡ k) kept.pending.items ⊎ IsFollowedOrOpen runs time_of shown told (ways kept.lineage) (get_or (ways kept.lineage) k [])

known_or_open_before : {M N E : Type 0} (runs : Runs M N E) (time_of : N → ℕ) (old mid new : KeptNodes N M) (p : Reached) (shown shown' : List (Shown M E)) (told told' : Option ℕ) (k : ℕ) → mid.lineage ≡ old.lineage → old.pending.items ≡ mid.pending.items ++ p ∷ [] → Grows mid new → Extends shown shown' →
    ((n : ℕ) → IsNoLater told n → IsNoLater told' n) → k < length (ways old.lineage) → IsFollowedOrOpen runs time_of shown' told' (ways new.lineage) (get_or (ways old.lineage) p.number []) → IsKnownOrOpen runs time_of old shown told k → IsKnownOrOpen runs time_of new shown' told' k
known_or_open_before {M} {N} {E} runs time_of old mid new p shown shown' told told' k lineage popped grows longer lower less now known =
    let more : Extends (ways old.lineage) (ways new.lineage) = subst (λ t. Extends (ways t) (ways new.lineage)) lineage grows.lineage in
    let same : get_or (ways new.lineage) k [] ≡ get_or (ways old.lineage) k [] = get_or-extends (ways old.lineage) (ways new.lineage) k [] more less in
    elim known [
      | inl at ↦ elim (Any-split (λ (x : Reached). x.number ≡ k) mid.pending.items p (subst (λ (l : List Reached). Any (λ x. x.number ≡ k) l) popped at)) [
        | inl there ↦ inl (Any-extends (λ (x : Reached). x.number ≡ k) mid.pending.items new.pending.items grows.pending there)
        | inr is ↦ inr (subst (λ (l : List M). IsFollowedOrOpen runs time_of shown' told' (ways new.lineage) l) (ap (λ (n : ℕ). get_or (ways old.lineage) n []) is ∙ sym same) now)
      ]
      | inr before ↦ inr (subst (λ (l : List M). IsFollowedOrOpen runs time_of shown' told' (ways new.lineage) l) (sym same)
          (followed_or_open_more runs time_of (ways old.lineage) (ways new.lineage) shown shown' told told' (get_or (ways old.lineage) k []) more longer lower before))
    ]

-- what is known of each run, after the node that was added last was expanded
pub known_or_open_more : {M N E : Type 0} (runs : Runs M N E) (time_of : N → ℕ) (old mid new : KeptNodes N M) (p : Reached) (shown shown' : List (Shown M E)) (told told' : Option ℕ) (k : ℕ) → mid.lineage ≡ old.lineage → old.pending.items ≡ mid.pending.items ++ p ∷ [] → Grows mid new → Extends shown shown' →
    ((n : ℕ) → IsNoLater told n → IsNoLater told' n) → IsFollowedOrOpen runs time_of shown' told' (ways new.lineage) (get_or (ways old.lineage) p.number []) → ((k : ℕ) → k < length (ways old.lineage) → IsKnownOrOpen runs time_of old shown told k) → k < length (ways new.lineage) → IsKnownOrOpen runs time_of new shown' told' k
known_or_open_more runs time_of old mid new p shown shown' told told' k lineage popped grows longer lower now before less = elim (cases_lt k (length (ways old.lineage))) [
  | inl low ↦ known_or_open_before runs time_of old mid new p shown shown' told told' k lineage popped grows longer lower low now (before k low)
  | inr high ↦ inl (grows.waits k (let same : length (ways mid.lineage) ≡ length (ways old.lineage) = ap (λ t. length (ways t)) lineage in omega (arith, same, high)) less)
]

-- the time of a pending node
pending_time : (times : List ℕ) (pending : List Reached) (told : Option ℕ) (k : ℕ) → All (λ p. IsNoLater told (get_or times p.number 0)) pending → Any (λ p. p.number ≡ k) pending → IsNoLater told (get_or times k 0)
pending_time times pending told k all at =
    subst (λ (n : ℕ). IsNoLater told (get_or times n 0)) (ap (λ (p : Reached). p.number) at.3 ∙ at.4) (all at.0 at.1 at.2)

-- Where a time is told that isn't behind those of pending nodes, nothing before it was left out.
pub closed_off : {M N E : Type 0} (runs : Runs M N E) (time_of : N → ℕ) (kept : KeptNodes N M) (shown : List (Shown M E)) (told least : Option ℕ) → AreTimed runs time_of (ways kept.lineage) kept.links.times.items →
    ((k : ℕ) → k < length (ways kept.lineage) → IsKnownOrOpen runs time_of kept shown told k) → ((n : ℕ) → IsNoLater told n → IsNoLater least n) → All (λ p. IsNoLater least (get_or kept.links.times.items p.number 0)) kept.pending.items →
    0 < length (ways kept.lineage) → get_or (ways kept.lineage) 0 [] ≡ [] → AreFollowedBefore runs time_of shown least
closed_off {M} {N} {E} runs time_of kept shown told least timed known lower all some first =
    let reached = ways kept.lineage in
    let times = kept.links.times.items in
    record {
      reached = reached;
      starts = (some, first);
      each = λ k d within. subst (λ (run : List M). IsFollowedOrOpen runs time_of shown least reached run) (get_or_default reached k [] d within)
          (elim (known k within) [
            | inl at ↦ inr (open_at runs time_of reached times least k timed within (pending_time times kept.pending.items least k all at))
            | inr before ↦ followed_or_open_more runs time_of reached reached shown shown told least (get_or reached k []) (Extends-itself reached) (Extends-itself shown) lower before
          ]);
    }

-- where no node is pending, nothing before the time that is told was left out
pub all_closed : {M N E : Type 0} (runs : Runs M N E) (time_of : N → ℕ) (kept : KeptNodes N M) (shown : List (Shown M E)) (told : Option ℕ) → length kept.pending.items ≡ 0 →
    ((k : ℕ) → k < length (ways kept.lineage) → IsKnownOrOpen runs time_of kept shown told k) → 0 < length (ways kept.lineage) → get_or (ways kept.lineage) 0 [] ≡ [] → AreFollowedBefore runs time_of shown told
all_closed {M} {N} {E} runs time_of kept shown told over known some first =
    let reached = ways kept.lineage in
    record {
      reached = reached;
      starts = (some, first);
      each = λ k d within. subst (λ (run : List M). IsFollowedOrOpen runs time_of shown told reached run) (get_or_default reached k [] d within)
          (elim (known k within) [
            | inl at ↦ absurd (omega (arith, at.2, over))
            | inr before ↦ before
          ]);
    }

-- the node at which each run starts has its time
pub AreTimed-first : {M N E : Type 0} (runs : Runs M N E) (time_of : N → ℕ) (reached : List (List M)) (times : List ℕ) (node : N) (time : ℕ) → reached ≡ [] ∷ [] → times ≡ time ∷ [] → runs.Stands node [] → time ≡ time_of node → AreTimed runs time_of reached times
AreTimed-first {M} runs time_of reached times node time one first stands is =
    record {
      as_many = omega (arith, ap length first, ap length one);
      each = λ k within.
          let zeroth : 0 ≡ k = omega (arith, within, ap length one) in
          subst (λ (n : ℕ). IsAtTime runs time_of (get_or reached n []) (get_or times n 0)) zeroth
          (node, subst (λ (l : List (List M)). runs.Stands node (get_or l 0 [])) (sym one) stands, ap (λ (l : List ℕ). get_or l 0 0) first ∙ is);
    }

-- a node that is added has its time, and the others keep theirs
pub AreTimed-push : {M N E : Type 0} (runs : Runs M N E) (time_of : N → ℕ) (old new : List (List M)) (times times' : List ℕ) (from : ℕ) (moves : List M) (node : N) (time : ℕ) → new ≡ grown old from moves → times' ≡ times ++ time ∷ [] → runs.Stands node (get_or old from [] ++ moves) → time ≡ time_of node →
    AreTimed runs time_of old times → AreTimed runs time_of new times'
AreTimed-push {M} runs time_of old new times times' from moves node time more longer stands is timed =
    let many = timed.as_many in
    record {
      as_many = omega (arith, ap length longer, length-append times (time ∷ []), ap length more, length-grown old from moves, many);
      each = λ k within. elim (cases_lt k (length old)) [
        | inl low ↦
            let at = timed.each k low in
            let run : get_or new k [] ≡ get_or old k [] = get_or-extends old new k [] (_, more) low in
            let same : get_or times' k 0 ≡ get_or times k 0 = ap (λ (l : List ℕ). get_or l k 0) longer ∙ get_or_append_left times (time ∷ []) 0 k (omega (arith, low, many)) in
            (at.0, subst (λ (l : List M). runs.Stands at.0 l) (sym run) at.1, same ∙ at.2)
        | inr high ↦
            let last : length old ≡ k = omega (arith, high, within, ap length more, length-grown old from moves) in
            let run : get_or new (length old) [] ≡ get_or old from [] ++ moves = ap (λ (l : List (List M)). get_or l (length old) []) more ∙ get_or-grown old from moves in
            let same : get_or times' (length old) 0 ≡ time = ap (λ (l : List ℕ). get_or l (length old) 0) longer ∙ (ap (λ (n : ℕ). get_or (times ++ time ∷ []) n 0) (sym many) ∙ get_or-append_seam times time [] 0) in
            subst (λ (n : ℕ). IsAtTime runs time_of (get_or new n []) (get_or times' n 0)) last
            (node, subst (λ (l : List M). runs.Stands node l) (sym run) stands, same ∙ is)
      ];
    }

-- a node stands at the run to the node from which most ways lead
pub has_node : {M N E : Type 0} (runs : Runs M N E) (HasKey : N → List ℕ → Type 0) (kept : KeptNodes N M) (found : Option (Vec M Global)) → AreKept runs HasKey kept → IfSome found (λ moves. IsWayAmong (ways kept.lineage) moves.items) → IfSome found (λ moves. HasNode runs moves.items)
has_node runs HasKey kept None known is = tt
has_node {M} runs HasKey kept (Some moves) known is =
    let at = stood_at runs HasKey kept is.0 known is.1 in
    (at.0, subst (λ (l : List M). runs.Stands at.0 l) (sym is.2) at.1)
