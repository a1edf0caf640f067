-- Nodes at the runs with their numbers.
use Rattle.std.proofs.Common.{◌≡◌, ℕ, ◌<◌, List, [], ◌∷◌, ◌++◌, length, get_or, sym, ap, ◌∙◌, append_assoc, subst, arith}
use Rattle.std.specs.Prelude.{Err, IfOk, Ok, OnOk, Result}
use Rattle.std.specs.List.{All, Any, Contains}
use Rattle.std.proofs.lemmas.List.{get_or_default}
use Rattle.std.proofs.lemmas.List.Elements.{All-push, All-contains, Contains-append_left, Contains-append_right}
use Rattle.sharing.specs.Parts.{Extends}
use Rattle.explore.specs.Grown.{IsLastPart}
use Rattle.explore.specs.Placed.{IsNodeAt, IsPlaced, ArePlaced, AreStood}
use Rattle.explore.specs.SearchedRuns.{Runs}
use Rattle.explore.specs.declared.again.Nodes.{Nodes}
use Rattle.explore.specs.declared.recent.Placed.{Placed}
use Rattle.explore.proofs.Growing.{get_or-extends, length-extends}

-- what holds of whatever is among some elements holds of each
all_contained : {X : Type 0} (P : X → Type 0) (xs : List X) → ((x : X) → Contains xs x → P x) → All P xs
all_contained P xs each k d within = each (get_or xs k d) (k, within, get_or_default xs k (get_or xs k d) d within)

-- what holds of each element holds of those of the last part
pub All-last : {X : Type 0} (P : X → Type 0) (part whole : List X) → IsLastPart part whole → All P whole → All P part
All-last P part whole (gone, is) all =
    let each = subst (All P) is all in
    all_contained P part (λ x there. All-contains P (gone ++ part) x each (Contains-append_right gone part x there))

-- and of those of the first part
pub All-front : {X : Type 0} (P : X → Type 0) (front whole : List X) → Extends front whole → All P whole → All P front
All-front P front whole (more, is) all =
    let each = subst (All P) is all in
    all_contained P front (λ x there. All-contains P (front ++ more) x each (Contains-append_left front more x there))

-- the last part of the last part
pub IsLastPart-through : {X : Type 0} (xs ys zs : List X) → IsLastPart xs ys → IsLastPart ys zs → IsLastPart xs zs
IsLastPart-through xs ys zs (gone, is) (before, was) = (before ++ gone, was ∙ (ap (λ l. before ++ l) is ∙ sym (append_assoc before gone xs)))

-- a node stays at its run where runs are added
IsPlaced-more : {M N E : Type 0} (runs : Runs M N E) (old new : List (List M)) (p : Placed N) → Extends old new → IsPlaced runs old p → IsPlaced runs new p
IsPlaced-more {M} runs old new p more at =
    let within = at.within in
    let far = length-extends old new more in
    record {
      within = omega (arith, within, far);
      stands = subst (λ (l : List M). runs.Stands p.node l) (sym (get_or-extends old new p.number [] more within)) at.stands;
    }

all_more : {M N E : Type 0} (runs : Runs M N E) (old new : List (List M)) (ps : List (Placed N)) → Extends old new → All (IsPlaced runs old) ps → All (IsPlaced runs new) ps
all_more runs old new ps more all k d within = IsPlaced-more runs old new (get_or ps k d) more (all k d within)

-- nodes stay at their runs where runs are added
pub ArePlaced-more : {M N E : Type 0} (runs : Runs M N E) (old new : List (List M)) (nodes : Nodes N) → Extends old new → ArePlaced runs old nodes → ArePlaced runs new nodes
ArePlaced-more runs old new nodes more placed =
    record {
      newest = all_more runs old new nodes.newest.nodes.items more placed.newest;
      checkpoints = all_more runs old new nodes.checkpoints.nodes.items more placed.checkpoints;
    }

-- nodes stand at their runs where one is added, and the oldest may have gone
pub placed_push : {M N E : Type 0} (runs : Runs M N E) (ways : List (List M)) (before after : List (Placed N)) (p : Placed N) → All (IsPlaced runs ways) before → IsLastPart after (before ++ p ∷ []) → p.number < length ways → runs.Stands p.node (get_or ways p.number []) → All (IsPlaced runs ways) after
placed_push runs ways before after p placed part within stands =
    All-last (IsPlaced runs ways) after (before ++ p ∷ []) part (All-push (IsPlaced runs ways) before p placed (record { within = within; stands = stands }))

-- the node that was taken out stands at the run with its number
pub taken_stands : {M N E : Type 0} (runs : Runs M N E) (ways : List (List M)) (ps : List (Placed N)) (number : ℕ) (node : N) → All (IsPlaced runs ways) ps → Any (IsNodeAt number node) ps → runs.Stands node (get_or ways number [])
taken_stands {M} {N} runs ways ps number node all (k, p, within, at, (same, is)) =
    let here : IsPlaced runs ways p = subst (IsPlaced runs ways) at (all k p within) in
    subst (λ (n : N). runs.Stands n (get_or ways number [])) is (subst (λ (n : ℕ). runs.Stands p.node (get_or ways n [])) same here.stands)

-- a node that is made again from that of one run stands at the run with a number that goes on from it, where some node stands
pub again_stands : {M N E : Type 0} (runs : Runs M N E) (ways : List (List M)) (number : ℕ) (run moves : List M) (from node : N) → number < length ways → AreStood runs ways → get_or ways number [] ≡ run ++ moves → runs.Stands from run
    → ((way : List M) (other : N) → runs.Stands from way → runs.Stands other (way ++ moves) → runs.Stands node (way ++ moves)) → runs.Stands node (get_or ways number [])
again_stands {M} runs ways number run moves from node within stood is stands made =
    let at = stood number within in
    subst (λ (l : List M). runs.Stands node l) (sym is) (made run at.0 stands (subst (λ (l : List M). runs.Stands at.0 l) is at.1))

-- what holds where something comes out holds of more, where that follows
pub ok_map : {X F : Type 0} (P Q : X → Type 0) (r : Result X F) → ((x : X) → P x → Q x) → IfOk r P → IfOk r Q
ok_map P Q (Ok x) more is = more x is
ok_map P Q (Err fault) more is = tt

-- what holds holds where something comes out
pub ok_always : {X F : Type 0} (r : Result X F) (P : Type 0) → P → OnOk r P
ok_always (Ok x) P is = is
ok_always (Err fault) P is = tt
