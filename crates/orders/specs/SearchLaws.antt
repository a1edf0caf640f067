-- What a search of all lawful orders has to keep, and what follows from it.
use Rattle.std.specs.Prelude.{◌≡◌, ◌≢◌, ℕ, List, [], ◌∷◌, ◌++◌, length, Some, None}
use Rattle.std.specs.List.{Contains}
use Rattle.model.specs.declared.entry.Entry.{Entry}
use Rattle.model.specs.declared.end.Limits.{Limits}
use Rattle.model.specs.declared.end.Why.TheVariants.{Entries, Memory}
use Rattle.model.specs.declared.end.End.{End}
use Rattle.model.specs.declared.end.End.TheVariants.{Stopped}
use Rattle.model.specs.Design.{Design}
use Rattle.model.specs.States.{start}
use Rattle.model.specs.Runs.{Effect, silent, joined, step, run_from, run, IsTimely, AreTimely, EndsIn}
use Rattle.model.specs.Texts.{EndsHere}
use Rattle.orders.specs.Alike.{Alike, IsInOrder, transition_of}

-- where no time limit is given, every lawful journal is in time, since no step advances past the last time
abbrev pub UnlimitedRunIsTimely : Type 0
UnlimitedRunIsTimely =
    (design : Design) (limits : Limits) (journal : List Entry) (e : Effect) → limits.until ≡ None → run design journal ≡ Some e
    → AreTimely limits journal

-- two effects of runs are one node if they have the same lines, and lead to states that are alike
abbrev pub IsOneNode : Effect → Effect → Type 0
IsOneNode e f = (e.lines ≡ f.lines) × Alike e.state f.state

-- Where a run goes on in time from one of two effects that are one node, it goes on in time from the other by as many
-- entries, and comes to one node again.
abbrev pub OneNodeGoesOn : Type 0
OneNodeGoesOn =
    (design : Design) (limits : Limits) (e f g : Effect) (entries : List Entry) → IsInOrder e.state → IsInOrder f.state → IsOneNode e f
    → run_from design e entries ≡ Some g → AreTimely limits entries
    → (others : List Entry) × (k : Effect) × (length others ≡ length entries) × AreTimely limits others × (run_from design f others ≡ Some k) × IsOneNode g k

-- an effect is what comes of a lawful journal
abbrev pub IsReachable : Design → Effect → Type 0
IsReachable design e = (journal : List Entry) × (run design journal ≡ Some e)

-- a node is among those that were visited
abbrev pub IsAmongVisited : List Effect → Effect → Type 0
IsAmongVisited nodes e = (f : Effect) × Contains nodes f × IsOneNode e f

-- The nodes cover the runs from one of them: whichever way a run goes on from it in time to an end, it comes to one of
-- the nodes on the way, by one entry or more.
abbrev pub Covers : Design → Limits → List Effect → Effect → Type 0
Covers design limits nodes e =
    (entry : Entry) (entries : List Entry) (g : Effect) (end : End) → run_from design e (entry ∷ entries) ≡ Some g
    → AreTimely limits (entry ∷ entries) → EndsHere design limits g end
    → (before : List Entry) × (after : List Entry) × (f : Effect) × (before ≢ []) × (before ++ after ≡ entry ∷ entries) × (run_from design e before ≡ Some f) × IsAmongVisited nodes f

-- A node is followed by each of its transitions: whatever entry leads on from it in time, one of the same transition leads to a node.
abbrev pub FollowsEachTransition : Design → Limits → List Effect → Effect → Type 0
FollowsEachTransition design limits nodes e =
    (entry : Entry) (f : Effect) → step design e.state entry ≡ Some f → IsTimely limits entry
    → (other : Entry) × (g : Effect) × (transition_of e.state other ≡ transition_of e.state entry) × (step design e.state other ≡ Some g) × IsAmongVisited nodes (joined e g)

-- a node that is followed by each of its transitions is covered
abbrev pub EachTransitionCovers : Type 0
EachTransitionCovers =
    (design : Design) (limits : Limits) (nodes : List Effect) (e : Effect) → IsReachable design e → FollowsEachTransition design limits nodes e
    → Covers design limits nodes e

-- what is shown has lines and an end
abbrev pub Shows : List (List ℕ × End) → List ℕ → End → Type 0
Shows shown lines end = Contains shown (lines, end)

-- What a search has visited and shown is complete: the start is among its nodes, each comes of a lawful journal and is
-- covered, and the ways to end at it are shown with its lines.
abbrev pub IsComplete : Design → Limits → List Effect → List (List ℕ × End) → Type 0
IsComplete design limits nodes shown =
    record {
      begun : IsAmongVisited nodes (silent (start design));
      reached : (e : Effect) → Contains nodes e → IsReachable design e;
      covered : (e : Effect) → Contains nodes e → Covers design limits nodes e;
      ends : (e : Effect) (end : End) → Contains nodes e → EndsHere design limits e end → Shows shown e.lines end;
    }

-- Where a search is complete, the lines and the end of each lawful run in time that ends, but by its most entries or want
-- of memory, are shown.
abbrev pub CompleteShowsAll : Type 0
CompleteShowsAll =
    (design : Design) (limits : Limits) (nodes : List Effect) (shown : List (List ℕ × End)) (journal : List Entry) (e : Effect) (end : End)
    → IsComplete design limits nodes shown → run design journal ≡ Some e → AreTimely limits journal → end ≢ Stopped Entries
    → end ≢ Stopped Memory → EndsIn design limits (length journal) e.state end → Shows shown e.lines end
