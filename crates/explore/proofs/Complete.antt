-- Why following each run that was reached shows every run.
use Rattle.std.proofs.Common.{◌≡◌, ℕ, zero, suc, ◌<◌, List, [], ◌∷◌, ◌++◌, length, inl, inr, refl, sym, ap, ◌∙◌, subst, append_assoc, arith, length-append, get_or, Bool, true, false, ◌&&◌, IsTrue}
use Rattle.std.proofs.lemmas.List.Elements.{Contains-append_left}
use Rattle.std.proofs.lemmas.List.{get_or_default}
use Rattle.std.specs.List.{All, Any}
use Rattle.sharing.specs.Parts.{Extends}
use Rattle.explore.specs.SearchKept.{IsServed}
use Rattle.explore.specs.SearchedRuns.{Runs}
use Rattle.explore.specs.Search.{IsShown, Serves, IsFollowed, IsCovered, AreAllShown}
use Rattle.explore.specs.declared.EndedPath.{EndedPath}
use Rattle.explore.specs.declared.Successor.{Successor}
use Rattle.explore.specs.declared.Shown.{Shown}

-- what holds of some element does where more are added
pub Any-extends : {X : Type 0} (P : X → Type 0) (xs ys : List X) → Extends xs ys → Any P xs → Any P ys
Any-extends {X} P xs ys more at =
    let c = Contains-append_left xs more.0 at.1 (at.0, at.2, at.3) in
    subst (λ (l : List X). Any P l) (sym more.1) (c.0, at.1, c.1, c.2, at.4)

-- what serves what serves a run serves it
pub Serves-through : {M N E : Type 0} (runs : Runs M N E) (i j k : List M) → Serves runs i j → Serves runs j k → Serves runs i k
Serves-through runs i j k first second moves end ends =
    let a = first moves end ends in
    let b = second a.0 end a.2 in
    (b.0, b.1 ∙ a.1, b.2, b.3 ∙ a.3)

-- a run serves itself
pub Serves-itself : {M N E : Type 0} (runs : Runs M N E) (i : List M) → Serves runs i i
Serves-itself runs i moves end ends = (moves, refl, ends, refl)

-- what is as long as the rest of some moves is shorter than they are
pub shorter : {M : Type 0} (moves part rest others : List M) (n : ℕ) → moves ≡ part ++ rest → 0 < length part → length others ≡ length rest → length moves < suc n → length others < n
shorter moves part rest others n split moved same less = omega (arith, ap length split, length-append part rest)

-- the run with each number is followed
abbrev pub AreFollowed : {M N E : Type 0} → Runs M N E → List (Shown M E) → List (List M) → Type 0
AreFollowed {M} runs shown ways = (k : ℕ) → k < length ways → IsFollowed runs (IsShown shown) (Serves runs) ways (get_or ways k [])

-- Each run that goes on from one that was reached by fewer moves than a number is shown, where all of them are followed.
shown_within : {M N E : Type 0} (runs : Runs M N E) (ways : List (List M)) (shown : List (Shown M E)) → AreFollowed runs shown ways →
    (n k : ℕ) (moves : List M) (end : E) → k < length ways → length moves < n → runs.Ends (get_or ways k [] ++ moves) end → IsShown shown (runs.text (get_or ways k [] ++ moves)) end
shown_within runs ways shown all zero k moves end within less ends = absurd (omega arith)
shown_within {M} {N} {E} runs ways shown all (suc n) k moves end within less ends =
    let run = get_or ways k [] in
    elim (all k within moves end ends) [
      | inl s ↦ s
      | inr p ↦
          let there = p.leads in
          let is : there.1 ≡ get_or ways there.0 [] = sym there.3 ∙ get_or_default ways there.0 there.1 [] there.2 in
          let same : run ++ moves ≡ (run ++ p.part) ++ p.rest = ap (λ x. run ++ x) p.split ∙ sym (append_assoc run p.part p.rest) in
          let on = (subst (λ (w : List M). Serves runs (run ++ p.part) w) is there.4) p.rest end (subst (λ x. runs.Ends x end) same ends) in
          let short : length on.0 < n = shorter moves p.part p.rest on.0 n p.split p.moved on.1 less in
          subst (λ t. IsShown shown t end) (on.3 ∙ ap runs.text (sym same))
          (shown_within runs ways shown all n there.0 on.0 end there.2 short on.2)
    ]

-- Where the first of the runs has no moves, and all are followed, every run is shown.
pub all_shown : {M N E : Type 0} (runs : Runs M N E) (ways : List (List M)) (shown : List (Shown M E)) → 0 < length ways → get_or ways 0 [] ≡ [] → AreFollowed runs shown ways → AreAllShown runs shown
all_shown {M} {N} {E} runs ways shown some first all moves end ends =
    let same : get_or ways 0 [] ++ moves ≡ moves = ap (λ (l : List M). l ++ moves) first in
    subst (λ (l : List M). IsShown shown (runs.text l) end) same
    (shown_within runs ways shown all (suc (length moves)) 0 moves end some (omega arith) (subst (λ (l : List M). runs.Ends l end) (sym same) ends))

-- a followed run stays so where more is shown and more runs were reached
pub IsFollowed-more : {M N E : Type 0} (runs : Runs M N E) (ways ways' : List (List M)) (shown shown' : List (Shown M E)) (run : List M) → Extends ways ways' → Extends shown shown' →
    IsFollowed runs (IsShown shown) (Serves runs) ways run → IsFollowed runs (IsShown shown') (Serves runs) ways' run
IsFollowed-more {M} {N} {E} runs ways ways' shown shown' run more told followed moves end ends =
    elim (followed moves end ends) [
      | inl s ↦ inl (Any-extends (λ (x : Shown M E). (x.text.items ≡ runs.text (run ++ moves)) × (x.end ≡ end)) shown shown' told s)
      | inr p ↦ inr (record { part = p.part; rest = p.rest; moved = p.moved; split = p.split; leads = Any-extends (λ (way : List M). Serves runs (run ++ p.part) way) ways ways' more p.leads })
    ]

-- A covered run is followed, where runs that serve those of its successors were reached and what it came to is shown.
pub followed_from_covered : {M N E : Type 0} (runs : Runs M N E) (law : (i j : List M) → runs.Alike i j → Serves runs i j) (successors : List (Successor N M)) (ended : List (EndedPath M E)) (ways : List (List M)) (shown : List (Shown M E)) (run : List M) →
    IsCovered runs successors ended run →
    All (λ next. IsServed runs ways (run ++ next.moves.items)) successors →
    All (λ one. IsShown shown (runs.text run ++ one.printed.items) one.end) ended →
    IsFollowed runs (IsShown shown) (Serves runs) ways run
followed_from_covered {M} {N} {E} runs law successors ended ways shown run covered there told moves end ends =
    elim (covered moves end ends) [
      | inl s ↦ inl (
          let here : IsShown shown (runs.text run ++ s.1.printed.items) s.1.end = subst (λ (one : EndedPath M E). IsShown shown (runs.text run ++ one.printed.items) one.end) s.3 (told s.0 s.1 s.2) in
          subst (λ (e : E). IsShown shown (runs.text (run ++ moves)) e) s.4.1 (subst (λ (t : List ℕ). IsShown shown t s.1.end) s.4.0 here))
      | inr p ↦
          let at = p.leads in
          let on : IsServed runs ways (run ++ at.1.moves.items) = subst (λ (n : Successor N M). IsServed runs ways (run ++ n.moves.items)) at.3 (there at.0 at.1 at.2) in
          inr (record {
            part = p.part;
            rest = p.rest;
            moved = p.moved;
            split = p.split;
            leads = (on.0, on.1, on.2, on.3, Serves-through runs (run ++ p.part) (run ++ at.1.moves.items) on.1 (law (run ++ p.part) (run ++ at.1.moves.items) at.4) on.4);
          })
    ]

-- what was taken off the end goes to the front of what was taken
pub taken_more : {X : Type 0} (all old new did : List X) (x : X) → all ≡ old ++ did → old ≡ new ++ x ∷ [] → all ≡ new ++ (x ∷ did)
taken_more all old new did x first popped = first ∙ (ap (λ l. l ++ did) popped ∙ append_assoc new (x ∷ []) did)

-- where nothing is left, all was taken
pub all_taken : {X : Type 0} (all left did : List X) → all ≡ left ++ did → length left ≡ 0 → all ≡ did
all_taken all [] did split none = split
all_taken all (x ∷ left) did split none = absurd (omega arith)

-- two tests pass where both do
pub both_true : (a b : Bool) → IsTrue (a && b) → IsTrue a × IsTrue b
both_true true b h = (refl, h)
both_true false b h = cc
