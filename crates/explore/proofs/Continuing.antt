-- Where the ways from a node lead, and that no run comes to an end where none of them leads to one.
use Rattle.std.proofs.Common.{◌≡◌, ℕ, zero, suc, ◌<◌, List, [], ◌∷◌, ◌++◌, length, get_or, Option, Some, refl, sym, ap, ◌∙◌, subst, arith, append_assoc, ◌⊎◌, inl, inr, Bool, true, false, ◌&&◌, Vec, Global, vec_len, ◌==◌}
use Rattle.std.specs.Prelude.{slice_get, IfSome}
use Rattle.std.specs.List.{All, Any}
use Rattle.std.proofs.lemmas.Grind.{common_steps}
use Rattle.std.proofs.lemmas.List.{get_or_default}
use Rattle.std.proofs.lemmas.List.Elements.{All-cons}
use Rattle.sharing.specs.Parts.{Extends}
use Rattle.explore.specs.Grown.{grown}
use Rattle.explore.specs.Pieces.{pieces}
use Rattle.explore.specs.Links.{IsEdge, IsRunStep, IsLinked, IsUnmarked, AreClosed}
use Rattle.explore.specs.SearchKept.{AreKept, Grows, IsServed, LeadsOn, IsContinued, AreContinued, StayUnmarked}
use Rattle.explore.specs.SearchedRuns.{Runs}
use Rattle.explore.specs.Search.{Serves, IsCovered, NeverEnds}
use Rattle.explore.specs.NumberedTexts.{texts}
use Rattle.explore.specs.Lineage.{ways}
use Rattle.explore.specs.Visited.{IsThere, visits}
use Rattle.explore.specs.declared.EndedPath.{EndedPath}
use Rattle.explore.specs.declared.Successor.{Successor}
use Rattle.explore.specs.declared.kept.KeptNodes.{KeptNodes}
use Rattle.explore.specs.declared.links.SearchEdge.{SearchEdge}
use Rattle.explore.proofs.Growing.{length-extends, get_or-extends, length-grown, slice_get-extends}
use Rattle.explore.proofs.Steps.{length-gone}
use Rattle.explore.proofs.Complete.{Any-extends, Serves-itself, Serves-through, shorter}
use Rattle.explore.proofs.Keeping.{last_grown}

-- a number that was found is that of a visit
pub found_at : (o : Option ℕ) (n : ℕ) (P : ℕ → Type 0) → o ≡ Some n → IfSome o P → P n
found_at o n P is found = subst (λ (x : Option ℕ). IfSome x P) is found

clash : true ≡ false → ⊥
clash e = cc

-- an answer that passes doesn't fail
pub never_false : {X : Type 0} → true ≡ false → X
never_false e = absurd (clash e)

-- one of two tests fails where not both pass
pub one_false : (a b : Bool) → (a && b) ≡ false → (a ≡ false) ⊎ (b ≡ false)
one_false true b h = inr h
one_false false b h = inl refl

-- what an answer of `is_empty` says of the elements
pub empty_is_none : {X : Type 0} (v : Vec X Global) (b : Bool) → b ≡ (vec_len v == 0) → b ≡ true → length v.items ≡ 0
empty_is_none v b is yes_it_is = grind (arith, common_steps)

-- a run that serves this one was reached, where one of the ways from a node leads to it
pub leads_of : {M N E : Type 0} (runs : Runs M N E) (kept : KeptNodes N M) (from : ℕ) (run : List M) → LeadsOn runs kept from run → IsServed runs (ways kept.lineage) run
leads_of {M} runs kept from run on =
    let way = get_or (ways kept.lineage) on.to [] in
    (on.to, way, on.within, get_or_default (ways kept.lineage) on.to way [] on.within, on.serves)

-- a way leads where it led, where runs, steps and edges are added
step_more : {M : Type 0} (old new : List (ℕ × List M)) (from to : ℕ) → Extends old new → IsRunStep old from to → IsRunStep new from to
step_more old new from to more (k, moves, is, at) = (k, moves, is, slice_get-extends old new k (from, moves) more at)

linked_more : {M : Type 0} (old new : List (ℕ × List M)) (edges edges' : List SearchEdge) (from to : ℕ) → Extends old new → Extends edges edges' → IsLinked old edges from to → IsLinked new edges' from to
linked_more old new edges edges' from to more most linked = elim linked [
  | inl step ↦ inl (step_more old new from to more step)
  | inr edge ↦ inr (Any-extends (IsEdge from to) edges edges' most edge)
]

pub LeadsOn-more : {M N E : Type 0} (runs : Runs M N E) (old new : KeptNodes N M) (from : ℕ) (run : List M) → Extends (ways old.lineage) (ways new.lineage) → Extends (pieces old.lineage.steps) (pieces new.lineage.steps) → Extends old.links.edges.items new.links.edges.items → LeadsOn runs old from run → LeadsOn runs new from run
LeadsOn-more {M} runs old new from run more steps edges on =
    let far = length-extends (ways old.lineage) (ways new.lineage) more in
    let within = on.within in
    record {
      to = on.to;
      within = omega (arith, far, within);
      linked = linked_more (pieces old.lineage.steps) (pieces new.lineage.steps) old.links.edges.items new.links.edges.items from on.to steps edges on.linked;
      serves = subst (λ (l : List M). Serves runs run l) (sym (get_or-extends (ways old.lineage) (ways new.lineage) on.to [] more within)) on.serves;
    }

-- a run is continued as it was, where runs, steps and edges are added
pub IsContinued-more : {M N E : Type 0} (runs : Runs M N E) (old new : KeptNodes N M) (from : ℕ) → Extends (ways old.lineage) (ways new.lineage) → Extends (pieces old.lineage.steps) (pieces new.lineage.steps) → Extends old.links.edges.items new.links.edges.items → IsContinued runs old from → IsContinued runs new from
IsContinued-more {M} {N} {E} runs old new from more steps edges before =
    let far = length-extends (ways old.lineage) (ways new.lineage) more in
    let within = before.within in
    let same : get_or (ways new.lineage) from [] ≡ get_or (ways old.lineage) from [] = get_or-extends (ways old.lineage) (ways new.lineage) from [] more within in
    record {
      within = omega (arith, far, within);
      goes_on = λ moves end ends.
          let p = before.goes_on moves end (subst (λ (l : List M). runs.Ends (l ++ moves) end) same ends) in
          let on : LeadsOn runs new from (get_or (ways old.lineage) from [] ++ p.part) = LeadsOn-more runs old new from (get_or (ways old.lineage) from [] ++ p.part) more steps edges p.leads in
          record {
            part = p.part;
            rest = p.rest;
            moved = p.moved;
            split = p.split;
            leads = subst (λ (l : List M). LeadsOn runs new from (l ++ p.part)) (sym same) on;
          };
    }

-- each node at which no run ends is continued, where runs, steps and edges are added
pub AreContinued-more : {M N E : Type 0} (runs : Runs M N E) (old new : KeptNodes N M) → Extends (ways old.lineage) (ways new.lineage) → Extends (pieces old.lineage.steps) (pieces new.lineage.steps) → Extends old.links.edges.items new.links.edges.items → StayUnmarked old new → AreContinued runs old → AreContinued runs new
AreContinued-more runs old new more steps edges stay before k none = IsContinued-more runs old new k more steps edges (before k (stay k none))

-- where the visit of the same key and the same text is there, an edge leads to a run that serves the one that leads to the node
pub there_leads : {M N E : Type 0} (runs : Runs M N E) (HasKey : N → List ℕ → Type 0) (old new : KeptNodes N M) (told : List (List ℕ)) (node : N) (from : ℕ) (run : List M) (visit : ℕ × List ℕ) (number : ℕ) →
    ((a b : N) (i j : List M) (key : List ℕ) → HasKey a key → HasKey b key → runs.Stands a i → runs.Stands b j → runs.text i ≡ runs.text j → Serves runs i j) →
    AreKept runs HasKey old → Extends (texts old.texts) told → runs.Stands node run → HasKey node visit.1 → get_or told visit.0 [] ≡ runs.text run → IsThere visit (visits old.visited) number →
    new.lineage ≡ old.lineage → Any (IsEdge from number) new.links.edges.items → LeadsOn runs new from run
there_leads {M} {N} runs HasKey old new told node from run visit number law kept longer stands keyed text there lineage edge =
    let seen = kept.visited number visit there in
    let within : number < length (ways old.lineage) = seen.text.way in
    let same : runs.text run ≡ runs.text (get_or (ways old.lineage) number []) =
    sym text ∙ (get_or-extends (texts old.texts) told visit.0 [] longer seen.text.told ∙ seen.text.same) in
    let serves : Serves runs run (get_or (ways old.lineage) number []) = law node seen.node run (get_or (ways old.lineage) number []) visit.1 keyed seen.keyed stands seen.stands same in
    record {
      to = number;
      within = subst (λ t. number < length (ways t)) (sym lineage) within;
      linked = inr edge;
      serves = subst (λ t. Serves runs run (get_or (ways t) number [])) (sym lineage) serves;
    }

slice_get_last : {X : Type 0} (xs : List X) (x : X) → slice_get (xs ++ x ∷ []) (length xs) ≡ Some x
slice_get_last [] x = refl
slice_get_last (y ∷ xs) x = slice_get_last xs x

-- a step leads to a run that is added, which serves itself
pub pushed_leads : {M N E : Type 0} (runs : Runs M N E) (old new : KeptNodes N M) (from : ℕ) (moves told : List M) → ways new.lineage ≡ grown (ways old.lineage) from moves → pieces new.lineage.steps ≡ pieces old.lineage.steps ++ (from, told) ∷ [] → LeadsOn runs new from (get_or (ways old.lineage) from [] ++ moves)
pushed_leads {M} runs old new from moves told more steps =
    let old_ways = ways old.lineage in
    let number = length (pieces old.lineage.steps) in
    let run = get_or old_ways from [] ++ moves in
    let last : length old_ways ≡ suc number = length-gone (pieces old.lineage.steps) in
    let longer : length (ways new.lineage) ≡ suc (length old_ways) = ap length more ∙ length-grown old_ways from moves in
    let at : slice_get (pieces new.lineage.steps) number ≡ Some (from, told) = ap (λ (l : List (ℕ × List M)). slice_get l number) steps ∙ slice_get_last (pieces old.lineage.steps) (from, told) in
    let is : get_or (ways new.lineage) (length old_ways) [] ≡ run = last_grown old_ways (ways new.lineage) from moves more in
    record {
      to = length old_ways;
      within = omega (arith, longer);
      linked = inl (number, told, last, at);
      serves = subst (λ (l : List M). Serves runs run l) (sym is) (Serves-itself runs run);
    }

-- a way that leads somewhere still does where runs, steps and edges are added, and one more does
pub leads_more : {M N E : Type 0} (runs : Runs M N E) (old new : KeptNodes N M) (from : ℕ) (way : List M) (did : List (Successor N M)) (next : Successor N M) → Grows old new → All (λ n. LeadsOn runs old from (way ++ n.moves.items)) did → LeadsOn runs new from (way ++ next.moves.items) →
    All (λ n. LeadsOn runs new from (way ++ n.moves.items)) (next ∷ did)
leads_more {M} {N} runs old new from way did next grows before now =
    All-cons (λ (n : Successor N M). LeadsOn runs new from (way ++ n.moves.items)) next did now
    (λ k d h. LeadsOn-more runs old new from (way ++ (get_or did k d).moves.items) grows.lineage grows.steps grows.edges (before k d h))

-- a node that was expanded whole, and at which no run ends, is continued
pub continued_now : {M N E : Type 0} (runs : Runs M N E) (law : (i j : List M) → runs.Alike i j → Serves runs i j) (successors : List (Successor N M)) (ended : List (EndedPath M E)) (kept : KeptNodes N M) (from : ℕ) (run : List M) →
    from < length (ways kept.lineage) → get_or (ways kept.lineage) from [] ≡ run → length ended ≡ 0 → IsCovered runs successors ended run → All (λ next. LeadsOn runs kept from (run ++ next.moves.items)) successors → IsContinued runs kept from
continued_now {M} {N} {E} runs law successors ended kept from run within is none covered there =
    record {
      within = within;
      goes_on = λ moves end ends. elim (covered moves end (subst (λ (l : List M). runs.Ends (l ++ moves) end) is ends)) [
        | inl told ↦ let less = told.2 in absurd (omega (arith, less, none))
        | inr p ↦
            let at = p.leads in
            let on : LeadsOn runs kept from (run ++ at.1.moves.items) = subst (λ (n : Successor N M). LeadsOn runs kept from (run ++ n.moves.items)) at.3 (there at.0 at.1 at.2) in
            let same : run ++ p.part ≡ get_or (ways kept.lineage) from [] ++ p.part = ap (λ (l : List M). l ++ p.part) (sym is) in
            let serves : Serves runs (run ++ p.part) (get_or (ways kept.lineage) on.to []) = Serves-through runs (run ++ p.part) (run ++ at.1.moves.items) (get_or (ways kept.lineage) on.to []) (law (run ++ p.part) (run ++ at.1.moves.items) at.4) on.serves in
            record {
              part = p.part;
              rest = p.rest;
              moved = p.moved;
              split = p.split;
              leads = record { to = on.to; within = on.within; linked = on.linked; serves = subst (λ (l : List M). Serves runs l (get_or (ways kept.lineage) on.to [])) same serves };
            }
      ];
    }

-- No run comes to an end by fewer moves than a number that goes on from one whose node has no mark.
no_end_within : {M N E : Type 0} (runs : Runs M N E) (kept : KeptNodes N M) (marks : List Bool) → AreClosed (pieces kept.lineage.steps) kept.links marks → AreContinued runs kept →
    (n k : ℕ) (moves : List M) (end : E) → IsUnmarked marks k → length moves < n → runs.Ends (get_or (ways kept.lineage) k [] ++ moves) end → ⊥
no_end_within runs kept marks closed continued zero k moves end none less ends = absurd (omega (arith, less))
no_end_within {M} {N} {E} runs kept marks closed continued (suc n) k moves end none less ends =
    let run = get_or (ways kept.lineage) k [] in
    let here = continued k (closed.ends k none) in
    let p = here.goes_on moves end ends in
    let same : run ++ moves ≡ (run ++ p.part) ++ p.rest = ap (λ x. run ++ x) p.split ∙ sym (append_assoc run p.part p.rest) in
    let on = p.leads.serves p.rest end (subst (λ (x : List M). runs.Ends x end) same ends) in
    let short : length on.0 < n = shorter moves p.part p.rest on.0 n p.split p.moved on.1 less in
    no_end_within runs kept marks closed continued n p.leads.to on.0 end (closed.linked k p.leads.to p.leads.linked none) short on.2

pub never_ends : {M N E : Type 0} (runs : Runs M N E) (kept : KeptNodes N M) (marks : List Bool) (k : ℕ) → AreClosed (pieces kept.lineage.steps) kept.links marks → AreContinued runs kept → IsUnmarked marks k → NeverEnds runs (get_or (ways kept.lineage) k [])
never_ends runs kept marks k closed continued none moves end ends =
    no_end_within runs kept marks closed continued (suc (length moves)) k moves end none (omega arith) ends
