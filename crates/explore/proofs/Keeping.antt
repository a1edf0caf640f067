-- How what is kept grows.
use Rattle.std.proofs.Common.{◌≡◌, ℕ, suc, ◌<◌, ◌≤◌, List, [], ◌∷◌, ◌++◌, length, get_or, Some, refl, sym, ap, ◌∙◌, subst, arith, length-append, ◌⊎◌, inl, inr}
use Rattle.std.specs.Prelude.{slice_get, None, Option, IfSome}
use Rattle.std.specs.List.{All, Any}
use Rattle.std.proofs.lemmas.List.Elements.{All-push, All-nil, All-pop}
use Rattle.std.proofs.lemmas.List.Quantifiers.{Any-push}
use Rattle.std.proofs.lemmas.Bool.{cases_lt}
use Rattle.std.proofs.lemmas.List.{get_or_append_left}
use Rattle.std.proofs.Math.Seq.{get_or-append_seam}
use Rattle.sharing.specs.Parts.{Extends}
use Rattle.explore.specs.Grown.{grown}
use Rattle.explore.specs.Pieces.{pieces}
use Rattle.explore.specs.Placed.{IsPlaced, ArePlaced}
use Rattle.explore.specs.SearchKept.{AreKept, AreKeptFurther, Grows, IsBare, IsText, IsVisited, StayUnmarked}
use Rattle.explore.specs.SearchedRuns.{Runs}
use Rattle.explore.specs.Search.{Serves, IsShown, IsFollowed}
use Rattle.explore.specs.NumberedTexts.{texts, IsTexts}
use Rattle.explore.specs.Lineage.{ways, IsLineage}
use Rattle.explore.specs.Visited.{IsThere, visits, AreVisits}
use Rattle.explore.specs.declared.Shown.{Shown}
use Rattle.explore.specs.declared.kept.KeptNodes.{KeptNodes}
use Rattle.explore.specs.declared.kept.Reached.{Reached}
use Rattle.explore.specs.declared.lineage.Lineage.{Lineage}
use Rattle.explore.proofs.Growing.{Extends-itself, Extends-through, length-extends, get_or-extends, length-grown, get_or-grown, slice_get_push, none_some}
use Rattle.explore.proofs.Places.{ArePlaced-more}
use Rattle.explore.proofs.Complete.{Any-extends, IsFollowed-more, AreFollowed}

-- a run's text stays its text
pub IsText-more : {M N E : Type 0} (runs : Runs M N E) (old new : List (List M)) (told told' : List (List ℕ)) (reached : Reached) → Extends old new → Extends told told' → IsText runs old told reached → IsText runs new told' reached
IsText-more {M} runs old new told told' reached more longer text =
    record {
      way = let far = length-extends old new more in let within = text.way in omega (arith, far, within);
      told = let far = length-extends told told' longer in let within = text.told in omega (arith, far, within);
      same = get_or-extends told told' reached.text [] longer text.told ∙ (text.same ∙ ap runs.text (sym (get_or-extends old new reached.number [] more text.way)));
    }

-- a visit stays one
IsVisited-more : {M N E : Type 0} (runs : Runs M N E) (HasKey : N → List ℕ → Type 0) (old new : List (List M)) (told told' : List (List ℕ)) (reached : Reached) (key : List ℕ) → Extends old new → Extends told told' → IsVisited runs HasKey old told reached key → IsVisited runs HasKey new told' reached key
IsVisited-more {M} runs HasKey old new told told' reached key more longer visit =
    record {
      node = visit.node;
      stands = subst (λ (l : List M). runs.Stands visit.node l) (sym (get_or-extends old new reached.number [] more visit.text.way)) visit.stands;
      keyed = visit.keyed;
      text = IsText-more runs old new told told' reached more longer visit.text;
    }

-- what is kept is good where texts are added
pub AreKept-texts : {M N E : Type 0} (runs : Runs M N E) (HasKey : N → List ℕ → Type 0) (old new : KeptNodes N M) → AreKept runs HasKey old → new.lineage ≡ old.lineage → IsTexts new.texts → Extends (texts old.texts) (texts new.texts) →
    AreVisits new.visited → visits new.visited ≡ visits old.visited → new.pending.items ≡ old.pending.items → new.nodes ≡ old.nodes → AreKept runs HasKey new
AreKept-texts {M} {N} runs HasKey old new kept lineage ok longer whole keys pending nodes =
    let more : Extends (ways old.lineage) (ways new.lineage) = subst (λ t. Extends (ways old.lineage) (ways t)) (sym lineage) (Extends-itself (ways old.lineage)) in
    record {
      lineage = subst IsLineage (sym lineage) kept.lineage;
      told = ok;
      whole = whole;
      count = ap length keys ∙ (kept.count ∙ ap (λ t. length (ways t)) (sym lineage));
      visited = λ k visit e. IsVisited-more runs HasKey (ways old.lineage) (ways new.lineage) (texts old.texts) (texts new.texts) (record { number = k; text = visit.0 }) visit.1 more longer
          (kept.visited k visit (ap (λ (l : List (ℕ × List ℕ)). slice_get l k) (sym keys) ∙ e));
      pending = subst (λ (l : List Reached). All (IsText runs (ways new.lineage) (texts new.texts)) l) (sym pending)
          (λ k d less. IsText-more runs (ways old.lineage) (ways new.lineage) (texts old.texts) (texts new.texts) (get_or old.pending.items k d) more longer (kept.pending k d less));
      placed = subst (ArePlaced runs (ways new.lineage)) (sym nodes) (ArePlaced-more runs (ways old.lineage) (ways new.lineage) old.nodes more kept.placed);
    }

-- what is kept grows where texts are added
pub Grows-texts : {M N : Type 0} (old new : KeptNodes N M) → new.lineage ≡ old.lineage → Extends old.links.edges.items new.links.edges.items → Extends (texts old.texts) (texts new.texts) → new.pending.items ≡ old.pending.items → Grows old new
Grows-texts {M} {N} old new lineage edges longer pending =
    let same : length (ways new.lineage) ≡ length (ways old.lineage) = ap (λ t. length (ways t)) lineage in
    record {
      lineage = subst (λ t. Extends (ways old.lineage) (ways t)) (sym lineage) (Extends-itself (ways old.lineage));
      steps = subst (λ (t : Lineage M). Extends (pieces old.lineage.steps) (pieces t.steps)) (sym lineage) (Extends-itself (pieces old.lineage.steps));
      edges = edges;
      texts = longer;
      pending = subst (λ (l : List Reached). Extends old.pending.items l) (sym pending) (Extends-itself old.pending.items);
      count = omega (arith, same, ap length pending);
      waits = λ k low high. absurd (omega (arith, same));
    }

-- the moves of a run that was added
pub last_grown : {M : Type 0} (old new : List (List M)) (from : ℕ) (moves : List M) → new ≡ grown old from moves → get_or new (length old) [] ≡ get_or old from [] ++ moves
last_grown {M} old new from moves more = ap (λ (l : List (List M)). get_or l (length old) []) more ∙ get_or-grown old from moves

-- the text of a run that goes on from another by these moves
pub IsText-next : {M N E : Type 0} (runs : Runs M N E) (old new : List (List M)) (told : List (List ℕ)) (from text : ℕ) (moves : List M) → new ≡ grown old from moves → text < length told → get_or told text [] ≡ runs.text (get_or old from [] ++ moves) → IsText runs new told (record { number = length old; text = text })
IsText-next {M} runs old new told from text moves more within same =
    record {
      way = omega (arith, ap length more, length-grown old from moves);
      told = within;
      same = same ∙ ap runs.text (sym (last_grown old new from moves more));
    }

visited_pushed : {M N E : Type 0} (runs : Runs M N E) (HasKey : N → List ℕ → Type 0) (old new : List (List M)) (told told' : List (List ℕ)) (keys : List (ℕ × List ℕ)) (visit v : ℕ × List ℕ) (k : ℕ) → Extends old new → Extends told told' → length keys ≡ length old →
    ((k : ℕ) (v : ℕ × List ℕ) → slice_get keys k ≡ Some v → IsVisited runs HasKey old told (record { number = k; text = v.0 }) v.1) → IsVisited runs HasKey new told' (record { number = length old; text = visit.0 }) visit.1 →
    slice_get (keys ++ visit ∷ []) k ≡ Some v → IsVisited runs HasKey new told' (record { number = k; text = v.0 }) v.1
visited_pushed runs HasKey old new told told' keys visit v k more longer count before now e = elim (slice_get_push keys visit v k e) [
  | inl h ↦ IsVisited-more runs HasKey old new told told' (record { number = k; text = v.0 }) v.1 more longer (before k v h.1)
  | inr h ↦
      let at : length old ≡ k = sym (h.0 ∙ count) in
      subst (λ (x : ℕ × List ℕ). IsVisited runs HasKey new told' (record { number = k; text = x.0 }) x.1) h.1
      (subst (λ (n : ℕ). IsVisited runs HasKey new told' (record { number = n; text = visit.0 }) visit.1) at now)
]

-- what is kept is good where a run is added, with its text and its visit
pub AreKept-push : {M N E : Type 0} (runs : Runs M N E) (HasKey : N → List ℕ → Type 0) (old new : KeptNodes N M) (from text : ℕ) (moves : List M) (visit : ℕ × List ℕ) (p : Reached) → AreKept runs HasKey old →
    IsLineage new.lineage → ways new.lineage ≡ grown (ways old.lineage) from moves → IsTexts new.texts → Extends (texts old.texts) (texts new.texts) →
    AreVisits new.visited → visits new.visited ≡ visits old.visited ++ visit ∷ [] → new.pending.items ≡ old.pending.items ++ p ∷ [] →
    IsVisited runs HasKey (ways new.lineage) (texts new.texts) (record { number = length (ways old.lineage); text = visit.0 }) visit.1 → IsText runs (ways new.lineage) (texts new.texts) p →
    new.nodes ≡ old.nodes → AreKept runs HasKey new
AreKept-push {M} {N} runs HasKey old new from text moves visit p kept lineage added ok longer whole keys pending seen told nodes =
    let more : Extends (ways old.lineage) (ways new.lineage) = (_, added) in
    record {
      lineage = lineage;
      told = ok;
      whole = whole;
      count = omega (arith, ap length keys, length-append (visits old.visited) (visit ∷ []), kept.count, ap length added, length-grown (ways old.lineage) from moves);
      visited = λ k v e. visited_pushed runs HasKey (ways old.lineage) (ways new.lineage) (texts old.texts) (texts new.texts) (visits old.visited) visit v k more longer kept.count kept.visited seen
          (ap (λ (l : List (ℕ × List ℕ)). slice_get l k) (sym keys) ∙ e);
      pending = subst (λ (l : List Reached). All (IsText runs (ways new.lineage) (texts new.texts)) l) (sym pending)
          (All-push (IsText runs (ways new.lineage) (texts new.texts)) old.pending.items p
          (λ k d less. IsText-more runs (ways old.lineage) (ways new.lineage) (texts old.texts) (texts new.texts) (get_or old.pending.items k d) more longer (kept.pending k d less)) told);
      placed = subst (ArePlaced runs (ways new.lineage)) (sym nodes) (ArePlaced-more runs (ways old.lineage) (ways new.lineage) old.nodes more kept.placed);
    }

-- what is kept grows where a run is added
pub Grows-push : {M N : Type 0} (old new : KeptNodes N M) (from : ℕ) (moves : List M) (p : Reached) → ways new.lineage ≡ grown (ways old.lineage) from moves → Extends (pieces old.lineage.steps) (pieces new.lineage.steps) → Extends old.links.edges.items new.links.edges.items → Extends (texts old.texts) (texts new.texts) →
    new.pending.items ≡ old.pending.items ++ p ∷ [] → p.number ≡ length (ways old.lineage) → Grows old new
Grows-push {M} {N} old new from moves p added steps edges longer pending number =
    let long : length (ways new.lineage) ≡ suc (length (ways old.lineage)) = ap length added ∙ length-grown (ways old.lineage) from moves in
    record {
      lineage = (_, added);
      steps = steps;
      edges = edges;
      texts = longer;
      pending = (p ∷ [], pending);
      count = omega (arith, long, ap length pending, length-append old.pending.items (p ∷ []));
      waits = λ k low high.
          let at : p.number ≡ k = omega (arith, number, long) in
          subst (λ (l : List Reached). Any (λ x. x.number ≡ k) l) (sym pending) (Any-push (λ (x : Reached). x.number ≡ k) old.pending.items p at);
    }

waits_through : {M N : Type 0} (a b c : KeptNodes N M) (k : ℕ) → Grows a b → Grows b c → length (ways a.lineage) ≤ k → k < length (ways c.lineage) → Any (λ x. x.number ≡ k) c.pending.items
waits_through {M} {N} a b c k first second low high = elim (cases_lt k (length (ways b.lineage))) [
  | inl less ↦ Any-extends (λ (x : Reached). x.number ≡ k) b.pending.items c.pending.items second.pending (first.waits k low less)
  | inr far ↦ second.waits k far high
]

-- growth goes on
pub Grows-through : {M N : Type 0} (a b c : KeptNodes N M) → Grows a b → Grows b c → Grows a c
Grows-through {M} {N} a b c first second =
    record {
      lineage = Extends-through (ways a.lineage) (ways b.lineage) (ways c.lineage) first.lineage second.lineage;
      steps = Extends-through (pieces a.lineage.steps) (pieces b.lineage.steps) (pieces c.lineage.steps) first.steps second.steps;
      edges = Extends-through a.links.edges.items b.links.edges.items c.links.edges.items first.edges second.edges;
      texts = Extends-through (texts a.texts) (texts b.texts) (texts c.texts) first.texts second.texts;
      pending = Extends-through a.pending.items b.pending.items c.pending.items first.pending second.pending;
      count = omega (arith, first.count, second.count);
      waits = λ k low high. waits_through a b c k first second low high;
    }

-- what is kept further, and further from there
pub further_through : {M N E : Type 0} (runs : Runs M N E) (HasKey : N → List ℕ → Type 0) (time_of : N → ℕ) (most : ℕ) (a b c : KeptNodes N M) → Grows a b → StayUnmarked a b → AreKeptFurther runs HasKey time_of most b c → AreKeptFurther runs HasKey time_of most a c
further_through runs HasKey time_of most a b c grows stay then = record { well = then.well; grows = Grows-through a b c grows then.grows; unmarked = λ k none. stay k (then.unmarked k none) }

-- what is kept grows from itself
pub Grows-itself : {M N : Type 0} (a : KeptNodes N M) → Grows a a
Grows-itself a = Grows-texts a a refl (Extends-itself a.links.edges.items) (Extends-itself (texts a.texts)) refl

-- the visit of a node that is added
pub IsVisited-next : {M N E : Type 0} (runs : Runs M N E) (HasKey : N → List ℕ → Type 0) (old new : List (List M)) (told : List (List ℕ)) (node : N) (from text : ℕ) (moves : List M) (key : List ℕ) → new ≡ grown old from moves → runs.Stands node (get_or old from [] ++ moves) → HasKey node key →
    IsText runs new told (record { number = length old; text = text }) → IsVisited runs HasKey new told (record { number = length old; text = text }) key
IsVisited-next {M} runs HasKey old new told node from text moves key more stands keyed at =
    record { node = node; stands = subst (λ (l : List M). runs.Stands node l) (sym (last_grown old new from moves more)) stands; keyed = keyed; text = at }

-- a node that is added stands at the run that is added
pub stands_next : {M N E : Type 0} (runs : Runs M N E) (old new : List (List M)) (node : N) (from : ℕ) (moves : List M) → new ≡ grown old from moves → runs.Stands node (get_or old from [] ++ moves) → runs.Stands node (get_or new (length old) [])
stands_next {M} runs old new node from moves more stands = subst (λ (l : List M). runs.Stands node l) (sym (last_grown old new from moves more)) stands

-- what is kept is good without the node that was added last, which is pending, and with other nodes that stand at their runs
pub AreKept-pop : {M N E : Type 0} (runs : Runs M N E) (HasKey : N → List ℕ → Type 0) (old new : KeptNodes N M) (p : Reached) → AreKept runs HasKey old → new.lineage ≡ old.lineage → new.texts ≡ old.texts → new.visited ≡ old.visited → old.pending.items ≡ new.pending.items ++ p ∷ [] → ArePlaced runs (ways old.lineage) new.nodes →
    AreKept runs HasKey new × IsText runs (ways old.lineage) (texts old.texts) p
AreKept-pop {M} {N} runs HasKey old new p kept lineage told visited pending placed =
    let parts = All-pop (IsText runs (ways old.lineage) (texts old.texts)) old.pending.items new.pending.items (Some p) pending kept.pending in (
      record {
        lineage = subst IsLineage (sym lineage) kept.lineage;
        told = subst IsTexts (sym told) kept.told;
        whole = subst AreVisits (sym visited) kept.whole;
        count = ap (λ v. length (visits v)) visited ∙ (kept.count ∙ ap (λ t. length (ways t)) (sym lineage));
        visited = λ k v e. subst (λ t. IsVisited runs HasKey (ways t) (texts new.texts) (record { number = k; text = v.0 }) v.1) (sym lineage)
            (subst (λ t. IsVisited runs HasKey (ways old.lineage) (texts t) (record { number = k; text = v.0 }) v.1) (sym told) (kept.visited k v (ap (λ s. slice_get (visits s) k) (sym visited) ∙ e)));
        pending = subst (λ t. All (IsText runs (ways t) (texts new.texts)) new.pending.items) (sym lineage) (subst (λ t. All (IsText runs (ways old.lineage) (texts t)) new.pending.items) (sym told) parts.0);
        placed = subst (λ t. ArePlaced runs (ways t) new.nodes) (sym lineage) placed;
      },
      parts.1,
    )

-- the first visit is new
pub keys_first : (o : Option ℕ) (old new : List (ℕ × List ℕ)) (visit : ℕ × List ℕ) → old ≡ [] → IfSome o (λ number. (new ≡ old) × IsThere visit old number) → (o ≡ None → new ≡ old ++ visit ∷ []) → new ≡ visit ∷ []
keys_first None old new visit none found added = added refl ∙ ap (λ l. l ++ visit ∷ []) none
keys_first (Some number) old new visit none found added = absurd (none_some visit (subst (λ (l : List (ℕ × List ℕ)). slice_get l number ≡ Some visit) none found.1))

only_visit : {M N E : Type 0} (runs : Runs M N E) (HasKey : N → List ℕ → Type 0) (w : List (List M)) (t : List (List ℕ)) (visit v : ℕ × List ℕ) (k : ℕ) → IsVisited runs HasKey w t (record { number = 0; text = visit.0 }) visit.1 → slice_get (visit ∷ []) k ≡ Some v → IsVisited runs HasKey w t (record { number = k; text = v.0 }) v.1
only_visit runs HasKey w t visit v k first e = elim (slice_get_push [] visit v k e) [
  | inl h ↦ absurd (omega (arith, h.0))
  | inr h ↦ subst (λ (x : ℕ × List ℕ). IsVisited runs HasKey w t (record { number = k; text = x.0 }) x.1) h.1 (subst (λ (n : ℕ). IsVisited runs HasKey w t (record { number = n; text = visit.0 }) visit.1) (sym h.0) first)
]

-- what is kept at first, by what was kept before it
pub AreKept-first : {M N E : Type 0} (runs : Runs M N E) (HasKey : N → List ℕ → Type 0) (old new : KeptNodes N M) (node : N) (visit : ℕ × List ℕ) → IsBare old → new.lineage ≡ old.lineage → new.texts ≡ old.texts → AreVisits new.visited → visits new.visited ≡ visit ∷ [] →
    new.pending.items ≡ record { number = 0; text = 0 } ∷ [] → new.nodes ≡ old.nodes → visit.0 ≡ 0 → runs.Stands node [] → HasKey node visit.1 → runs.text [] ≡ [] → AreKept runs HasKey new
AreKept-first {M} {N} runs HasKey old new node visit bare lineage told whole keys pending nodes zeroth stands keyed silent =
    let one : ways new.lineage ≡ [] ∷ [] = ap (λ (t : Lineage M). ways t) lineage ∙ bare.run in
    let none : texts new.texts ≡ [] ∷ [] = ap texts told ∙ bare.empty in
    let first : get_or (ways new.lineage) 0 [] ≡ [] = ap (λ (l : List (List M)). get_or l 0 []) one in
    let at : IsText runs (ways new.lineage) (texts new.texts) (record { number = 0; text = 0 }) = record {
      way = omega (arith, ap length one);
      told = omega (arith, ap length none);
      same = ap (λ (l : List (List ℕ)). get_or l 0 []) none ∙ (sym silent ∙ ap runs.text (sym first));
    } in
    let seen : IsVisited runs HasKey (ways new.lineage) (texts new.texts) (record { number = 0; text = visit.0 }) visit.1 = record {
      node = node;
      stands = subst (λ (l : List M). runs.Stands node l) (sym first) stands;
      keyed = keyed;
      text = subst (λ (n : ℕ). IsText runs (ways new.lineage) (texts new.texts) (record { number = 0; text = n })) (sym zeroth) at;
    } in
    record {
      lineage = subst IsLineage (sym lineage) bare.lineage;
      told = subst IsTexts (sym told) bare.told;
      whole = whole;
      count = omega (arith, ap length keys, ap length one);
      visited = λ k v e. only_visit runs HasKey (ways new.lineage) (texts new.texts) visit v k seen (ap (λ (l : List (ℕ × List ℕ)). slice_get l k) (sym keys) ∙ e);
      pending = subst (λ (l : List Reached). All (IsText runs (ways new.lineage) (texts new.texts)) l) (sym pending)
          (All-push (IsText runs (ways new.lineage) (texts new.texts)) [] (record { number = 0; text = 0 }) (All-nil (IsText runs (ways new.lineage) (texts new.texts))) at);
      placed = subst (ArePlaced runs (ways new.lineage)) (sym nodes) (record {
        newest = subst (All (IsPlaced runs (ways new.lineage))) (sym bare.newest) (All-nil (IsPlaced runs (ways new.lineage)));
        checkpoints = subst (All (IsPlaced runs (ways new.lineage))) (sym bare.checkpoints) (All-nil (IsPlaced runs (ways new.lineage)));
      });
    }

-- one of some elements with one more is one of them, or that one
pub Any-split : {X : Type 0} (P : X → Type 0) (xs : List X) (x : X) → Any P (xs ++ x ∷ []) → Any P xs ⊎ P x
Any-split P xs x at = elim (cases_lt at.0 (length xs)) [
  | inl low ↦ inl (at.0, at.1, low, sym (get_or_append_left xs (x ∷ []) at.1 at.0 low) ∙ at.3, at.4)
  | inr high ↦
      let same : at.0 ≡ length xs = omega (arith, at.2, length-append xs (x ∷ [])) in
      inr (subst P (sym at.3 ∙ (ap (λ n. get_or (xs ++ x ∷ []) n at.1) same ∙ get_or-append_seam xs x [] at.1)) at.4)
]

-- what is known of the run with a number: its node is pending, or it is followed
abbrev pub IsKnown : {M N E : Type 0} → Runs M N E → KeptNodes N M → List (Shown M E) → ℕ → Type 0
IsKnown runs kept shown k = Any (λ p. p.number ≡ k) kept.pending.items ⊎ IsFollowed runs (IsShown shown) (Serves runs) (ways kept.lineage) (get_or (ways kept.lineage) k [])

known_before : {M N E : Type 0} (runs : Runs M N E) (old mid new : KeptNodes N M) (p : Reached) (shown shown' : List (Shown M E)) (k : ℕ) → mid.lineage ≡ old.lineage → old.pending.items ≡ mid.pending.items ++ p ∷ [] → Grows mid new → Extends shown shown' →
    k < length (ways old.lineage) → IsFollowed runs (IsShown shown') (Serves runs) (ways new.lineage) (get_or (ways old.lineage) p.number []) → IsKnown runs old shown k → IsKnown runs new shown' k
known_before {M} {N} {E} runs old mid new p shown shown' k lineage popped grows told less now known =
    let more : Extends (ways old.lineage) (ways new.lineage) = subst (λ t. Extends (ways t) (ways new.lineage)) lineage grows.lineage in
    let same : get_or (ways new.lineage) k [] ≡ get_or (ways old.lineage) k [] = get_or-extends (ways old.lineage) (ways new.lineage) k [] more less in
    elim known [
      | inl at ↦ elim (Any-split (λ (x : Reached). x.number ≡ k) mid.pending.items p (subst (λ (l : List Reached). Any (λ x. x.number ≡ k) l) popped at)) [
        | inl there ↦ inl (Any-extends (λ (x : Reached). x.number ≡ k) mid.pending.items new.pending.items grows.pending there)
        | inr is ↦ inr (subst (λ (l : List M). IsFollowed runs (IsShown shown') (Serves runs) (ways new.lineage) l) (ap (λ (n : ℕ). get_or (ways old.lineage) n []) is ∙ sym same) now)
      ]
      | inr followed ↦ inr (subst (λ (l : List M). IsFollowed runs (IsShown shown') (Serves runs) (ways new.lineage) l) (sym same)
          (IsFollowed-more runs (ways old.lineage) (ways new.lineage) shown shown' (get_or (ways old.lineage) k []) more told followed))
    ]

-- what is known of each run, after the node that was added last was expanded
pub known_more : {M N E : Type 0} (runs : Runs M N E) (old mid new : KeptNodes N M) (p : Reached) (shown shown' : List (Shown M E)) (k : ℕ) → mid.lineage ≡ old.lineage → old.pending.items ≡ mid.pending.items ++ p ∷ [] → Grows mid new → Extends shown shown' →
    IsFollowed runs (IsShown shown') (Serves runs) (ways new.lineage) (get_or (ways old.lineage) p.number []) → ((k : ℕ) → k < length (ways old.lineage) → IsKnown runs old shown k) → k < length (ways new.lineage) → IsKnown runs new shown' k
known_more runs old mid new p shown shown' k lineage popped grows told now before less = elim (cases_lt k (length (ways old.lineage))) [
  | inl low ↦ known_before runs old mid new p shown shown' k lineage popped grows told low now (before k low)
  | inr high ↦ inl (grows.waits k (let same : length (ways mid.lineage) ≡ length (ways old.lineage) = ap (λ t. length (ways t)) lineage in omega (arith, same, high)) less)
]

-- where no node is pending, each run is followed
pub all_followed : {M N E : Type 0} (runs : Runs M N E) (kept : KeptNodes N M) (shown : List (Shown M E)) → length kept.pending.items ≡ 0 → ((k : ℕ) → k < length (ways kept.lineage) → IsKnown runs kept shown k) → AreFollowed runs shown (ways kept.lineage)
all_followed runs kept shown none known k less = elim (known k less) [
  | inl at ↦ absurd (omega (arith, at.2, none))
  | inr followed ↦ followed
]
