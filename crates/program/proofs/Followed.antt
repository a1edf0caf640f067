-- Before which time a search left nothing out is so of the texts and the waves that are told of it.
use Rattle.std.proofs.Common.{◌≡◌, ◌⊎◌, ◌∙◌, ◌++◌, ap, inl, inr, refl, subst, sym, ℕ, Bool, true, false, List, [], ◌∷◌, length, get_or, Option, Some, None, Result, Ok, Err, IfOk, IsTrue}
use Rattle.std.specs.List.{All}
use Rattle.std.proofs.lemmas.List.Elements.{All-nil, All-cons, All-head, All-tail}
use Rattle.model.specs.declared.entry.Entry.{Entry}
use Rattle.model.specs.declared.end.End.{End}
use Rattle.design.specs.Compiled.{Compiled}
use Rattle.explore.specs.SearchedRuns.{Runs}
use Rattle.explore.specs.Search.{IsShown}
use Rattle.explore.specs.declared.Explored.{Explored}
use Rattle.explore.specs.declared.Shown.{Shown}
use Rattle.explore.specs.declared.stopped.Stopped.{Stopped}
use Rattle.explore.specs.declared.stopped.Stopped.TheVariants as stopped
use Rattle.loose.specs.declared.transition.LooseTransition.{LooseTransition}
use Rattle.looseruns.specs.ObservedJournals.{Observer, SeenEnd}
use Rattle.observers.specs.Observers.{observer_of}
use Rattle.observers.specs.declared.observing.Observing.{Observing}
use Rattle.lawful.specs.ArrangedNodes.{registers_seen, searched_arranged}
use Rattle.lawful.specs.Journals.{texts_and_ends}
use Rattle.lawful.specs.LawfulOrders.{IsFollowedLoosely}
use Rattle.lawful.specs.LooseNodes.{searched_runs}
use Rattle.lawful.specs.declared.node.LooseNode.{LooseNode}
use Rattle.verdict.specs.declared.claim.Claim.{Claim}
use Rattle.arguments.specs.declared.search_options.SearchOptions.{SearchOptions}
use Rattle.program.specs.Findings.{claim_of, limits_in, met_limit, search_stop_of}
use Rattle.program.specs.FollowedOrders.{AreTextsFollowed, AreWavesFollowed, AreLooseRunsFollowed}
use Rattle.program.specs.Observed.{wave_claim_of}

-- no limit was met
pub unmet : (P : Type 0) → false ≡ true → P
unmet P is = cc

-- what holds of texts and ends holds of others that have just these
all_same : {E : Type 0} (Q : List ℕ → E → Type 0) (xs : List (Shown Entry E)) (ys : List (Shown LooseTransition E)) → texts_and_ends xs ≡ texts_and_ends ys → All (λ s. Q s.text.items s.end) xs → All (λ s. Q s.text.items s.end) ys
all_same {E} Q [] [] same all = All-nil (λ (s : Shown LooseTransition E). Q s.text.items s.end)
all_same Q [] (y ∷ ys) same all = cc
all_same Q (x ∷ xs) [] same all = cc
all_same {E} Q (x ∷ xs) (y ∷ ys) same all =
    let head : (x.text.items, x.end) ≡ (y.text.items, y.end) = ap (λ (l : List (List ℕ × E)). get_or l 0 (x.text.items, x.end)) same in
    let rest : texts_and_ends xs ≡ texts_and_ends ys = cc in
    All-cons (λ (s : Shown LooseTransition E). Q s.text.items s.end) y ys
    (subst (λ (e : E). Q y.text.items e) (ap (λ (p : List ℕ × E). p.1) head)
    (subst (λ (t : List ℕ). Q t x.end) (ap (λ (p : List ℕ × E). p.0) head) (All-head (λ (s : Shown Entry E). Q s.text.items s.end) x xs all)))
    (all_same Q xs ys rest (All-tail (λ (s : Shown Entry E). Q s.text.items s.end) x xs all))

-- what was followed of the loose runs, with the texts that are told
followed_to : {E : Type 0} (runs_by : (ℕ → ℕ) → Runs LooseTransition LooseNode E) (Q : List ℕ → E → Type 0) (IsFull : Type 0) (found : Explored Entry E) → IsFollowedLoosely runs_by found → All (λ s. Q s.text.items s.end) found.shown.items ⊎ IsFull
    → AreLooseRunsFollowed runs_by Q IsFull found.followed_before
followed_to runs_by Q IsFull found is (inl all) = record {
  class = is.class;
  loosely = is.shown;
  followed = is.before;
  told = inl (all_same Q found.shown.items is.shown is.same all);
}
followed_to runs_by Q IsFull found is (inr full) = record {
  class = is.class;
  loosely = is.shown;
  followed = is.before;
  told = inr full;
}

-- where a limit was met memory wasn't refused to the search
not_memory : {F : Type 0} (search_options : SearchOptions) (s : Option Stopped) (added : Result Bool F) (nodes : ℕ) (number : Option ℕ) → met_limit (claim_of search_options (search_stop_of s added) nodes number) ≡ true → s ≡ Some stopped.Memory → ⊥
not_memory search_options None added nodes number met is = cc
not_memory search_options (Some stopped.Nodes) added nodes number met is = cc
not_memory search_options (Some stopped.Shown) added nodes number met is = cc
not_memory search_options (Some stopped.Unfollowed) added nodes number met is = cc
not_memory search_options (Some stopped.Bytes) added nodes number met is = cc
not_memory search_options (Some stopped.Memory) (Ok true) nodes number met is = unmet ⊥ met
not_memory search_options (Some stopped.Memory) (Ok false) nodes number met is = unmet ⊥ met
not_memory search_options (Some stopped.Memory) (Err e) nodes number met is = unmet ⊥ met

-- nor to those that were put behind the known ones
told_or_full : {F : Type 0} (search_options : SearchOptions) (s : Option Stopped) (added : Result Bool F) (nodes : ℕ) (number : Option ℕ) (P IsFull : Type 0) → met_limit (claim_of search_options (search_stop_of s added) nodes number) ≡ true
    → IfOk added (λ all. IsTrue all → P) → IfOk added (λ all. all ≡ false → IsFull) → P ⊎ IsFull
told_or_full search_options s (Ok true) nodes number P IsFull met there full = inl (there refl)
told_or_full search_options s (Ok false) nodes number P IsFull met there full = inr (full refl)
told_or_full search_options s (Err e) nodes number P IsFull met there full = unmet (P ⊎ IsFull) met

unless_memory : (P Q : Type 0) → (Q → ⊥) → Q ⊎ P → P
unless_memory P Q never (inl q) = absurd (never q)
unless_memory P Q never (inr p) = p

-- the texts of a search
pub texts_followed : {F : Type 0} (code : Compiled) (search_options : SearchOptions) (t : Option Stopped) (nodes : ℕ) (number : Option ℕ) (claim : Claim) (added : Result Bool F) (found : Explored Entry End) (ss : List (Shown Entry End)) → claim ≡ claim_of search_options t nodes number → t ≡ search_stop_of found.stopped added
    → (found.stopped ≡ Some stopped.Memory) ⊎ IsFollowedLoosely (λ class. searched_runs code class (limits_in search_options)) found → IfOk added (λ all. IsTrue all → All (λ o. IsShown ss o.text.items o.end) found.shown.items) → IfOk added (λ all. all ≡ false → length ss ≡ search_options.max_texts)
    → met_limit claim ≡ true → AreTextsFollowed code (limits_in search_options) search_options.max_texts ss found.followed_before
texts_followed code search_options t nodes number claim added found ss claimed stops before there full met =
    let limited : met_limit (claim_of search_options (search_stop_of found.stopped added) nodes number) ≡ true = sym (ap met_limit (claimed ∙ ap (λ (o : Option Stopped). claim_of search_options o nodes number) stops)) ∙ met in
    let runs_by : (ℕ → ℕ) → Runs LooseTransition LooseNode End = λ class. searched_runs code class (limits_in search_options) in
    followed_to runs_by (λ text end. IsShown ss text end) (length ss ≡ search_options.max_texts) found
    (unless_memory (IsFollowedLoosely runs_by found) (found.stopped ≡ Some stopped.Memory) (not_memory search_options found.stopped added nodes number limited) before)
    (told_or_full search_options found.stopped added nodes number (All (λ o. IsShown ss o.text.items o.end) found.shown.items) (length ss ≡ search_options.max_texts) limited there full)

-- the claim of a search for waves says that a limit was met where that of a search for texts does
same_limit : (search_options : SearchOptions) (t : Option Stopped) (nodes : ℕ) (number : Option ℕ) (count : ℕ) → met_limit (wave_claim_of search_options t nodes number count) ≡ met_limit (claim_of search_options t nodes number)
same_limit search_options None nodes number count = refl
same_limit search_options (Some stopped.Nodes) nodes number count = refl
same_limit search_options (Some stopped.Shown) nodes number count = refl
same_limit search_options (Some stopped.Unfollowed) nodes number count = refl
same_limit search_options (Some stopped.Bytes) nodes number count = refl
same_limit search_options (Some stopped.Memory) nodes number count = refl

-- the waves of a search
pub waves_followed : {F : Type 0} (code : Compiled) (search_options : SearchOptions) (observing : Observing) (observe : Observer) (count : ℕ) (t : Option Stopped) (nodes : ℕ) (number : Option ℕ) (claim : Claim) (added : Result Bool F) (found : Explored Entry SeenEnd) (ss : List (Shown Entry End))
    → observer_of observing ≡ observe → registers_seen observing ≡ count → claim ≡ wave_claim_of search_options t nodes number (length ss) → t ≡ search_stop_of found.stopped added
    → (found.stopped ≡ Some stopped.Memory) ⊎ IsFollowedLoosely (λ class. searched_arranged code class (limits_in search_options) observing) found
    → IfOk added (λ all. IsTrue all → All (λ o. IsShown ss (o.text.items ++ o.end.seen) o.end.end) found.shown.items) → IfOk added (λ all. all ≡ false → length ss ≡ search_options.max_texts)
    → met_limit claim ≡ true → AreWavesFollowed code (limits_in search_options) observe count search_options.max_texts ss found.followed_before
waves_followed code search_options observing observe count t nodes number claim added found ss sees counts claimed stops before there full met =
    let limited : met_limit (claim_of search_options (search_stop_of found.stopped added) nodes number) ≡ true =
    sym (ap met_limit claimed ∙ (same_limit search_options t nodes number (length ss) ∙ ap (λ (o : Option Stopped). met_limit (claim_of search_options o nodes number)) stops)) ∙ met in
    let runs_by : (ℕ → ℕ) → Runs LooseTransition LooseNode SeenEnd = λ class. searched_arranged code class (limits_in search_options) observing in
    let all_told : Type 0 = All (λ o. IsShown ss (o.text.items ++ o.end.seen) o.end.end) found.shown.items in
    record {
      observing = observing;
      sees = sees;
      count_is = counts;
      followed =
          followed_to runs_by (λ text end. IsShown ss (text ++ end.seen) end.end) (length ss ≡ search_options.max_texts) found
          (unless_memory (IsFollowedLoosely runs_by found) (found.stopped ≡ Some stopped.Memory) (not_memory search_options found.stopped added nodes number limited) before)
          (told_or_full search_options found.stopped added nodes number all_told (length ss ≡ search_options.max_texts) limited there full);
    }
