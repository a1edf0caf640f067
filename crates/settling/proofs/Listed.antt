-- What is told of the elements of lists, one after another.
use Rattle.std.proofs.Common.{◌≡◌, ◌<◌, ◌+◌, ⊎_elim, ℕ, zero, suc, Bool, true, false, List, [], ◌∷◌, ◌++◌, map, length, take, Option, Some, refl, sym, ap, subst, ◌∙◌, arith, get_or, ◌==◌, ◌||◌, eq-eqb, if◌then◌else◌}
use Rattle.std.specs.Prelude.{slice_get}
use Rattle.std.specs.List.{All, list_any}
use Rattle.std.proofs.lemmas.Bool.{cases_lt, eqb-true}
use Rattle.std.proofs.lemmas.List.{take_more, map-append, get_or_default}
use Rattle.std.proofs.lemmas.List.Elements.{All-head, All-tail}
use Rattle.logic4.specs.Vector.{Vector}
use Rattle.model.specs.Design.{Trigger}
use Rattle.model.specs.Turns.{contains}
use Rattle.model.specs.States.{Event}
use Rattle.model.specs.Laws.{evaluations_in}
use Rattle.orders.specs.Alike.{updates_in}
use Rattle.orders.proofs.EventLists.{updates-append, evaluations-append}
use Rattle.orders.proofs.Stores.{append-none}
use Rattle.orders.proofs.TurnFrame.{contains_left, contains_right}
use Rattle.regions.specs.declared.queue.Update.{Update}
use Rattle.regions.specs.declared.queue.Evaluation.{Evaluation}
use Rattle.regions.specs.Queue.{update_event, evaluation_event}
use Rattle.combinational.specs.declared.block.Logic.{Logic}
use Rattle.settling.specs.Waiting.{WaitsForNone}

-- what holds of each element holds of each number that is there

there_if : (P : ℕ → Type 0) (m n : ℕ) (ns : List ℕ) (b : Bool) → (m == n) ≡ b → (b || contains ns n) ≡ true → P m → (contains ns n ≡ true → P n) → P n
there_if P m n ns true is h here later = subst P (eqb-true m n is) here
there_if P m n ns false is h here later = later h

pub all_there : (P : ℕ → Type 0) (ns : List ℕ) (n : ℕ) → All P ns → contains ns n ≡ true → P n
all_there P [] n all h = absurd (cc)
all_there P (m ∷ ns) n all h =
    there_if P m n ns (m == n) refl h (All-head P m ns all) (all_there P ns n (All-tail P m ns all))

-- each element is there

there_or : (m n : ℕ) (ns : List ℕ) (b : Bool) → contains ns n ≡ true → (b || contains ns n) ≡ true
there_or m n ns true h = refl
there_or m n ns false h = h

pub there_at : (ns : List ℕ) (i d : ℕ) → i < length ns → contains ns (get_or ns i d) ≡ true
there_at [] i d lt = absurd (omega (arith, lt))
there_at (n ∷ ns) zero d lt = here (n == n) (eq-eqb n n refl)
  where
    here : (b : Bool) → b ≡ true → (b || contains ns n) ≡ true
    here true is = refl
    here false is = absurd (cc)
there_at (n ∷ ns) (suc i) d lt = there_or n (get_or ns i d) ns (n == get_or ns i d) (there_at ns i d (omega (arith, lt)))

-- what holds of some numbers and of one more, holds of these with it

among_more : (P : ℕ → Type 0) (m : ℕ) (n : ℕ) → contains (m ∷ []) n ≡ true → P m → P n
among_more P m n h here = there_if P m n [] (m == n) refl h here (λ never. absurd (cc))

pub all_more : (P : ℕ → Type 0) (ns : List ℕ) (m : ℕ) → ((n : ℕ) → contains ns n ≡ true → P n) → P m → (n : ℕ) → contains (ns ++ m ∷ []) n ≡ true → P n
all_more P [] m all here n h = among_more P m n h here
all_more P (k ∷ ns) m all here n h =
    there_if P k n (ns ++ m ∷ []) (k == n) refl h (all k (first (k == k) (eq-eqb k k refl))) (λ later. all_more P ns m (λ j there. all j (there_or k j ns (k == j) there)) here n later)
  where
    first : (b : Bool) → b ≡ true → (b || contains ns k) ≡ true
    first true is = refl
    first false is = absurd (cc)

-- triggers of which none is of these registers

none_if : (registers : List ℕ) (q r : ℕ) (rest b : Bool) → (q == r) ≡ b → contains registers q ≡ false → contains registers r ≡ true → rest ≡ false → (b || rest) ≡ false
none_if registers q r rest true is none there others =
    let same : contains registers q ≡ true = ap (contains registers) (eqb-true q r is) ∙ there in
    cc
none_if registers q r rest false is none there others = others

pub none_awaited : (registers : List ℕ) (ts : List Trigger) → All (λ (t : Trigger). contains registers t.1 ≡ false) ts → WaitsForNone ts registers
none_awaited registers [] all r there = refl
none_awaited registers (t ∷ ts) all r there =
    none_if registers t.1 r (list_any (λ (u : Trigger). u.1 == r) ts) (t.1 == r) refl (All-head (λ (u : Trigger). contains registers u.1 ≡ false) t ts all) there
    (none_awaited registers ts (All-tail (λ (u : Trigger). contains registers u.1 ≡ false) t ts all) r there)

-- events of which none is of a stranger

stranger_if : (members : List ℕ) (q p rest : ℕ) (b : Bool) → (q == p) ≡ b → contains members q ≡ true → contains members p ≡ false → rest ≡ 0 → ◌≡◌ {A = ℕ} ((if b then 1 else 0) + rest) 0
stranger_if members q p rest true is there none others =
    let same : contains members q ≡ false = ap (contains members) (eqb-true q p is) ∙ none in
    absurd (cc)
stranger_if members q p rest false is there none others = omega (arith, others)

pub no_stranger : (members : List ℕ) (es : List Evaluation) (p : ℕ) → All (λ (e : Evaluation). contains members e.process ≡ true) es → contains members p ≡ false → evaluations_in p (map evaluation_event es) ≡ 0
no_stranger members [] p all none = refl
no_stranger members (e ∷ es) p all none =
    stranger_if members e.process p (evaluations_in p (map evaluation_event es)) (e.process == p) refl (All-head (λ (f : Evaluation). contains members f.process ≡ true) e es all) none
    (no_stranger members es p (All-tail (λ (f : Evaluation). contains members f.process ≡ true) e es all) none)

-- updates and evaluations are active one behind the other

only_evaluations : (es : List Evaluation) → updates_in (map evaluation_event es) ≡ []
only_evaluations [] = refl
only_evaluations (e ∷ es) = only_evaluations es

only_updates : (us : List Update) (p : ℕ) → evaluations_in p (map update_event us) ≡ 0
only_updates [] p = refl
only_updates (u ∷ us) p = omega (arith, only_updates us p)

pub updates_active : (us : List Update) (es : List Evaluation) (active : List Event) → map update_event us ++ map evaluation_event es ≡ active → updates_in (map update_event us) ≡ updates_in active
updates_active us es active are =
    sym (append-none (updates_in (map update_event us))) ∙ ap (λ l. updates_in (map update_event us) ++ l) (sym (only_evaluations es)) ∙ sym (updates-append (map update_event us) (map evaluation_event es)) ∙ ap updates_in are

pub evaluations_active : (us : List Update) (es : List Evaluation) (active : List Event) (p : ℕ) → map update_event us ++ map evaluation_event es ≡ active → evaluations_in p (map evaluation_event es) ≡ evaluations_in p active
evaluations_active us es active p are =
    omega (arith, evaluations-append p (map update_event us) (map evaluation_event es), only_updates us p, ap (evaluations_in p) are)

-- one event more

pub times_more : (es : List Evaluation) (at p n m : ℕ) (e : Evaluation) → at < length es → n ≡ evaluations_in p (map evaluation_event (take at es)) → e ≡ get_or es at e → m ≡ n + evaluations_in p (evaluation_event e ∷ [])
    → m ≡ evaluations_in p (map evaluation_event (take (at + 1) es))
times_more es at p n m e within before is longer =
    let one : take (at + 1) es ≡ take at es ++ e ∷ [] = take_more es at e within ∙ ap (λ (f : Evaluation). take at es ++ f ∷ []) (sym is) in
    let both : evaluations_in p (map evaluation_event (take at es ++ e ∷ [])) ≡ evaluations_in p (map evaluation_event (take at es)) + evaluations_in p (evaluation_event e ∷ []) =
    ap (evaluations_in p) (map-append evaluation_event (take at es) (e ∷ [])) ∙ evaluations-append p (map evaluation_event (take at es)) (map evaluation_event (e ∷ [])) in
    longer ∙ ap (λ k. k + evaluations_in p (evaluation_event e ∷ [])) before ∙ sym (ap (λ (l : List Evaluation). evaluations_in p (map evaluation_event l)) one ∙ both)

-- the writes of one update more
writes_more : (us : List Update) (at : ℕ) (ws more : List (ℕ × Vector)) (u : Update) → at < length us → ws ≡ updates_in (map update_event (take at us)) → u ≡ get_or us at u → more ≡ ws ++ (u.register, u.value) ∷ [] → more ≡ updates_in (map update_event (take (at + 1) us))
writes_more us at ws more u within before is longer =
    let one : take (at + 1) us ≡ take at us ++ u ∷ [] = take_more us at u within ∙ ap (λ (v : Update). take at us ++ v ∷ []) (sym is) in
    let both : updates_in (map update_event (take at us ++ u ∷ [])) ≡ updates_in (map update_event (take at us)) ++ (u.register, u.value) ∷ [] =
    ap updates_in (map-append update_event (take at us) (u ∷ [])) ∙ updates-append (map update_event (take at us)) (map update_event (u ∷ [])) in
    longer ∙ (ap (λ (l : List (ℕ × Vector)). l ++ (u.register, u.value) ∷ []) before ∙ sym (ap (λ (l : List Update). updates_in (map update_event l)) one ∙ both))

pub registers_more : (us : List Update) (at : ℕ) (rs more : List ℕ) (u : Update) → at < length us → rs ≡ map (λ (w : ℕ × Vector). w.0) (updates_in (map update_event (take at us))) → u ≡ get_or us at u → more ≡ rs ++ u.register ∷ []
    → more ≡ map (λ (w : ℕ × Vector). w.0) (updates_in (map update_event (take (at + 1) us)))
registers_more us at rs more u within before is longer =
    let ws : List (ℕ × Vector) = updates_in (map update_event (take at us)) in
    longer ∙ ap (λ (l : List ℕ). l ++ u.register ∷ []) before ∙ sym (map-append (λ (w : ℕ × Vector). w.0) ws ((u.register, u.value) ∷ []))
    ∙ ap (map (λ (w : ℕ × Vector). w.0)) (writes_more us at ws (ws ++ (u.register, u.value) ∷ []) u within refl is refl)

-- what holds up to a place, and there, holds up to the next
pub upto_more : {X : Type 0} (P : X → Type 0) (xs : List X) (i : ℕ) → ((k : ℕ) (d : X) → k < i → P (get_or xs k d)) → ((d : X) → P (get_or xs i d)) → (k : ℕ) (d : X) → k < i + 1 → P (get_or xs k d)
upto_more P xs i before here k d below =
    ⊎_elim (λ less. before k d less)
    (λ more.
    let same : k ≡ i = omega (arith, below, more) in
    subst (λ j. P (get_or xs j d)) (sym same) (here d))
    (cases_lt k i)

-- each output of a process is among these registers
abbrev pub HasOutputsOf : List (Option Logic) → List ℕ → ℕ → Type 0
HasOutputsOf logics registers p =
    (r : ℕ) (logic : Logic) → slice_get logics p ≡ Some (Some logic) → contains logic.outputs.items r ≡ true → contains registers r ≡ true

pub outputs_more : (logics : List (Option Logic)) (members : List ℕ) (i x : ℕ) (rs more own : List ℕ) → i < length members → x ≡ get_or members i x → more ≡ rs ++ own
    → ((logic : Logic) → slice_get logics x ≡ Some (Some logic) → own ≡ logic.outputs.items) → ((k d : ℕ) → k < i → HasOutputsOf logics rs (get_or members k d)) → (k d : ℕ) → k < i + 1 → HasOutputsOf logics more (get_or members k d)
outputs_more logics members i x rs more own within is longer are before =
    upto_more (HasOutputsOf logics more) members i
    (λ k d below r logic at out. ap (λ (l : List ℕ). contains l r) longer ∙ contains_left rs own r (before k d below r logic at out))
    (λ d r logic at out.
    let here : x ≡ get_or members i d = is ∙ get_or_default members i x d within in
    let own_are : own ≡ logic.outputs.items = are logic (ap (slice_get logics) here ∙ at) in
    ap (λ (l : List ℕ). contains l r) longer ∙ contains_right rs own r (ap (λ (l : List ℕ). contains l r) own_are ∙ out))
