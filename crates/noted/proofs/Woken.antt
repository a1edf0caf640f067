-- The processes that changes wake, one process after another, and what processes wait for.
use Rattle.std.proofs.Common.{◌≡◌, ℕ, zero, suc, ◌+◌, ◌<◌, Bool, true, false, List, [], ◌∷◌, ◌++◌, map, filter, length, take, get_or, refl, sym, ap, subst, ◌∙◌, arith, append_assoc, if◌then◌else◌, Option, None}
use Rattle.std.specs.List.{enumerate_from}
use Rattle.std.proofs.lemmas.List.{take_more, append-nil, length-take, length-map, get_or-map}
use Rattle.model.specs.Design.{Trigger}
use Rattle.model.specs.Turns.{Remainder, contains}
use Rattle.model.specs.States.{Continuation}
use Rattle.design.specs.declared.code.ProcState.{ProcState}
use Rattle.design.specs.Compiled.{Compiled, design_of}
use Rattle.design.specs.DesignTrees.{process_of}
use Rattle.design.specs.DesignInvariant.{IsStateOf}
use Rattle.regions.specs.declared.queue.Continuation as queued
use Rattle.regions.specs.ProcessWaking.{triggers_at}
use Rattle.regions.specs.Queue.{Core, process_wait_of, standing}
use Rattle.regions.specs.StatePassing.{HasOwnStates}
use Rattle.footprints.specs.Footprints.{RegisterChange, matches_any, woken_by_changes, awaited_by_all}
use Rattle.orders.proofs.AlikeSteps.{continuation_of}
use Rattle.heldmoves.specs.WithoutHeld.{asleep_if, asleep_from}
use Rattle.heldmoves.proofs.LeftAside.{asleep_at}
use Rattle.certificates.specs.declared.changes.NotedChange.{NotedChange}
use Rattle.certificates.specs.Changes.{register_change_of}
use Rattle.noted.specs.NotedSteps.{KeepWidths, awaited_at, unless_among}

-- a number where it is taken, and nothing else
abbrev pub one_where : Bool → ℕ → List ℕ
one_where b n = if b then n ∷ [] else []

-- the processes that changes wake, where the first has a number
abbrev woken_from : List RegisterChange → ℕ → List Continuation → List ℕ
woken_from cs k ps = map (λ (e : ℕ × Continuation). e.0) (filter (λ (e : ℕ × Continuation). matches_any e.1.triggers cs) (enumerate_from k ps))

single : (b : Bool) (k n : ℕ) (x : Continuation) → k ≡ n → map (λ (e : ℕ × Continuation). e.0) (if b then (k, x) ∷ [] else []) ≡ one_where b n
single true k n x same = ap (λ m. m ∷ []) same
single false k n x same = refl

more_if : (b : Bool) (k : ℕ) (y : Continuation) (F G : List (ℕ × Continuation)) (zs : List ℕ) → map (λ (e : ℕ × Continuation). e.0) F ≡ map (λ (e : ℕ × Continuation). e.0) G ++ zs
    → map (λ (e : ℕ × Continuation). e.0) (if b then (k, y) ∷ F else F) ≡ map (λ (e : ℕ × Continuation). e.0) (if b then (k, y) ∷ G else G) ++ zs
more_if true k y F G zs h = ap (λ ns. k ∷ ns) h
more_if false k y F G zs h = h

woken_push : (cs : List RegisterChange) (k : ℕ) (ps : List Continuation) (x : Continuation)
    → woken_from cs k (ps ++ x ∷ []) ≡ woken_from cs k ps ++ one_where (matches_any x.triggers cs) (k + length ps)
woken_push cs k [] x = single (matches_any x.triggers cs) k (k + 0) x (omega arith)
woken_push cs k (y ∷ ps) x =
    let test : ℕ × Continuation → Bool = λ e. matches_any e.1.triggers cs in
    let same : k + 1 + length ps ≡ k + length (y ∷ ps) = omega arith in
    more_if (matches_any y.triggers cs) k y (filter test (enumerate_from (k + 1) (ps ++ x ∷ []))) (filter test (enumerate_from (k + 1) ps)) (one_where (matches_any x.triggers cs) (k + length (y ∷ ps)))
    (woken_push cs (k + 1) ps x ∙ ap (λ n. woken_from cs (k + 1) ps ++ one_where (matches_any x.triggers cs) n) same)

pub no_elements : {X : Type 0} (xs : List X) → length xs ≡ 0 → xs ≡ []
no_elements [] none = refl
no_elements (x ∷ xs) none = absurd (omega (arith, none))

-- where nothing changes, nobody is woken
woken_none : (k : ℕ) (ps : List Continuation) → filter (λ (e : ℕ × Continuation). matches_any e.1.triggers []) (enumerate_from k ps) ≡ []
woken_none k [] = refl
woken_none k (p ∷ ps) = woken_none (k + 1) ps

pub none_woken : (cs : List RegisterChange) (ps : List Continuation) → cs ≡ [] → woken_by_changes cs ps ≡ []
none_woken cs ps none = ap (λ ds. woken_by_changes ds ps) none ∙ ap (λ es. map (λ (e : ℕ × Continuation). e.0) es) (woken_none 0 ps)

-- one process more
pub woken_more : (cs : List RegisterChange) (ps : List Continuation) (i n : ℕ) (b : Bool) (ts : List Trigger) → i < length ps → n ≡ i → b ≡ matches_any ts cs → awaited_at ps i ≡ ts
    → woken_by_changes cs (take (i + 1) ps) ≡ woken_by_changes cs (take i ps) ++ one_where b n
woken_more cs ps i n b ts lt number test waits =
    let x : Continuation = get_or ps i (record { remainder = []; triggers = [] }) in
    let place : 0 + length (take i ps) ≡ n = omega (arith, length-take i ps, number, lt) in
    ap (woken_by_changes cs) (take_more ps i (record { remainder = []; triggers = [] }) lt) ∙ woken_push cs 0 (take i ps) x
    ∙ ap (λ m. woken_by_changes cs (take i ps) ++ one_where (matches_any x.triggers cs) m) place
    ∙ ap (λ us. woken_by_changes cs (take i ps) ++ one_where (matches_any us cs) n) waits
    ∙ ap (λ d. woken_by_changes cs (take i ps) ++ one_where d n) (sym test)

-- what processes wait for

awaited-append : (ps : List Continuation) (ns ms : List ℕ) → awaited_by_all ps (ns ++ ms) ≡ awaited_by_all ps ns ++ awaited_by_all ps ms
awaited-append ps [] ms = refl
awaited-append ps (n ∷ ns) ms =
    ap (λ ts. awaited_at ps n ++ ts) (awaited-append ps ns ms) ∙ sym (append_assoc (awaited_at ps n) (awaited_by_all ps ns) (awaited_by_all ps ms))

-- of one process more
pub awaited_more : (ps : List Continuation) (ns : List ℕ) (i n : ℕ) (ts : List Trigger) → i < length ns → n ≡ get_or ns i n → ts ≡ awaited_at ps n
    → awaited_by_all ps (take (i + 1) ns) ≡ awaited_by_all ps (take i ns) ++ ts
awaited_more ps ns i n ts lt is waits =
    ap (awaited_by_all ps) (take_more ns i n lt ∙ ap (λ m. take i ns ++ m ∷ []) (sym is)) ∙ awaited-append ps (take i ns) (n ∷ [])
    ∙ ap (λ us. awaited_by_all ps (take i ns) ++ us) (append-nil (awaited_at ps n) ∙ sym waits)

awaited_map : (rem : ProcState → Remainder) (controls : List (List Trigger)) (ps : List queued.Continuation) (i : ℕ) (p : queued.Continuation) → i < length ps → p ≡ get_or ps i p
    → awaited_at (map (standing rem) (map (process_wait_of controls) ps)) i ≡ triggers_at controls p.waits
awaited_map rem controls [] i p lt is = absurd (omega (arith, lt))
awaited_map rem controls (q ∷ ps) zero p lt is = ap (λ (x : queued.Continuation). triggers_at controls x.waits) (sym is)
awaited_map rem controls (q ∷ ps) (suc i) p lt is = awaited_map rem controls ps i p (omega (arith, lt)) is

-- a process waits at its event control
pub awaited_is : (rem : ProcState → Remainder) (core : Core) (ps : List queued.Continuation) (i : ℕ) (p : queued.Continuation) → map (process_wait_of core.controls) ps ≡ core.processes → i < length ps → p ≡ get_or ps i p
    → awaited_at (map (standing rem) core.processes) i ≡ triggers_at core.controls p.waits
awaited_is rem core ps i p are lt is =
    ap (λ (qs : List (ProcState × List Trigger)). awaited_at (map (standing rem) qs) i) (sym are) ∙ awaited_map rem core.controls ps i p lt is

-- where some processes are held, they wait at none

awaited_if : (controls : List (List Trigger)) (b : Bool) (x : Continuation) (waits : Option ℕ) → x.triggers ≡ triggers_at controls waits → (asleep_if b x).triggers ≡ triggers_at controls (if b then None else waits)
awaited_if controls true x waits is = refl
awaited_if controls false x waits is = is

pub awaited_beside : (held : List ℕ) (controls : List (List Trigger)) (ps : List Continuation) (i : ℕ) (waits : Option ℕ) → awaited_at ps i ≡ triggers_at controls waits
    → awaited_at (asleep_from (contains held) 0 ps) i ≡ triggers_at controls (unless_among held i waits)
awaited_beside held controls ps i waits is =
    ap (λ (x : Continuation). x.triggers) (asleep_at (contains held) i ps) ∙ awaited_if controls (contains held i) (continuation_of ps i) waits is

-- as many processes as there are listed
pub count_is : (rem : ProcState → Remainder) (core : Core) (ps : List queued.Continuation) → map (process_wait_of core.controls) ps ≡ core.processes → length (map (standing rem) core.processes) ≡ length ps
count_is rem core ps are =
    length-map core.processes (standing rem) ∙ ap (λ (qs : List (ProcState × List Trigger)). length qs) (sym are) ∙ length-map ps (process_wait_of core.controls)

nowhere : ProcState × List Trigger
nowhere = (record { place = 0; pending = None }, [])

-- each process of a state is one of its design
pub place_within : (code : Compiled) (core : Core) (place : ℕ) → HasOwnStates (IsStateOf code) core → place < length core.processes → place < length (design_of code).processes
place_within code core place own lt =
    subst (λ n. place < n) (sym (length-map code.processes process_of)) (own place nowhere lt).process

-- the widths of the change at a place are one
pub width_at : (cs : List NotedChange) (i : ℕ) (c : NotedChange) → i < length cs → c ≡ get_or cs i c → KeepWidths (map register_change_of cs) → length c.before ≡ length c.after
width_at cs i c lt is keep =
    let same : get_or (map register_change_of cs) i (register_change_of c) ≡ register_change_of c = get_or-map register_change_of cs i c (register_change_of c) lt ∙ ap register_change_of (sym is) in
    subst (λ (d : RegisterChange). length d.before ≡ length d.after) same (keep i (register_change_of c) (subst (λ n. i < n) (sym (length-map cs register_change_of)) lt))
