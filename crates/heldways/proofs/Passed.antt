-- What values have passed to since a state, and that whatever a member's turn changes passes. Changes that pass keep it so.
use Rattle.std.proofs.Common.{◌≡◌, ◌≢◌, ℕ, zero, suc, ◌+◌, Bool, true, false, ◌||◌, List, [], ◌∷◌, ◌++◌, ◌⊎◌, inl, inr, map, length, Some, refl, sym, ap, subst, ◌∙◌, if◌then◌else◌, ◌==◌, eq-eqb, eqb-true}
use Rattle.std.specs.Prelude.{slice_set}
use Rattle.std.proofs.lemmas.List.Elements.{All-head, All-tail}
use Rattle.logic4.specs.Vector.{Vector}
use Rattle.logic4.specs.Operators.{same_vector}
use Rattle.model.specs.Design.{Design, Trigger}
use Rattle.model.specs.Expressions.{Store, value_of}
use Rattle.model.specs.Turns.{contains, short_turn}
use Rattle.model.specs.Turns as turns
use Rattle.model.specs.States.{Continuation, State}
use Rattle.model.specs.Laws.{evaluations_in}
use Rattle.orders.specs.Apart.{AgreeOn, all_given, written_by}
use Rattle.orders.proofs.AlikeSteps.{continuation_of}
use Rattle.orders.proofs.Stores.{length_all, all_other}
use Rattle.orders.proofs.TurnFrame.{value_other}
use Rattle.phases.specs.Phase.{Block, IsBlock, ComputesOutputs}
use Rattle.footprints.specs.Footprints.{RegisterChange, changes_made, matches_any}
use Rattle.footprints.proofs.ValueChanges.{made_if, same_changes}
use Rattle.heldways.specs.Passing.{Passing, IsPassing, HavePassed, AllPass, IsInCone, OutputsPass, AreDeaf, SleepThrough}
use Rattle.heldways.proofs.Asleep.{WakeNone}

abbrev IsAllowed : Passing → RegisterChange → Type 0
IsAllowed passes c = passes c.register c.before c.after ≡ true

-- where changes pass, each register may pass from its value before them to that behind them

set_is : (a : Store) (r : ℕ) (v : Vector) → (value_of (slice_set a r v) r ≡ v) ⊎ (value_of (slice_set a r v) r ≡ value_of a r)
set_is [] r v = inr refl
set_is (x ∷ a) zero v = inl refl
set_is (x ∷ a) (suc r) v = set_is a r v

pass_at : (passes : Passing) (a : Store) (w : ℕ × Vector) → IsPassing passes → passes w.0 (value_of a w.0) w.1 ≡ true
    → (value_of (slice_set a w.0 w.1) w.0 ≡ w.1) ⊎ (value_of (slice_set a w.0 w.1) w.0 ≡ value_of a w.0) → passes w.0 (value_of a w.0) (value_of (slice_set a w.0 w.1) w.0) ≡ true
pass_at passes a w is own (inl new) = ap (passes w.0 (value_of a w.0)) new ∙ own
pass_at passes a w is own (inr old) = ap (passes w.0 (value_of a w.0)) old ∙ is.stays w.0 (value_of a w.0)

pass_set : (passes : Passing) (a : Store) (w : ℕ × Vector) (r : ℕ) (same : Bool) → (r == w.0) ≡ same → IsPassing passes → passes w.0 (value_of a w.0) w.1 ≡ true
    → passes r (value_of a r) (value_of (slice_set a w.0 w.1) r) ≡ true
pass_set passes a w r true same is own =
    let one : r ≡ w.0 = eqb-true r w.0 same in
    subst (λ q. passes q (value_of a q) (value_of (slice_set a w.0 w.1) q) ≡ true) (sym one) (pass_at passes a w is own (set_is a w.0 w.1))
pass_set passes a w r false same is own =
    ap (passes r (value_of a r)) (value_other a w.0 r w.1 same) ∙ is.stays r (value_of a r)

pass_if : (passes : Passing) (a : Store) (w : ℕ × Vector) (ws : List (ℕ × Vector)) (r : ℕ) (b : Bool) → IsPassing passes
    → (AllPass passes (changes_made a ws) → passes r (value_of a r) (value_of (all_given a ws) r) ≡ true)
    → (AllPass passes (changes_made (slice_set a w.0 w.1) ws) → passes r (value_of (slice_set a w.0 w.1) r) (value_of (all_given (slice_set a w.0 w.1) ws) r) ≡ true)
    → AllPass passes (made_if b (value_of a w.0) w ++ changes_made (if b then a else slice_set a w.0 w.1) ws)
    → passes r (value_of a r) (value_of (all_given (if b then a else slice_set a w.0 w.1) ws) r) ≡ true
pass_if passes a w ws r true is g h all = g all
pass_if passes a w ws r false is g h all =
    let c : RegisterChange = record { register = w.0; before = value_of a w.0; after = w.1 } in
    let own : passes w.0 (value_of a w.0) w.1 ≡ true = All-head (IsAllowed passes) c (changes_made (slice_set a w.0 w.1) ws) all in
    let later : AllPass passes (changes_made (slice_set a w.0 w.1) ws) = All-tail (IsAllowed passes) c (changes_made (slice_set a w.0 w.1) ws) all in
    is.goes_on r (value_of a r) (value_of (slice_set a w.0 w.1) r) (value_of (all_given (slice_set a w.0 w.1) ws) r) (pass_set passes a w r (r == w.0) refl is own) (h later)

pub all_passed : (passes : Passing) (a : Store) (ws : List (ℕ × Vector)) (r : ℕ) → IsPassing passes → AllPass passes (changes_made a ws) → passes r (value_of a r) (value_of (all_given a ws) r) ≡ true
all_passed passes a [] r is all = is.stays r (value_of a r)
all_passed passes a (w ∷ ws) r is all =
    pass_if passes a w ws r (same_vector (value_of a w.0) w.1) is (all_passed passes a ws r is) (all_passed passes (slice_set a w.0 w.1) ws r is) all

-- changes that pass wake nobody who waits for none of these

deaf_to_all : (ts : List Trigger) (passes : Passing) (cs : List RegisterChange) → AreDeaf passes ts → AllPass passes cs → matches_any ts cs ≡ false
deaf_to_all ts passes [] deaf all = refl
deaf_to_all ts passes (c ∷ cs) deaf all =
    ap (λ b. b || matches_any ts cs) (deaf c.register c.before c.after (All-head (IsAllowed passes) c cs all)) ∙ deaf_to_all ts passes cs deaf (All-tail (IsAllowed passes) c cs all)

-- the sleepers wait as they did at the start
abbrev pub SleepSince : State → List ℕ → State → Type 0
SleepSince s sleepers t = (q : ℕ) → contains sleepers q ≡ true → (continuation_of t.processes q ≡ continuation_of s.processes q) × (evaluations_in q t.active ≡ 0)

pub wake_none : (s t : State) (members sleepers : List ℕ) (passes : Passing) (cs : List RegisterChange) → SleepThrough s members sleepers passes → SleepSince s sleepers t → AllPass passes cs → WakeNone sleepers cs t.processes
wake_none s t members sleepers passes cs sleep since all q is =
    ap (λ (x : Continuation). matches_any x.triggers cs) (since q is).0
    ∙ deaf_to_all (continuation_of s.processes q).triggers passes cs (sleep.deaf q is) all

-- what a member's turn changes

-- whatever values the inputs of a block may pass to, what its turn changes passes
abbrev pub IsCalm : Design → (ℕ → Block) → Passing → State → ℕ → Type 0
IsCalm design block passes t p =
    (store : Store) (turn : turns.Turn) → length store ≡ length t.store → HavePassed passes (block p).inputs t.store store → short_turn design p (block p).rest store t.time ≡ Some turn
    → AllPass passes (changes_made t.store turn.writes)

-- each value has passed since the start, and each member with its outputs in the cone is calm
abbrev pub HavePassedSince : Design → List ℕ → (ℕ → Block) → List ℕ → Passing → State → State → Type 0
HavePassedSince design members block cone passes s t =
    record {
      time : t.time ≡ s.time;
      registers : length t.store ≡ length s.store;
      values : (r : ℕ) → passes r (value_of s.store r) (value_of t.store r) ≡ true;
      calm : (p : ℕ) → contains members p ≡ true → IsInCone cone (block p) → IsCalm design block passes t p;
    }

pub passed_first : (design : Design) (members : List ℕ) (block : ℕ → Block) (cone : List ℕ) (passes : Passing) (s : State) → IsPassing passes → OutputsPass design s.store s.time members block cone passes
    → HavePassedSince design members block cone passes s s
passed_first design members block cone passes s is outputs =
    record {
      time = refl;
      registers = refl;
      values = λ r. is.stays r (value_of s.store r);
      calm = λ p member inside store turn len passed found. outputs.first p store turn member inside len passed found;
    }

computes : (design : Design) (p : ℕ) (b : Block) (store : Store) (now : ℕ) (turn : turns.Turn) → IsBlock design p b → short_turn design p b.rest store now ≡ Some turn → ComputesOutputs b turn
computes design p b store now turn block found =
    let (t, at, c) = block.turns store now in
    let both : Some t ≡ Some turn = sym at ∙ found in
    let same : t ≡ turn = cc in
    subst (λ (x : turns.Turn). ComputesOutputs b x) same c

not_among : (rs : List ℕ) (r : ℕ) (is : Bool) → contains rs r ≡ is → (contains rs r ≡ true → ⊥) → contains rs r ≡ false
not_among rs r true is none = absurd (none is)
not_among rs r false is none = is

not_both : (b : Bool) → b ≡ true → b ≡ false → ⊥
not_both true h g = cc
not_both false h g = cc

passed_on : (passes : Passing) (t f : State) (ws : List (ℕ × Vector)) (r : ℕ) → IsPassing passes → f.store ≡ all_given t.store ws → AllPass passes (changes_made t.store ws) → passes r (value_of t.store r) (value_of f.store r) ≡ true
passed_on passes t f ws r is store all =
    ap (λ a. passes r (value_of t.store r) (value_of a r)) store ∙ all_passed passes t.store ws r is all

-- a member whose outputs aren't written is as calm as it was
calm_still : (design : Design) (block : ℕ → Block) (passes : Passing) (t f : State) (ws : List (ℕ × Vector)) (p : ℕ) → IsPassing passes → IsBlock design p (block p) → f.time ≡ t.time → f.store ≡ all_given t.store ws
    → AllPass passes (changes_made t.store ws) → ((r : ℕ) → contains (map (λ (w : ℕ × Vector). w.0) ws) r ≡ true → contains (block p).outputs r ≡ false) → IsCalm design block passes t p → IsCalm design block passes f p
calm_still design block passes t f ws p is own time store all apart calm values turn len passed found =
    let len' : length f.store ≡ length t.store = ap length store ∙ length_all t.store ws in
    let found' : short_turn design p (block p).rest values t.time ≡ Some turn = ap (λ now. short_turn design p (block p).rest values now) (sym time) ∙ found in
    let passed' : HavePassed passes (block p).inputs t.store values =
    λ r input. is.goes_on r (value_of t.store r) (value_of f.store r) (value_of values r) (passed_on passes t f ws r is store all) (passed r input) in
    let c : ComputesOutputs (block p) turn = computes design p (block p) values t.time turn own found' in
    let agree : AgreeOn (map (λ (w : ℕ × Vector). w.0) turn.writes) f.store t.store =
    λ r wrote.
    ap (λ a. value_of a r) store
    ∙ all_other t.store ws r (not_among (map (λ (w : ℕ × Vector). w.0) ws) r (contains (map (λ (w : ℕ × Vector). w.0) ws) r) refl (λ there. not_both (contains (block p).outputs r) (c.writes r wrote) (apart r there))) in
    let same : changes_made f.store turn.writes ≡ changes_made t.store turn.writes = same_changes f.store t.store turn.writes len' agree in
    subst (λ cs. AllPass passes cs) (sym same) (calm values turn (len ∙ len') passed' found')

-- and so is each member where others write
pub passed_other : (design : Design) (members : List ℕ) (block : ℕ → Block) (cone : List ℕ) (passes : Passing) (s t f : State) (ws : List (ℕ × Vector)) → IsPassing passes → ((p : ℕ) → contains members p ≡ true → IsBlock design p (block p))
    → f.time ≡ t.time → f.store ≡ all_given t.store ws → AllPass passes (changes_made t.store ws)
    → ((p r : ℕ) → contains members p ≡ true → contains (map (λ (w : ℕ × Vector). w.0) ws) r ≡ true → contains (block p).outputs r ≡ false) → HavePassedSince design members block cone passes s t
    → HavePassedSince design members block cone passes s f
passed_other design members block cone passes s t f ws is blocks time store all apart h =
    record {
      time = time ∙ h.time;
      registers = ap length store ∙ length_all t.store ws ∙ h.registers;
      values = λ r. is.goes_on r (value_of s.store r) (value_of t.store r) (value_of f.store r) (h.values r) (passed_on passes t f ws r is store all);
      calm = λ p member inside. calm_still design block passes t f ws p is (blocks p member) time store all (λ r wrote. apart p r member wrote) (h.calm p member inside);
    }

-- a member that had its turn is calm behind it
calm_own : (design : Design) (members : List ℕ) (block : ℕ → Block) (cone : List ℕ) (passes : Passing) (s t f : State) (p : ℕ) (turn : turns.Turn) → OutputsPass design s.store s.time members block cone passes → contains members p ≡ true
    → IsInCone cone (block p) → IsBlock design p (block p) → f.time ≡ t.time → f.store ≡ all_given t.store turn.writes → short_turn design p (block p).rest t.store t.time ≡ Some turn
    → HavePassedSince design members block cone passes s t → IsCalm design block passes f p
calm_own design members block cone passes s t f p turn outputs member inside own time store found h values next len passed is =
    let c : ComputesOutputs (block p) turn = computes design p (block p) t.store t.time turn own found in
    let kept : AgreeOn (block p).inputs f.store t.store =
    λ r input.
    ap (λ a. value_of a r) store
    ∙ all_other t.store turn.writes r (not_among (written_by turn) r (contains (written_by turn) r) refl (λ there. not_both (contains (block p).inputs r) input (own.apart r (c.writes r there)))) in
    let passed' : HavePassed passes (block p).inputs t.store values = λ r input. ap (λ v. passes r v (value_of values r)) (sym (kept r input)) ∙ passed r input in
    let at_start : (now : ℕ) → now ≡ s.time → (store : Store) → short_turn design p (block p).rest store s.time ≡ short_turn design p (block p).rest store now =
    λ now same store. ap (λ n. short_turn design p (block p).rest store n) (sym same) in
    let found' : short_turn design p (block p).rest t.store s.time ≡ Some turn = at_start t.time h.time t.store ∙ found in
    let is' : short_turn design p (block p).rest values s.time ≡ Some next = at_start f.time (time ∙ h.time) values ∙ is in
    let len' : length values ≡ length s.store = len ∙ ap length store ∙ length_all t.store turn.writes ∙ h.registers in
    subst (λ a. AllPass passes (changes_made a next.writes)) (sym store)
    (outputs.again p t.store values turn next member inside h.registers len' (λ r input. h.values r) passed' found' is')

calm_if : (design : Design) (members : List ℕ) (block : ℕ → Block) (cone : List ℕ) (passes : Passing) (s t f : State) (p q : ℕ) (turn : turns.Turn) (same : Bool) → (p == q) ≡ same → IsPassing passes → OutputsPass design s.store s.time members block cone passes
    → contains members p ≡ true → contains members q ≡ true → IsInCone cone (block q) → ((k : ℕ) → contains members k ≡ true → IsBlock design k (block k))
    → ((r : ℕ) → p ≢ q → contains (block p).outputs r ≡ true → contains (block q).outputs r ≡ false) → f.time ≡ t.time → f.store ≡ all_given t.store turn.writes
    → short_turn design p (block p).rest t.store t.time ≡ Some turn → AllPass passes (changes_made t.store turn.writes) → HavePassedSince design members block cone passes s t → IsCalm design block passes f q
calm_if design members block cone passes s t f p q turn true same is outputs member other inside blocks single time store found all h =
    let one : p ≡ q = eqb-true p q same in
    let inside' : IsInCone cone (block p) = subst (λ k. IsInCone cone (block k)) (sym one) inside in
    subst (λ k. IsCalm design block passes f k) one (calm_own design members block cone passes s t f p turn outputs member inside' (blocks p member) time store found h)
calm_if design members block cone passes s t f p q turn false same is outputs member other inside blocks single time store found all h =
    let differ : p ≢ q = λ one. not_both (p == q) (eq-eqb p q one) same in
    let c : ComputesOutputs (block p) turn = computes design p (block p) t.store t.time turn (blocks p member) found in
    calm_still design block passes t f turn.writes q is (blocks q other) time store all (λ r wrote. single r differ (c.writes r wrote)) (h.calm q other inside)

-- and so is each member where one had its turn
pub passed_own : (design : Design) (members : List ℕ) (block : ℕ → Block) (cone : List ℕ) (passes : Passing) (s t f : State) (p : ℕ) (turn : turns.Turn) → IsPassing passes → OutputsPass design s.store s.time members block cone passes
    → contains members p ≡ true → ((k : ℕ) → contains members k ≡ true → IsBlock design k (block k))
    → ((k q r : ℕ) → contains members k ≡ true → contains members q ≡ true → k ≢ q → contains (block k).outputs r ≡ true → contains (block q).outputs r ≡ false) → f.time ≡ t.time → f.store ≡ all_given t.store turn.writes
    → short_turn design p (block p).rest t.store t.time ≡ Some turn → AllPass passes (changes_made t.store turn.writes) → HavePassedSince design members block cone passes s t → HavePassedSince design members block cone passes s f
passed_own design members block cone passes s t f p turn is outputs member blocks single time store found all h =
    record {
      time = time ∙ h.time;
      registers = ap length store ∙ length_all t.store turn.writes ∙ h.registers;
      values = λ r. is.goes_on r (value_of s.store r) (value_of t.store r) (value_of f.store r) (h.values r) (passed_on passes t f turn.writes r is store all);
      calm = λ q other inside.
          calm_if design members block cone passes s t f p q turn (p == q) refl is outputs member other inside blocks (λ r differ out. single p q r member other differ out) time store found all h;
    }
