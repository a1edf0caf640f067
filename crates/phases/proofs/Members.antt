-- What a change does to a combinational process that isn't the one whose turn it is, and to a process that waits for other registers.
use Rattle.std.proofs.Common.{◌≡◌, ℕ, ◌+◌, Bool, true, false, List, [], ◌∷◌, ◌⊎◌, inl, inr, map, length, Some, refl, sym, ap, subst, ◌∙◌, if◌then◌else◌, ◌==◌}
use Rattle.std.specs.Prelude.{not, ◌&&◌, ◌||◌}
use Rattle.std.specs.List.{list_any}
use Rattle.std.proofs.lemmas.Bool.{eqb-true}
use Rattle.logic4.specs.Vector.{Vector}
use Rattle.logic4.specs.Operators.{same_vector}
use Rattle.logic4.specs.Edges.{edge, least_edge}
use Rattle.logic4.specs.declared.digit.Edge.TheVariants.{Same}
use Rattle.logic4.specs.declared.digit.Digit.{Digit}
use Rattle.logic4.specs.declared.digit.Digit.TheVariants.{Zero, One}
use Rattle.model.specs.declared.tree.Change.TheVariants.{Any}
use Rattle.model.specs.Design.{Design, Trigger}
use Rattle.model.specs.Expressions.{Store, value_of}
use Rattle.model.specs.Turns.{Remainder, contains, short_turn}
use Rattle.model.specs.Turns as turns
use Rattle.model.specs.States.{State, edge_matches, wakes, is_woken}
use Rattle.orders.specs.Apart.{AgreeOn, given, all_given}
use Rattle.orders.proofs.TurnFrame.{turn_has_frame}
use Rattle.orders.proofs.Stores.{same_store, length_given, given_other, length_all, all_other}
use Rattle.phases.specs.Phase.{Block, triggers, IsBlock, continuation_of, IsConsistent, IsTurnPending, IsBlockWaiting, IsUntouched, StandsSince, waits_for_register}
use Rattle.phases.proofs.Values.{written_same}
use Rattle.phases.proofs.Changes.{woke, awake, one_where, Changed}

-- a member of a phase is pending, or waits
abbrev pub Standing : State → ℕ → Block → Type 0
Standing s p b = IsTurnPending s p b ⊎ IsBlockWaiting s p b

-- where a state begins, one that waits is untouched
pub stands_first : (design : Design) (s : State) (p : ℕ) (b : Block) → Standing s p b → StandsSince design s s p b
stands_first design s p b (inl h) = inl h
stands_first design s p b (inr h) =
    inr (inr (record { waits = h; waited = h; time = refl; registers = refl; inputs = λ r there. refl; outputs = λ r there. refl }))

pub stands_now : (design : Design) (start s : State) (p : ℕ) (b : Block) → StandsSince design start s p b → Standing s p b
stands_now design start s p b (inl h) = inl h
stands_now design start s p b (inr (inl (none, continuation, consistent))) = inr (none, continuation)
stands_now design start s p b (inr (inr h)) = inr h.waits

-- what agrees on the inputs, and has the outputs that were consistent, is consistent

kept_if : (a b : Store) (ws : List (ℕ × Vector)) (r : ℕ) (is : Bool) → contains (map (λ (w : ℕ × Vector). w.0) ws) r ≡ is → length a ≡ length b → all_given a ws ≡ a
    → (is ≡ true → value_of a r ≡ value_of b r) → value_of (all_given b ws) r ≡ value_of b r
kept_if a b ws r true is len h same =
    written_same b a ws r (sym len) is ∙ ap (λ x. value_of x r) h ∙ same refl
kept_if a b ws r false is len h same = all_other b ws r is

pub kept_by : (a b : Store) (ws : List (ℕ × Vector)) → length a ≡ length b → all_given a ws ≡ a → ((r : ℕ) → contains (map (λ (w : ℕ × Vector). w.0) ws) r ≡ true → value_of a r ≡ value_of b r)
    → all_given b ws ≡ b
kept_by a b ws len h same =
    same_store (all_given b ws) b (length_all b ws)
    (λ r. kept_if a b ws r (contains (map (λ (w : ℕ × Vector). w.0) ws) r) refl len h (same r))

pub still_consistent : (design : Design) (s f : State) (p : ℕ) (b : Block) → IsBlock design p b → f.time ≡ s.time → length s.store ≡ length f.store
    → AgreeOn b.inputs s.store f.store → AgreeOn b.outputs s.store f.store → IsConsistent design s p b → IsConsistent design f p b
still_consistent design s f p b block time len inputs outputs h turn is =
    let (t, at, computes) = block.turns s.store s.time in
    let frame : short_turn design p b.rest f.store s.time ≡ Some t =
    turn_has_frame design p b.rest s.store f.store s.time t len at (λ r used. inputs r (computes.reads r used)) in
    let both : Some t ≡ Some turn = sym frame ∙ ap (λ now. short_turn design p b.rest f.store now) (sym time) ∙ is in
    let same : t ≡ turn = cc in
    subst (λ (x : turns.Turn). all_given f.store x.writes ≡ f.store) same (kept_by s.store f.store t.writes len (h t at) (λ r wrote. outputs r (computes.writes r wrote)))

-- a change that doesn't wake a block is of none of its inputs

any_edge_digits : (d e : Digit) → edge_matches Any (least_edge (d ∷ []) (e ∷ [])) ≡ true
any_edge_digits Zero Zero = refl
any_edge_digits Zero One = refl
any_edge_digits Zero _ = refl
any_edge_digits One Zero = refl
any_edge_digits One One = refl
any_edge_digits One _ = refl
any_edge_digits _ Zero = refl
any_edge_digits _ One = refl
any_edge_digits _ _ = refl

any_edge : (old new : Vector) → edge_matches Any (least_edge old new) ≡ true
any_edge [] new = refl
any_edge (d ∷ old) [] = refl
any_edge (d ∷ old) (e ∷ new) = any_edge_digits d e

matches_if : (old new : Vector) (same : Bool) → same ≡ false → edge_matches Any (if same then Same else least_edge old new) ≡ true
matches_if old new true is = cc
matches_if old new false is = any_edge old new

neither : (a b : Bool) → (a || b) ≡ false → (a ≡ false) × (b ≡ false)
neither true b h = cc
neither false b h = (refl, h)

not_first : (a b : Bool) → b ≡ true → (a && b) ≡ false → a ≡ false
not_first true b is h = cc
not_first false b is h = refl

no_input : (inputs : List ℕ) (r : ℕ) (old new : Vector) → same_vector old new ≡ false → wakes (map {B = Trigger} (λ q. (Any, q)) inputs) r old new ≡ false → contains inputs r ≡ false
no_input [] r old new differ h = refl
no_input (q ∷ inputs) r old new differ h =
    let (first, others) = neither ((q == r) && edge_matches Any (edge old new)) (wakes (map (λ q. (Any, q)) inputs) r old new) h in
    let not_it : (q == r) ≡ false = not_first (q == r) (edge_matches Any (edge old new)) (matches_if old new (same_vector old new) differ) first in
    rw not_it (no_input inputs r old new differ others)

different : (rs : List ℕ) (q r : ℕ) (is : Bool) → (q == r) ≡ is → contains rs q ≡ true → contains rs r ≡ false → (q == r) ≡ false
different rs q r true is there here =
    let same : q ≡ r = eqb-true q r is in
    let bad : contains rs q ≡ false = rw same here in
    cc
different rs q r false is there here = is

agree_if : (rs : List ℕ) (s : Store) (r : ℕ) (v : Vector) → contains rs r ≡ false → AgreeOn rs s (given s (r, v))
agree_if rs s r v none q there = sym (given_other s (r, v) q (different rs q r (q == r) refl there none))

asleep_if : (inputs : List ℕ) (s : Store) (r : ℕ) (v : Vector) (same : Bool) → same_vector (value_of s r) v ≡ same
    → (not same && wakes (map {B = Trigger} (λ q. (Any, q)) inputs) r (value_of s r) v) ≡ false → AgreeOn inputs s (given s (r, v))
asleep_if inputs s r v true is h q there = rw is refl
asleep_if inputs s r v false is h q there = agree_if inputs s r v (no_input inputs r (value_of s r) v is h) q there

-- a member under a change of what is none of its outputs

and_none : (b : Bool) → (b && false) ≡ false
and_none true = refl
and_none false = refl

pub asleep : (s : State) (r : ℕ) (v : Vector) (p : ℕ) (rest : Remainder) → continuation_of s p ≡ record { remainder = rest; triggers = [] } → woke s r v p ≡ false
asleep s r v p rest is =
    ap (λ x. not (same_vector (value_of s.store r) v) && is_woken r (value_of s.store r) v x) is ∙ and_none (not (same_vector (value_of s.store r) v))

pub untouched_still : (start s f : State) (p : ℕ) (b : Block) → f.time ≡ s.time → length s.store ≡ length f.store → IsBlockWaiting f p b → AgreeOn b.inputs s.store f.store → AgreeOn b.outputs s.store f.store
    → IsUntouched start s p b → IsUntouched start f p b
untouched_still start s f p b time len waits inputs outputs h =
    record {
      waits = waits;
      waited = h.waited;
      time = time ∙ h.time;
      registers = sym len ∙ h.registers;
      inputs = λ r there. h.inputs r there ∙ inputs r there;
      outputs = λ r there. h.outputs r there ∙ outputs r there;
    }

-- one that waits is woken, or waits still, with the values that it had
waits_if : (design : Design) (start s f : State) (r : ℕ) (v : Vector) (p : ℕ) (b : Block) (is : Bool) → woke s r v p ≡ is → contains b.outputs r ≡ false → Changed s r v f → IsBlockWaiting s p b
    → (IsBlockWaiting f p b → length s.store ≡ length f.store → AgreeOn b.inputs s.store f.store → AgreeOn b.outputs s.store f.store → StandsSince design start f p b) → StandsSince design start f p b
waits_if design start s f r v p b true is none c (evaluations, continuation) later =
    inl (
      c.evaluations p ∙ ap (λ n. n + one_where (woke s r v p)) evaluations ∙ ap (λ x. 0 + one_where x) is,
      c.processes p ∙ ap (λ x. awake x (continuation_of s p)) is ∙ ap (λ x. awake true x) continuation,
    )
waits_if design start s f r v p b false is none c (evaluations, continuation) later =
    let still : (not (same_vector (value_of s.store r) v) && wakes (triggers b) r (value_of s.store r) v) ≡ false =
    ap (λ x. not (same_vector (value_of s.store r) v) && is_woken r (value_of s.store r) v x) (sym continuation) ∙ is in
    let len : length s.store ≡ length f.store = sym (ap length c.store ∙ length_given s.store (r, v)) in
    let inputs : AgreeOn b.inputs s.store f.store = rw c.store (asleep_if b.inputs s.store r v (same_vector (value_of s.store r) v) refl still) in
    let outputs : AgreeOn b.outputs s.store f.store = rw c.store (agree_if b.outputs s.store r v none) in
    later
    (c.evaluations p ∙ ap (λ n. n + one_where (woke s r v p)) evaluations ∙ ap (λ x. 0 + one_where x) is, c.processes p ∙ ap (λ x. awake x (continuation_of s p)) is ∙ continuation)
    len inputs outputs

pub stands_changed : (design : Design) (start s f : State) (r : ℕ) (v : Vector) (p : ℕ) (b : Block) → IsBlock design p b → contains b.outputs r ≡ false → Changed s r v f
    → StandsSince design start s p b → StandsSince design start f p b
stands_changed design start s f r v p b block none c (inl (evaluations, continuation)) =
    let is : woke s r v p ≡ false = asleep s r v p b.rest continuation in
    inl (
      c.evaluations p ∙ ap (λ n. n + one_where (woke s r v p)) evaluations ∙ ap (λ x. 1 + one_where x) is,
      c.processes p ∙ ap (λ x. awake x (continuation_of s p)) is ∙ continuation,
    )
stands_changed design start s f r v p b block none c (inr (inl (evaluations, continuation, consistent))) =
    waits_if design start s f r v p b (woke s r v p) refl none c (evaluations, continuation)
    (λ waits len inputs outputs. inr (inl (waits.0, waits.1, still_consistent design s f p b block c.time len inputs outputs consistent)))
stands_changed design start s f r v p b block none c (inr (inr h)) =
    waits_if design start s f r v p b (woke s r v p) refl none c h.waits
    (λ waits len inputs outputs. inr (inr (untouched_still start s f p b c.time len waits inputs outputs h)))

-- a process that waits for other registers

no_wake : (ts : List Trigger) (r : ℕ) (old new : Vector) → list_any (λ (t : Trigger). t.1 == r) ts ≡ false → wakes ts r old new ≡ false
no_wake [] r old new h = refl
no_wake (t ∷ ts) r old new h =
    let (first, others) = neither (t.1 == r) (list_any (λ (t : Trigger). t.1 == r) ts) h in
    rw first (no_wake ts r old new others)

pub unmoved : (s : State) (r : ℕ) (v : Vector) (q : ℕ) → waits_for_register (continuation_of s q) r ≡ false → woke s r v q ≡ false
unmoved s r v q h =
    ap (λ x. not (same_vector (value_of s.store r) v) && x) (no_wake (continuation_of s q).triggers r (value_of s.store r) v h) ∙ and_none (not (same_vector (value_of s.store r) v))
