-- Two states that go along: in one the held processes took turns, in the other none did. What a change of a register that is none of
-- their outputs does to both.
use Rattle.std.proofs.Common.{◌≡◌, ℕ, Bool, true, false, eq-eqb, List, [], ◌∷◌, ◌⊎◌, inl, inr, map, length, refl, sym, ap, subst, ◌∙◌, ◌==◌, ◌||◌, if◌then◌else◌, arith}
use Rattle.std.specs.Prelude.{not, ◌&&◌}
use Rattle.logic4.specs.Vector.{Vector}
use Rattle.logic4.specs.Operators.{same_vector}
use Rattle.model.specs.Design.{Design}
use Rattle.model.specs.Expressions.{value_of}
use Rattle.model.specs.Turns.{contains}
use Rattle.model.specs.States.{Event, Continuation, State, is_woken, change, change_all}
use Rattle.model.specs.Laws.{evaluations_in}
use Rattle.orders.proofs.Stores.{length_given, given_both}
use Rattle.loose.specs.Loose.{of_class, updates_of_class, AreAlikeIn, IsAlikeFutureIn, AlikeIn}
use Rattle.loose.proofs.ClassLists.{alike_in-same}
use Rattle.loose.proofs.ClassFutures.{alike_future_in-same}
use Rattle.loose.proofs.ClassStates.{states_in-sym, states_in-trans}
use Rattle.phases.specs.Phase.{IsActive, Block, continuation_of, IsBlock, StandsSince, waits_for_register, IsOutput}
use Rattle.phases.proofs.Changes.{woke, awake, one_where, Changed, changed}
use Rattle.phases.proofs.Members.{Standing, stands_now, stands_changed}
use Rattle.loosephases.specs.Held.{HasCone, IsOutsideCone}

-- a state but for its active events, its processes and its values
abbrev pub bare : State → State
bare s = record s { store = []; processes = []; active = [] }

pub alike_same : (class : ℕ → ℕ) (xs ys : List Event) → xs ≡ ys → AreAlikeIn class xs ys
alike_same class xs ys is = subst (λ zs. AreAlikeIn class xs zs) is (alike_in-same class xs)

future_same : (class : ℕ → ℕ) (xs ys : List (ℕ × Event)) → xs ≡ ys → IsAlikeFutureIn class xs ys
future_same class xs ys is = subst (λ zs. IsAlikeFutureIn class xs zs) is (alike_future_in-same class xs)

pub bare_same : (class : ℕ → ℕ) (s f : State) → f.time ≡ s.time → f.inactive ≡ s.inactive → f.nonblocking ≡ s.nonblocking → f.monitor ≡ s.monitor → f.future_inactive ≡ s.future_inactive
    → f.future_nonblocking ≡ s.future_nonblocking → f.finished ≡ s.finished → AlikeIn class (bare f) (bare s)
bare_same class s f time inactive nonblocking monitor future_inactive future_nonblocking finished =
    record {
      time = time;
      store = refl;
      processes = refl;
      active = alike_in-same class [];
      inactive = alike_same class f.inactive s.inactive inactive;
      nonblocking = alike_same class f.nonblocking s.nonblocking nonblocking;
      monitor = monitor;
      future_inactive = future_same class f.future_inactive s.future_inactive future_inactive;
      future_nonblocking = future_same class f.future_nonblocking s.future_nonblocking future_nonblocking;
      finished = finished;
    }

-- The first state is beside the second: they are the same but for the outputs in the cone of what is pending in the second, and the
-- events and states of members. What is pending in the first has its outputs in that cone.
abbrev pub Beside : (ℕ → ℕ) → List ℕ → (ℕ → Block) → State → State → Type 0
Beside class members block t u =
    record {
      rest : AlikeIn class (bare t) (bare u);
      registers : length t.store ≡ length u.store;
      count : length t.processes ≡ length u.processes;
      plain : (r : ℕ) → (IsOutput members block r → ⊥) → value_of t.store r ≡ value_of u.store r;
      outside : (r : ℕ) → IsOutsideCone u members block r → value_of t.store r ≡ value_of u.store r;
      pending : (cone : List ℕ) (p r : ℕ) → HasCone u members block cone → contains members p ≡ true → IsActive t p → contains (block p).outputs r ≡ true → contains cone r ≡ true;
      others : (q : ℕ) → contains members q ≡ false → (continuation_of t q ≡ continuation_of u q) × (evaluations_in q t.active ≡ evaluations_in q u.active);
      updates : (c : ℕ) → updates_of_class class c t.active ≡ updates_of_class class c u.active;
    }

-- with what stays of the members and of the others, since a start
abbrev pub Together : (ℕ → ℕ) → Design → State → List ℕ → (ℕ → Block) → State → State → Type 0
Together class design start members block t u =
    record {
      beside : Beside class members block t u;
      here : (p : ℕ) → contains members p ≡ true → StandsSince design start t p (block p);
      there : (p : ℕ) → contains members p ≡ true → StandsSince design start u p (block p);
      quiet : (q r : ℕ) → contains members q ≡ false → IsOutput members block r → waits_for_register (continuation_of t q) r ≡ false;
    }

-- where no less is pending, a cone is one of what was pending
pub cone_before : (members : List ℕ) (block : ℕ → Block) (u g : State) (cone : List ℕ) → ((p : ℕ) → contains members p ≡ true → IsActive u p → IsActive g p) → HasCone g members block cone
    → HasCone u members block cone
cone_before members block u g cone more has =
    record { begins = λ p r member active out. has.begins p r member (more p member active) out; goes_on = has.goes_on }

pub no_out : (members : List ℕ) (block : ℕ → Block) (p r : ℕ) (is : Bool) → contains (block p).outputs r ≡ is → contains members p ≡ true → (IsOutput members block r → ⊥) → contains (block p).outputs r ≡ false
no_out members block p r true is member none = absurd (none (p, member, is))
no_out members block p r false is member none = is

-- one change of a register that is no output

same_woke : (t u : State) (r : ℕ) (v : Vector) (p : ℕ) → value_of t.store r ≡ value_of u.store r → continuation_of t p ≡ continuation_of u p → woke t r v p ≡ woke u r v p
same_woke t u r v p value continuation =
    ap (λ x. not (same_vector x v) && is_woken r x v (continuation_of t p)) value
    ∙ ap (λ y. not (same_vector (value_of u.store r) v) && is_woken r (value_of u.store r) v y) continuation

woken_too : (t u f g : State) (r p : ℕ) (v : Vector) (b : Block) → value_of t.store r ≡ value_of u.store r → Changed t r v f → Changed u r v g → Standing t p b → Standing u p b
    → IsActive f p → IsActive t p ⊎ IsActive g p
woken_too t u f g r p v b value c d (inl (one, continuation)) there active = inl (omega (arith, one))
woken_too t u f g r p v b value c d (inr (none, continuation)) (inl (one, continuation')) active =
    inr (omega (arith, one, d.evaluations p))
woken_too t u f g r p v b value c d (inr (none, continuation)) (inr (none', continuation')) active =
    let same : woke t r v p ≡ woke u r v p = same_woke t u r v p value (continuation ∙ sym continuation') in
    let count : (if woke t r v p then 1 else 0) ≡ (if woke u r v p then 1 else 0) = ap one_where same in
    inr (omega (arith, c.evaluations p, d.evaluations p, none, count, active))

in_cone : (class : ℕ → ℕ) (members : List ℕ) (block : ℕ → Block) (t u g : State) (cone : List ℕ) (p r : ℕ) → Beside class members block t u → HasCone u members block cone → HasCone g members block cone
    → contains members p ≡ true → contains (block p).outputs r ≡ true → IsActive t p ⊎ IsActive g p → contains cone r ≡ true
in_cone class members block t u g cone p r h before has member out (inl active) = h.pending cone p r before member active out
in_cone class members block t u g cone p r h before has member out (inr active) = has.begins p r member active out

changed_rest : (class : ℕ → ℕ) (s f : State) (r : ℕ) (v : Vector) → Changed s r v f → AlikeIn class (bare f) (bare s)
changed_rest class s f r v c =
    bare_same class s f c.time c.inactive c.nonblocking c.monitor c.future_inactive c.future_nonblocking c.finished

changed_values : (t u f g : State) (r q : ℕ) (v : Vector) → length t.store ≡ length u.store → Changed t r v f → Changed u r v g → value_of t.store r ≡ value_of u.store r → value_of t.store q ≡ value_of u.store q
    → value_of f.store q ≡ value_of g.store q
changed_values t u f g r q v len c d own h =
    ap (λ a. value_of a q) c.store ∙ given_both t.store u.store (r, v) q len own h ∙ ap (λ a. value_of a q) (sym d.store)

changed_other : (t u f g : State) (r q : ℕ) (v : Vector) → Changed t r v f → Changed u r v g → value_of t.store r ≡ value_of u.store r → continuation_of t q ≡ continuation_of u q
    → evaluations_in q t.active ≡ evaluations_in q u.active → (continuation_of f q ≡ continuation_of g q) × (evaluations_in q f.active ≡ evaluations_in q g.active)
changed_other t u f g r q v c d value continuation evaluations =
    let same : woke t r v q ≡ woke u r v q = same_woke t u r v q value continuation in
    let count : (if woke t r v q then 1 else 0) ≡ (if woke u r v q then 1 else 0) = ap one_where same in (
      c.processes q ∙ ap (λ b. awake b (continuation_of t q)) same ∙ ap (awake (woke u r v q)) continuation ∙ sym (d.processes q),
      omega (arith, c.evaluations q, d.evaluations q, evaluations, count),
    )

changed_beside : (class : ℕ → ℕ) (design : Design) (start : State) (members : List ℕ) (block : ℕ → Block) (t u f g : State) (r : ℕ) (v : Vector) → Together class design start members block t u → (IsOutput members block r → ⊥)
    → Changed t r v f → Changed u r v g → Beside class members block f g
changed_beside class design start members block t u f g r v h none c d =
    let b : Beside class members block t u = h.beside in
    let own : value_of t.store r ≡ value_of u.store r = b.plain r none in
    let more : (p : ℕ) → contains members p ≡ true → IsActive u p → IsActive g p = λ p member active. omega (arith, active, d.evaluations p) in
    record {
      rest = states_in-trans class (bare f) (bare t) (bare g) (changed_rest class t f r v c)
          (states_in-trans class (bare t) (bare u) (bare g) b.rest (states_in-sym class (bare g) (bare u) (changed_rest class u g r v d)));
      registers = ap length c.store ∙ length_given t.store (r, v) ∙ b.registers ∙ sym (ap length d.store ∙ length_given u.store (r, v));
      count = c.count ∙ b.count ∙ sym d.count;
      plain = λ q none'. changed_values t u f g r q v b.registers c d own (b.plain q none');
      outside = λ q out. changed_values t u f g r q v b.registers c d own (b.outside q (out.0, cone_before members block u g out.0 more out.1, out.2));
      pending = λ cone p q has member active out.
          in_cone class members block t u g cone p q b (cone_before members block u g cone more has) has member out
          (woken_too t u f g r p v (block p) own c d (stands_now design start t p (block p) (h.here p member)) (stands_now design start u p (block p) (h.there p member)) active);
      others = λ q none'. changed_other t u f g r q v c d own (b.others q none').0 (b.others q none').1;
      updates = λ k. ap (of_class class k) c.updates ∙ b.updates k ∙ ap (of_class class k) (sym d.updates);
    }

pub awake_quiet : (b : Bool) (x : Continuation) (r : ℕ) → waits_for_register x r ≡ false → waits_for_register (awake b x) r ≡ false
awake_quiet true x r h = refl
awake_quiet false x r h = h

pub one_together : (class : ℕ → ℕ) (design : Design) (start : State) (members : List ℕ) (block : ℕ → Block) (t u : State) (r : ℕ) (v : Vector) → ((p : ℕ) → contains members p ≡ true → IsBlock design p (block p))
    → (IsOutput members block r → ⊥) → Together class design start members block t u → Together class design start members block (change t r v) (change u r v)
one_together class design start members block t u r v blocks none h =
    let c : Changed t r v (change t r v) = changed t r v in
    let d : Changed u r v (change u r v) = changed u r v in
    record {
      beside = changed_beside class design start members block t u (change t r v) (change u r v) r v h none c d;
      here = λ p member. stands_changed design start t (change t r v) r v p (block p) (blocks p member) (no_out members block p r (contains (block p).outputs r) refl member none) c (h.here p member);
      there = λ p member. stands_changed design start u (change u r v) r v p (block p) (blocks p member) (no_out members block p r (contains (block p).outputs r) refl member none) d (h.there p member);
      quiet = λ q k none' out. ap (λ x. waits_for_register x k) (c.processes q) ∙ awake_quiet (woke t r v q) (continuation_of t q) k (h.quiet q k none' out);
    }

-- and several

or_left : (a b : Bool) → a ≡ true → (a || b) ≡ true
or_left true b h = refl
or_left false b h = cc

or_right : (a b : Bool) → b ≡ true → (a || b) ≡ true
or_right true b h = refl
or_right false b h = h

pub all_together : (class : ℕ → ℕ) (design : Design) (start : State) (members : List ℕ) (block : ℕ → Block) (ws : List (ℕ × Vector)) (t u : State) → ((p : ℕ) → contains members p ≡ true → IsBlock design p (block p))
    → ((r : ℕ) → contains (map (λ (w : ℕ × Vector). w.0) ws) r ≡ true → IsOutput members block r → ⊥) → Together class design start members block t u
    → Together class design start members block (change_all t ws) (change_all u ws)
all_together class design start members block [] t u blocks none h = h
all_together class design start members block (w ∷ ws) t u blocks none h =
    let first : IsOutput members block w.0 → ⊥ = none w.0 (or_left (w.0 == w.0) (contains (map (λ (w : ℕ × Vector). w.0) ws) w.0) (eq-eqb w.0 w.0 refl)) in
    all_together class design start members block ws (change t w.0 w.1) (change u w.0 w.1) blocks
    (λ r there. none r (or_right (w.0 == r) (contains (map (λ (w : ℕ × Vector). w.0) ws) r) there))
    (one_together class design start members block t u w.0 w.1 blocks first h)
