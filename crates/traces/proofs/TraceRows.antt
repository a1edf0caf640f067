-- Two systems: of two actors that count down, whose steps are apart; and of two that set one register, whose steps aren't.
use Rattle.std.proofs.Common.{◌≡◌, ◌≢◌, ◌↔◌, ℕ, zero, suc, Bool, true, false, if◌then◌else◌, List, [], ◌∷◌, ◌++◌, Option, Some, None, inl, inr, refl, sym, ap, ◌∙◌, arith}
use Rattle.traces.specs.Traces.{Moves, AreMoves, IsRunOfMoves, printed_by_steps, ArePartsApart}
use Rattle.traces.proofs.Projections.{projected}
use Rattle.traces.proofs.Orders.{in_any_order}

pub none_some : {A : Type 0} (x : A) → ◌≡◌ {A = Option A} None (Some x) → ⊥
none_some x h = cc

some_same : {A : Type 0} (x y : A) → Some x ≡ Some y → x ≡ y
some_same x y h = cc

-- how many steps each of the two has still to take
abbrev pub Counts : Type 0
Counts = ℕ × ℕ

-- where a step of one of them leads, of these numbers of steps
abbrev pub after : Bool → ℕ → ℕ → Option Counts
after true zero n = None
after true (suc m) n = Some (m, n)
after false m zero = None
after false m (suc n) = Some (m, n)

-- The steps of the two have nothing to do with each other; those of the first print a letter.
abbrev pub counters : Moves Counts Bool Bool
counters =
    record {
      Steps = λ s a f t. (f ≡ a) × (after a s.0 s.1 ≡ Some t);
      Waits = λ s a. (t : Counts) × (after a s.0 s.1 ≡ Some t);
      Alike = λ s t. s ≡ t;
      Apart = λ f g. f ≢ g;
      Gives = λ f a. ⊥;
      Ends = λ f. ⊥;
      prints = λ f. if f then 65 ∷ [] else [];
    }

first_second : (m n : ℕ) (t u : Counts) → after true m n ≡ Some t → after false m n ≡ Some u → (v : Counts) × (after false t.0 t.1 ≡ Some v) × (after true u.0 u.1 ≡ Some v)
first_second zero n t u is is' = absurd (none_some t is)
first_second (suc m) zero t u is is' = absurd (none_some u is')
first_second (suc m) (suc n) t u is is' =
    ((m, n), ap (λ (z : Counts). after false z.0 z.1) (sym (some_same (m, suc n) t is)), ap (λ (z : Counts). after true z.0 z.1) (sym (some_same (suc m, n) u is')))

both_orders : (m n : ℕ) (t u : Counts) (a b : Bool) → a ≢ b → after a m n ≡ Some t → after b m n ≡ Some u → (v : Counts) × (after b t.0 t.1 ≡ Some v) × (after a u.0 u.1 ≡ Some v)
both_orders m n t u true true differ is is' = absurd (differ refl)
both_orders m n t u true false differ is is' = first_second m n t u is is'
both_orders m n t u false true differ is is' =
    let (v, p, q) = first_second m n u t is' is in
    (v, q, p)
both_orders m n t u false false differ is is' = absurd (differ refl)

pub has_waited : (a b : Bool) (m n : ℕ) (t u : Counts) → after a m n ≡ Some t → after b t.0 t.1 ≡ Some u → (v : Counts) × (after b m n ≡ Some v)
has_waited true true zero n t u is is' = absurd (none_some t is)
has_waited true true (suc m) n t u is is' = ((m, n), refl)
has_waited true false zero n t u is is' = absurd (none_some t is)
has_waited true false (suc m) zero t u is is' = absurd (none_some u (ap (λ (z : Counts). after false z.0 z.1) (some_same (m, zero) t is) ∙ is'))
has_waited true false (suc m) (suc n) t u is is' = ((suc m, n), refl)
has_waited false true m zero t u is is' = absurd (none_some t is)
has_waited false true zero (suc n) t u is is' = absurd (none_some u (ap (λ (z : Counts). after true z.0 z.1) (some_same (zero, n) t is) ∙ is'))
has_waited false true (suc m) (suc n) t u is is' = ((m, suc n), refl)
has_waited false false m zero t u is is' = absurd (none_some t is)
has_waited false false m (suc n) t u is is' = ((m, n), refl)

same_prints : (f g : Bool) → counters.prints f ++ counters.prints g ≡ counters.prints g ++ counters.prints f
same_prints true true = refl
same_prints true false = refl
same_prints false true = refl
same_prints false false = refl

pub counters_are_moves : AreMoves counters
counters_are_moves =
    record {
      itself = λ s. refl;
      back = λ s t e. sym e;
      through = λ s t u e e'. e ∙ e';
      steps_alike = λ s t u a f e step. (u, (step.0, ap (λ (z : Counts). after a z.0 z.1) (sym e) ∙ step.1), refl);
      waits_alike = λ s t a e waits. (waits.0, ap (λ (z : Counts). after a z.0 z.1) (sym e) ∙ waits.1);
      one_step = λ s t u a f g step step'. (step.0 ∙ sym step'.0, some_same t u (sym step.1 ∙ step'.1));
      waiting = λ s t a f step. (t, step.1);
      frame = λ s t u a b f g differ step step' apart free.
          let (v, p, q) = both_orders s.0 s.1 t u a b differ step.1 step'.1 in
          (v, (step'.0, p));
      exchange = λ s t u a b f g differ step step' apart free free'.
          let (v, p, q) = both_orders s.0 s.1 t u a b differ step.1 step'.1 in
          (v, v, (step'.0, p), (step.0, q), refl);
      either_way = λ f g apart. same_prints f g;
      silent = λ f g apart ends. absurd ends;
      last = λ s t u a b f g step ends step'. ends;
      stays = λ s t a b f step differ waits.
          let (v, p, q) = both_orders s.0 s.1 t waits.0 a b differ step.1 waits.1 in
          (v, p);
      given = λ s t a b f step waits. inl (has_waited a b s.0 s.1 t waits.0 step.1 waits.1);
    }

-- each of the two is a part
abbrev side : Bool → ℕ
side true = 0
side false = 1

pub counters_are_parts : (s : Counts) → ArePartsApart counters side s
counters_are_parts s =
    record {
      apart = λ i j a b f g differ d e same. differ (sym d.belongs ∙ ap side (sym d.steps.0 ∙ same ∙ e.steps.0) ∙ e.belongs);
      kept = λ i a b f d gives. absurd gives;
      goes_on = λ i w t a run of none own waits. (a, waits.0, (refl, waits.1));
    }

-- the first counts, then the second, then the first
abbrev pub turns : List (Bool × Bool)
turns = (true, true) ∷ (false, false) ∷ (true, true) ∷ []

pub they_run : IsRunOfMoves counters (2, 1) turns (0, 0)
they_run = ((1, 1), (refl, refl), ((1, 0), (refl, refl), ((0, 0), (refl, refl), refl)))

-- the first counts down alone
first_alone : (u : Counts) × IsRunOfMoves counters (2, 1) ((true, true) ∷ (true, true) ∷ []) u × ((a : Bool) → side a ≡ 0 → counters.Waits u a ↔ counters.Waits (0, 0) a)
first_alone =
    projected counters side (2, 1) (0, 0) turns 0 counters_are_moves (counters_are_parts (2, 1)) they_run ((λ ends. ends), ((λ ends. ends), ((λ ends. ends), tt)))

-- the second counts down, and then the first
abbrev other_order : List (Bool × Bool)
other_order = (false, false) ∷ (true, true) ∷ (true, true) ∷ []

they_print : printed_by_steps counters.prints other_order ≡ 65 ∷ 65 ∷ []
they_print = refl

second_first : (u : Counts) × IsRunOfMoves counters (2, 1) other_order u × (u ≡ (0, 0)) × (printed_by_steps counters.prints other_order ≡ printed_by_steps counters.prints turns)
second_first =
    let zero_one : 1 ≢ 0 = λ same. omega (arith, same) in
    in_any_order counters side (2, 1) (0, 0) turns (1 ∷ 0 ∷ []) counters_are_moves (counters_are_parts (2, 1)) they_run ((λ ends. ends), ((λ ends. ends), ((λ ends. ends), tt)))
    (inr (zero_one, inl (refl, tt)), (inl (refl, ((λ same. zero_one (sym same)), tt)), (inr (zero_one, inl (refl, tt)), tt)))

-- which of two have still to set the register, and its value
abbrev Register : Type 0
Register = Bool × Bool × ℕ

-- where a step of one of them leads
abbrev set_by : Bool → Bool → Bool → Option Register
set_by true true right = Some (false, right, 1)
set_by true false right = None
set_by false left true = Some (left, false, 2)
set_by false left false = None

-- two that set one register, whose steps are said to be apart or not
abbrev setters : (Bool → Bool → Type 0) → Moves Register Bool Bool
setters apart =
    record {
      Steps = λ s a f t. (f ≡ a) × (set_by a s.0 s.1 ≡ Some t);
      Waits = λ s a. (t : Register) × (set_by a s.0 s.1 ≡ Some t);
      Alike = λ s t. s ≡ t;
      Apart = apart;
      Gives = λ f a. ⊥;
      Ends = λ f. ⊥;
      prints = λ f. [];
    }

different : ◌≡◌ {A = Register} (false, false, 2) (false, false, 1) → ⊥
different h =
    let values : 2 ≡ 1 = ap (λ (r : Register). r.2) h in
    omega (arith, values)

-- the two orders lead to two values
one_then_two : IsRunOfMoves (setters (λ f g. ⊥)) (true, true, 0) ((true, true) ∷ (false, false) ∷ []) (false, false, 2)
one_then_two = ((false, true, 1), (refl, refl), ((false, false, 2), (refl, refl), refl))

two_then_one : IsRunOfMoves (setters (λ f g. ⊥)) (true, true, 0) ((false, false) ∷ (true, true) ∷ []) (false, false, 1)
two_then_one = ((true, false, 2), (refl, refl), ((false, false, 1), (refl, refl), refl))

pub true_false : true ≢ false
true_false h = cc

-- so their steps can't be said to be apart
not_apart : AreMoves (setters (λ f g. Unit {0})) → ⊥
not_apart laws =
    let (v, w, first, second, same) = laws.exchange (true, true, 0) (false, true, 1) (true, false, 2) true false true false true_false (refl, refl) (refl, refl) tt (λ ends. ends) (λ ends. ends) in
    different (some_same (false, false, 2) v first.1 ∙ same ∙ sym (some_same (false, false, 1) w second.1))

-- and where they aren't, the two are no parts
no_parts : ArePartsApart (setters (λ f g. ⊥)) side (true, true, 0) → ⊥
no_parts parts =
    parts.apart 0 1 true false true false (λ same. omega (arith, same))
    record { before = []; there = (true, true, 0); after = (false, true, 1); way = refl; own = tt; belongs = refl; steps = (refl, refl) }
    record { before = []; there = (true, true, 0); after = (true, false, 2); way = refl; own = tt; belongs = refl; steps = (refl, refl) }
