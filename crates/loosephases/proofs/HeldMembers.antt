-- A member's turn is taken in the state in which members take turns, and it is beside the other as before.
use Rattle.std.proofs.Common.{◌≡◌, ◌≢◌, ℕ, ◌+◌, ◌<◌, Bool, true, false, eq-eqb, List, [], ◌∷◌, ◌++◌, ◌⊎◌, inl, inr, length, Some, refl, sym, ap, subst, ◌∙◌, ◌==◌, ◌||◌, arith}
use Rattle.std.proofs.lemmas.Bool.{eqb-true}
use Rattle.std.proofs.lemmas.Bool.Decides.{eqb_tells}
use Rattle.std.proofs.lemmas.List.{get_or-set_same, get_or-set_other}
use Rattle.model.specs.Design.{Design}
use Rattle.model.specs.Expressions.{value_of}
use Rattle.model.specs.Turns.{contains, short_turn}
use Rattle.model.specs.Turns as turns
use Rattle.model.specs.States.{Evaluate, State, change_all, schedule_all, schedule_wait, taking, turned, with_continuation, without}
use Rattle.model.specs.Runs.{action_in}
use Rattle.model.specs.Laws.{evaluations_in}
use Rattle.orders.specs.Alike.{IsInOrder}
use Rattle.orders.specs.Apart.{AgreeOn, all_given, written_by, continuation_after}
use Rattle.orders.proofs.EventLists.{updates_left}
use Rattle.orders.proofs.Stores.{append-none, length_all, all_other}
use Rattle.orders.proofs.TurnFrame.{turn_has_frame}
use Rattle.loose.specs.Loose.{of_class, AlikeIn}
use Rattle.loose.proofs.ClassStates.{states_in-trans}
use Rattle.phases.specs.Phase.{IsActive, Block, triggers, ComputesOutputs, IsBlock, continuation_of, IsConsistent, IsTurnPending, IsBlockWaiting, HasSettled, StandsSince, waits_for_register, IsOutput}
use Rattle.phases.proofs.Values.{written_again}
use Rattle.phases.proofs.Events.{active_at, AllChanged, all_changed, stands_after, Unmoved, all_unmoved, taken_other, taken_own, stands_taken}
use Rattle.phases.proofs.Members.{Standing, stands_now}
use Rattle.loosephases.specs.Held.{AreHeldMembers, HasCone, IsOutsideCone}
use Rattle.loosephases.proofs.Weights.{no_wait}
use Rattle.loosephases.proofs.Beside.{bare, bare_same, Beside, Together}
use Rattle.loosephases.proofs.HeldTurns.{nobody, length_set_continuation, stands_moved, not_one, apart_from}

-- a register that two lists have in common, or none

or_right : (a b : Bool) → b ≡ true → (a || b) ≡ true
or_right true b h = refl
or_right false b h = h

abbrev Common : List ℕ → List ℕ → Type 0
Common xs ys = (r : ℕ) × (contains xs r ≡ true) × (contains ys r ≡ true)

common_first : (x : ℕ) (xs ys : List ℕ) (is : Bool) → contains ys x ≡ is → Common xs ys ⊎ ((r : ℕ) → contains xs r ≡ true → contains ys r ≡ false)
    → Common (x ∷ xs) ys ⊎ ((r : ℕ) → contains (x ∷ xs) r ≡ true → contains ys r ≡ false)
common_first x xs ys true is later =
    let own : (x == x) ≡ true = eq-eqb x x refl in
    inl (x, rw own refl, is)
common_first x xs ys false is (inl (r, there, there')) = inl (r, or_right (x == r) (contains xs r) there, there')
common_first x xs ys false is (inr none) = inr (λ r there. one_of r (x == r) refl there)
  where
    one_of : (r : ℕ) (here : Bool) → (x == r) ≡ here → (here || contains xs r) ≡ true → contains ys r ≡ false
    one_of r true here there =
        let same : x ≡ r = eqb-true x r here in
        rw (← same) is
    one_of r false here there = none r there

common_or_none : (xs ys : List ℕ) → Common xs ys ⊎ ((r : ℕ) → contains xs r ≡ true → contains ys r ≡ false)
common_or_none [] ys = inr (λ r there. nothing_in r there)
  where
    nothing_in : (r : ℕ) → contains [] r ≡ true → contains ys r ≡ false
    nothing_in r h = cc
common_or_none (x ∷ xs) ys = common_first x xs ys (contains ys x) refl (common_or_none xs ys)

-- the block of the member is settled behind its turn

not_written : (b : Block) (t : turns.Turn) (r : ℕ) (is : Bool) → contains (written_by t) r ≡ is → ComputesOutputs b t → contains b.outputs r ≡ false → contains (written_by t) r ≡ false
not_written b t r true is c none =
    let bad : contains b.outputs r ≡ true = c.writes r is in
    cc
not_written b t r false is c none = is

no_output : (design : Design) (p : ℕ) (b : Block) (r : ℕ) (is : Bool) → contains b.outputs r ≡ is → IsBlock design p b → contains b.inputs r ≡ true → contains b.outputs r ≡ false
no_output design p b r true is block input =
    let bad : contains b.inputs r ≡ false = block.apart r is in
    cc
no_output design p b r false is block input = is

own_consistent : (design : Design) (s f : State) (p : ℕ) (b : Block) (t : turns.Turn) → IsBlock design p b → short_turn design p b.rest s.store s.time ≡ Some t → ComputesOutputs b t
    → f.time ≡ s.time → f.store ≡ all_given s.store t.writes → IsConsistent design f p b
own_consistent design s f p b t block at c time store turn is =
    let len : length s.store ≡ length f.store = sym (ap length store ∙ length_all s.store t.writes) in
    let agree : AgreeOn t.uses s.store f.store =
    λ r used.
    let none : contains b.outputs r ≡ false = no_output design p b r (contains b.outputs r) refl block (c.reads r used) in
    sym (ap (λ a. value_of a r) store ∙ all_other s.store t.writes r (not_written b t r (contains (written_by t) r) refl c none)) in
    let frame : short_turn design p b.rest f.store s.time ≡ Some t = turn_has_frame design p b.rest s.store f.store s.time t len at agree in
    let both : Some t ≡ Some turn = sym frame ∙ ap (λ now. short_turn design p b.rest f.store now) (sym time) ∙ is in
    let same : t ≡ turn = cc in
    let again : all_given f.store t.writes ≡ f.store = ap (λ a. all_given a t.writes) store ∙ written_again s.store t.writes ∙ sym store in
    subst (λ (x : turns.Turn). all_given f.store x.writes ≡ f.store) same again

settled_after : (design : Design) (s : State) (n p : ℕ) (b : Block) (t : turns.Turn) → IsInOrder s → action_in s.active n ≡ Some (Evaluate p) → p < length s.processes → IsBlock design p b
    → IsTurnPending s p b → short_turn design p b.rest s.store s.time ≡ Some t → ComputesOutputs b t → HasSettled design (with_continuation p t (change_all (taking n s) t.writes)) p b
settled_after design s n p b t order at exists block (one, continuation) is c =
    let x : State = change_all (taking n s) t.writes in
    let all : AllChanged (taking n s) t.writes x = all_changed (taking n s) t.writes in
    let still : Unmoved (taking n s) p x = all_unmoved (taking n s) t.writes p (λ r wrote. ap (λ y. waits_for_register y r) continuation) in
    let own : evaluations_in p s.active ≡ 1 + evaluations_in p (without n s.active) = taken_own s n p order at in
    let inside : p < length x.processes = rw all.count exists in
    let new_is : continuation_after t ≡ record { remainder = b.rest; triggers = triggers b } = rw (c.rest, c.wait) refl in (
      omega (arith, one, own, still.1),
      get_or-set_same x.processes p (continuation_after t) nobody inside ∙ new_is,
      own_consistent design s (with_continuation p t x) p b t block is c all.time all.store,
    )

pub turn_leaves : (s : State) (n p : ℕ) (t : turns.Turn) (b : Block) → ComputesOutputs b t → turned s n p t ≡ with_continuation p t (change_all (taking n s) t.writes)
turn_leaves s n p t b c =
    ap (λ w. with_continuation p t (schedule_wait p w (schedule_all (change_all (taking n s) t.writes) t.nbas))) c.wait
    ∙ ap (λ ls. with_continuation p t (schedule_all (change_all (taking n s) t.writes) ls)) c.nbas

-- a member's turn, and what is known where it is taken
abbrev pub MemberTurn : Design → State → List ℕ → (ℕ → Block) → ℕ → ℕ → turns.Turn → Type 0
MemberTurn design s members block n p t =
    record {
      at : action_in s.active n ≡ Some (Evaluate p);
      member : contains members p ≡ true;
      pending : IsTurnPending s p (block p);
      turn : short_turn design p (block p).rest s.store s.time ≡ Some t;
      computes : ComputesOutputs (block p) t;
    }

-- the state behind it
abbrev pub after_member : State → ℕ → ℕ → turns.Turn → State
after_member s n p t = with_continuation p t (change_all (taking n s) t.writes)

plain_unwritten : (members : List ℕ) (block : ℕ → Block) (p r : ℕ) (t : turns.Turn) (is : Bool) → contains (written_by t) r ≡ is → contains members p ≡ true → ComputesOutputs (block p) t
    → (IsOutput members block r → ⊥) → contains (written_by t) r ≡ false
plain_unwritten members block p r t true is member c none = absurd (none (p, member, c.writes r is))
plain_unwritten members block p r t false is member c none = is

outside_unwritten : (class : ℕ → ℕ) (design : Design) (members : List ℕ) (block : ℕ → Block) (s u : State) (n p r : ℕ) (t : turns.Turn) (is : Bool) → contains (written_by t) r ≡ is → IsInOrder s
    → MemberTurn design s members block n p t → Beside class members block s u → IsOutsideCone u members block r → contains (written_by t) r ≡ false
outside_unwritten class design members block s u n p r t true is i m b (cone, has, none) =
    let bad : contains cone r ≡ true = b.pending cone p r has m.member (active_at s n p i m.at) (m.computes.writes r is) in
    cc
outside_unwritten class design members block s u n p r t false is i m b out = is

unwritten_value : (s : State) (n r : ℕ) (t : turns.Turn) → contains (written_by t) r ≡ false → value_of (change_all (taking n s) t.writes).store r ≡ value_of s.store r
unwritten_value s n r t none =
    ap (λ a. value_of a r) (all_changed (taking n s) t.writes).store ∙ all_other s.store t.writes r none

-- what is pending behind the turn has its outputs in the cone

woken_in : (class : ℕ → ℕ) (design : Design) (members : List ℕ) (block : ℕ → Block) (s u : State) (n p q r : ℕ) (t : turns.Turn) (cone : List ℕ) → IsInOrder s → MemberTurn design s members block n p t
    → Beside class members block s u → HasCone u members block cone → (p == q) ≡ false → contains members q ≡ true → IsBlockWaiting s q (block q) → contains (block q).outputs r ≡ true
    → IsActive (after_member s n p t) q → Common (written_by t) (block q).inputs ⊎ ((k : ℕ) → contains (written_by t) k ≡ true → contains (block q).inputs k ≡ false) → contains cone r ≡ true
woken_in class design members block s u n p q r t cone i m b has other member h out active (inl (k, wrote, input)) =
    let there : contains cone k ≡ true = b.pending cone p k has m.member (active_at s n p i m.at) (m.computes.writes k wrote) in
    has.goes_on q k r member input there out
woken_in class design members block s u n p q r t cone i m b has other member h out active (inr apart) =
    let still : Unmoved (taking n s) q (change_all (taking n s) t.writes) = all_unmoved (taking n s) t.writes q (λ k wrote. no_wait s q k (block q) (inr h) (apart k wrote)) in
    absurd (omega (arith, active, still.1, taken_other s n p q s.next_event i m.at other, h.0))

pending_in : (class : ℕ → ℕ) (design : Design) (members : List ℕ) (block : ℕ → Block) (s u : State) (n p q r : ℕ) (t : turns.Turn) (cone : List ℕ) → IsInOrder s → MemberTurn design s members block n p t
    → Beside class members block s u → HasCone u members block cone → (p == q) ≡ false → contains members q ≡ true → Standing s q (block q) → contains (block q).outputs r ≡ true
    → IsActive (after_member s n p t) q → contains cone r ≡ true
pending_in class design members block s u n p q r t cone i m b has other member (inl (one, continuation)) out active = b.pending cone q r has member (omega (arith, one)) out
pending_in class design members block s u n p q r t cone i m b has other member (inr h) out active =
    woken_in class design members block s u n p q r t cone i m b has other member h out active (common_or_none (written_by t) (block q).inputs)

own_pending : (design : Design) (members : List ℕ) (block : ℕ → Block) (rank : ℕ → ℕ) (s : State) (n p : ℕ) (t : turns.Turn) → IsInOrder s → AreHeldMembers design s members block rank
    → MemberTurn design s members block n p t → HasSettled design (after_member s n p t) p (block p)
own_pending design members block rank s n p t i held m =
    settled_after design s n p (block p) t i m.at (held.exist p m.member) (held.blocks p m.member) m.pending m.turn m.computes

cone_after : (class : ℕ → ℕ) (design : Design) (start : State) (members : List ℕ) (block : ℕ → Block) (rank : ℕ → ℕ) (s u : State) (n p q r : ℕ) (t : turns.Turn) (cone : List ℕ) (is : Bool) → (p == q) ≡ is → IsInOrder s
    → AreHeldMembers design s members block rank → MemberTurn design s members block n p t → Together class design start members block s u → HasCone u members block cone → contains members q ≡ true
    → IsActive (after_member s n p t) q → contains (block q).outputs r ≡ true → contains cone r ≡ true
cone_after class design start members block rank s u n p q r t cone true is i held m h has member active out =
    let same : p ≡ q = eqb-true p q is in
    let settled : HasSettled design (after_member s n p t) p (block p) = own_pending design members block rank s n p t i held m in
    let none : evaluations_in q (after_member s n p t).active ≡ 0 = ap (λ k. evaluations_in k (after_member s n p t).active) (sym same) ∙ settled.0 in
    absurd (omega (arith, active, none))
cone_after class design start members block rank s u n p q r t cone false is i held m h has member active out =
    pending_in class design members block s u n p q r t cone i m h.beside has is member (stands_now design start s q (block q) (h.here q member)) out active

-- a process that is no member is as it was

differ : (members : List ℕ) (p q : ℕ) → contains members p ≡ true → contains members q ≡ false → (p == q) ≡ false
differ members p q member none =
    let other : (q == p) ≡ false = apart_from members q p (q == p) refl none member in
    grind (arith, eqb_tells p q, eqb_tells q p, other)

other_stays : (class : ℕ → ℕ) (design : Design) (start : State) (members : List ℕ) (block : ℕ → Block) (s u : State) (n p q : ℕ) (t : turns.Turn) → IsInOrder s → MemberTurn design s members block n p t
    → Together class design start members block s u → contains members q ≡ false
    → (continuation_of (after_member s n p t) q ≡ continuation_of s q) × (evaluations_in q (after_member s n p t).active ≡ evaluations_in q s.active)
other_stays class design start members block s u n p q t i m h none =
    let x : State = change_all (taking n s) t.writes in
    let other : (p == q) ≡ false = differ members p q m.member none in
    let still : Unmoved (taking n s) q x = all_unmoved (taking n s) t.writes q (λ k wrote. h.quiet q k none (p, m.member, m.computes.writes k wrote)) in
    (get_or-set_other x.processes p q (continuation_after t) nobody (not_one p q other) ∙ still.0, still.1 ∙ taken_other s n p q s.next_event i m.at other)

member_beside : (class : ℕ → ℕ) (design : Design) (start : State) (members : List ℕ) (block : ℕ → Block) (rank : ℕ → ℕ) (s u : State) (n p : ℕ) (t : turns.Turn) → IsInOrder s → AreHeldMembers design s members block rank
    → MemberTurn design s members block n p t → Together class design start members block s u → Beside class members block (after_member s n p t) u
member_beside class design start members block rank s u n p t i held m h =
    let x : State = change_all (taking n s) t.writes in
    let f : State = after_member s n p t in
    let all : AllChanged (taking n s) t.writes x = all_changed (taking n s) t.writes in
    let b : Beside class members block s u = h.beside in
    let c : ComputesOutputs (block p) t = m.computes in
    let monitor : f.monitor ≡ s.monitor = ap (λ ms. x.monitor ++ ms) c.strobes ∙ append-none x.monitor ∙ all.monitor in
    let was : AlikeIn class (bare f) (bare s) = bare_same class s f all.time all.inactive all.nonblocking monitor all.future_inactive all.future_nonblocking (c.finish ∙ sym held.goes_on) in
    record {
      rest = states_in-trans class (bare f) (bare s) (bare u) was b.rest;
      registers = ap length all.store ∙ length_all s.store t.writes ∙ b.registers;
      count = length_set_continuation x.processes p (continuation_after t) ∙ all.count ∙ b.count;
      plain = λ r none. unwritten_value s n r t (plain_unwritten members block p r t (contains (written_by t) r) refl m.member c none) ∙ b.plain r none;
      outside = λ r out. unwritten_value s n r t (outside_unwritten class design members block s u n p r t (contains (written_by t) r) refl i m b out) ∙ b.outside r out;
      pending = λ cone q r has member active out. cone_after class design start members block rank s u n p q r t cone (p == q) refl i held m h has member active out;
      others = λ q none.
          let (continuation, evaluations) = other_stays class design start members block s u n p q t i m h none in
          (continuation ∙ (b.others q none).0, evaluations ∙ (b.others q none).1);
      updates = λ k. ap (of_class class k) (all.updates ∙ sym (updates_left n p 0 s.next_event s.active i.active m.at)) ∙ b.updates k;
    }

member_stands : (class : ℕ → ℕ) (design : Design) (start : State) (members : List ℕ) (block : ℕ → Block) (rank : ℕ → ℕ) (s u : State) (n p q : ℕ) (t : turns.Turn) (is : Bool) → (p == q) ≡ is → IsInOrder s
    → AreHeldMembers design s members block rank → MemberTurn design s members block n p t → Together class design start members block s u → contains members q ≡ true
    → StandsSince design start (after_member s n p t) q (block q)
member_stands class design start members block rank s u n p q t true is i held m h member =
    let same : p ≡ q = eqb-true p q is in
    subst (λ k. StandsSince design start (after_member s n p t) k (block k)) same (inr (inl (own_pending design members block rank s n p t i held m)))
member_stands class design start members block rank s u n p q t false is i held m h member =
    let x : State = change_all (taking n s) t.writes in
    let other : q ≢ p = not_one p q is in
    let taken : StandsSince design start (taking n s) q (block q) = stands_taken design start s n q (block q) (taken_other s n p q s.next_event i m.at is) (h.here q member) in
    let after : StandsSince design start x q (block q) =
    stands_after design start (taking n s) t.writes q (block q) (held.blocks q member) (λ r wrote. held.single p q r m.member member (λ same. other (sym same)) (m.computes.writes r wrote)) taken in
    stands_moved design start x (after_member s n p t) q (block q) refl refl refl (get_or-set_other x.processes p q (continuation_after t) nobody other) after

pub member_together : (class : ℕ → ℕ) (design : Design) (start : State) (members : List ℕ) (block : ℕ → Block) (rank : ℕ → ℕ) (s u : State) (n p : ℕ) (t : turns.Turn) → IsInOrder s → AreHeldMembers design s members block rank
    → MemberTurn design s members block n p t → Together class design start members block s u → Together class design start members block (after_member s n p t) u
member_together class design start members block rank s u n p t i held m h =
    record {
      beside = member_beside class design start members block rank s u n p t i held m h;
      here = λ q member. member_stands class design start members block rank s u n p q t (p == q) refl i held m h member;
      there = h.there;
      quiet = λ q r none out.
          let (continuation, evaluations) = other_stays class design start members block s u n p q t i m h none in
          ap (λ y. waits_for_register y r) continuation ∙ h.quiet q r none out;
    }
