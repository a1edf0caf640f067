-- What the tests say together is a phase.
use Rattle.std.proofs.Common.{◌≡◌, ◌≢◌, ◌<◌, ◌≤◌, ◌⊎◌, inl, inr, ℕ, Bool, true, false, List, Some, refl, sym, ap, subst, ◌∙◌, arith, ◌==◌, eq-eqb}
use Rattle.std.specs.Prelude.{slice_get}
use Rattle.std.proofs.lemmas.Bool.{eqb-true}
use Rattle.logic4.specs.Vector.{Vector}
use Rattle.model.specs.Expressions.{value_of}
use Rattle.model.specs.Turns.{contains}
use Rattle.model.specs.States.{State}
use Rattle.model.specs.Laws.{evaluations_in}
use Rattle.design.specs.Compiled.{Compiled, design_of}
use Rattle.phases.specs.Phase.{Block, IsBlock, IsTurnPending, IsBlockWaiting, HasSettled, HasChangedInput, IsOutput, continuation_of, waits_for_register, updated_in}
use Rattle.combinational.specs.declared.block.Logic.{Logic}
use Rattle.combinational.specs.declared.network.Network.{Network}
use Rattle.combinational.specs.Found.{IsNetworkOf, HasLogic, AreRanked, block_in, rank_in}
use Rattle.settling.specs.Settling.{block_or, block_at, IsMember, AreMembers, IsPendingOrSettled, IsPhaseOf, MayBeHeld, HaveOutputs}

-- the block of a member is that of its logic
pub member_block : (code : Compiled) (network : Network) (p : ℕ) (logic : Logic) → slice_get network.logics.items p ≡ Some (Some logic) → block_at code network p ≡ block_in code logic
member_block code network p logic found = ap (block_or code) found

inside_if : (n : ℕ) (b : Bool) → 1 ≤ n → (b ≡ false → n ≡ 0) → b ≡ true
inside_if n true some none = refl
inside_if n false some none = absurd (omega (arith, some, none refl))

none_if : (b c : Bool) → (b ≡ true → c ≡ true) → c ≡ false → b ≡ false
none_if true c there none =
    let is : c ≡ true = there refl in
    cc
none_if false c there none = refl

differ_if : (p q : ℕ) → (p == q) ≡ false → p ≢ q
differ_if p q is same =
    let both : (p == q) ≡ true = eq-eqb p q same in
    absurd (cc)

-- what was told of some members of a network in a state, whatever else is active
pub record Held (code : Compiled) (s : State) (network : Network) (members outputs : List ℕ) : Type 0 where
  pub found : IsNetworkOf code network
  pub goes_on : s.finished ≡ false
  pub apart : (r : ℕ) → contains (updated_in s) r ≡ true → contains outputs r ≡ false
  pub outputs_are : HaveOutputs network members outputs
  pub each : AreMembers code s network members

-- and that nothing else is active but updates, and that only members wait for these and for outputs
pub record Told (code : Compiled) (s : State) (network : Network) (members outputs : List ℕ) : Type 0 where
  pub held : Held code s network members outputs
  pub inside : (p : ℕ) → contains members p ≡ false → evaluations_in p s.active ≡ 0
  pub updates_sleep : (q r : ℕ) → contains members q ≡ false → contains (updated_in s) r ≡ true → waits_for_register (continuation_of s q) r ≡ false
  pub outputs_sleep : (q r : ℕ) → contains members q ≡ false → contains outputs r ≡ true → waits_for_register (continuation_of s q) r ≡ false

-- an output of a member is among the outputs
pub is_listed : (code : Compiled) (s : State) (network : Network) (members outputs : List ℕ) → Held code s network members outputs → (p r : ℕ) → contains members p ≡ true → contains (block_at code network p).outputs r ≡ true → contains outputs r ≡ true
is_listed code s network members outputs told p r there out =
    let m : IsMember code s network p = told.each p there in
    told.outputs_are p r m.logic there m.found (ap (λ (b : Block). contains b.outputs r) (sym (member_block code network p m.logic m.found)) ∙ out)

is_block : (code : Compiled) (s : State) (network : Network) (members outputs : List ℕ) → Held code s network members outputs → (p : ℕ) → contains members p ≡ true → IsBlock (design_of code) p (block_at code network p)
is_block code s network members outputs told p there =
    let m : IsMember code s network p = told.each p there in
    let has : HasLogic code p m.logic = told.found.each p m.logic m.found in
    subst (IsBlock (design_of code) p) (sym (member_block code network p m.logic m.found)) has.block

stands_so : (code : Compiled) (s : State) (network : Network) (p : ℕ) → IsMember code s network p → IsTurnPending s p (block_at code network p) ⊎ IsBlockWaiting s p (block_at code network p)
stands_so code s network p m =
    subst (λ (b : Block). IsTurnPending s p b ⊎ IsBlockWaiting s p b) (sym (member_block code network p m.logic m.found)) m.stands

pub settled_so : (code : Compiled) (s : State) (network : Network) (p : ℕ) → IsPendingOrSettled code s network p → IsTurnPending s p (block_at code network p) ⊎ HasSettled (design_of code) s p (block_at code network p)
settled_so code s network p h =
    subst (λ (b : Block). IsTurnPending s p b ⊎ HasSettled (design_of code) s p b) (sym (member_block code network p h.member.logic h.member.found)) h.settled

-- one of some registers has another value, and they are those that logic reads
pub changed_so : (code : Compiled) (start s : State) (network : Network) (p : ℕ) (logic : Logic) (registers : List ℕ) (begin end : List Vector) → slice_get network.logics.items p ≡ Some (Some logic) → registers ≡ logic.inputs.items
    → begin ≡ start.store → end ≡ s.store → (r : ℕ) × (contains registers r ≡ true) × (value_of begin r ≢ value_of end r) → HasChangedInput start s (block_at code network p)
changed_so code start s network p logic registers begin end found are is is' (r, there, differs) =
    subst (HasChangedInput start s) (sym (member_block code network p logic found)) (
      r,
      ap (λ (rs : List ℕ). contains rs r) (sym are) ∙ there,
      λ same. differs (ap (λ (a : List Vector). value_of a r) is ∙ same ∙ ap (λ (a : List Vector). value_of a r) (sym is')),
    )

are_apart : (code : Compiled) (s : State) (network : Network) (p q : ℕ) → IsNetworkOf code network → p ≢ q → (m : IsMember code s network p) → (n : IsMember code s network q) → AreRanked network.ranks.items p q m.logic n.logic
are_apart code s network p q found differ m n = found.apart p q m.logic n.logic differ m.found n.found

is_single : (code : Compiled) (s : State) (network : Network) (p q r : ℕ) → IsNetworkOf code network → p ≢ q → IsMember code s network p → IsMember code s network q → contains (block_at code network p).outputs r ≡ true → contains (block_at code network q).outputs r ≡ false
is_single code s network p q r found differ m n out =
    let own : contains m.logic.outputs.items r ≡ true = ap (λ (b : Block). contains b.outputs r) (sym (member_block code network p m.logic m.found)) ∙ out in
    ap (λ (b : Block). contains b.outputs r) (member_block code network q n.logic n.found) ∙ (are_apart code s network p q found differ m n).single r own

in_order : (code : Compiled) (s : State) (network : Network) (p q r : ℕ) → IsNetworkOf code network → p ≢ q → IsMember code s network p → IsMember code s network q → contains (block_at code network p).outputs r ≡ true → contains (block_at code network q).inputs r ≡ true
    → rank_in network.ranks.items p < rank_in network.ranks.items q
in_order code s network p q r found differ m n out in_it =
    let own : contains m.logic.outputs.items r ≡ true = ap (λ (b : Block). contains b.outputs r) (sym (member_block code network p m.logic m.found)) ∙ out in
    let awaited : contains n.logic.inputs.items r ≡ true = ap (λ (b : Block). contains b.inputs r) (sym (member_block code network q n.logic n.found)) ∙ in_it in
    (are_apart code s network p q found differ m n).order r own awaited

order_if : (code : Compiled) (s : State) (network : Network) (members outputs : List ℕ) → Held code s network members outputs → (p q r : ℕ) (same : Bool) → (p == q) ≡ same → contains members p ≡ true → contains members q ≡ true
    → contains (block_at code network p).outputs r ≡ true → contains (block_at code network q).inputs r ≡ true → rank_in network.ranks.items p < rank_in network.ranks.items q
order_if code s network members outputs told p q r true is there there' out in_it =
    let none : contains (block_at code network p).inputs r ≡ false = (is_block code s network members outputs told p there).apart r out in
    let some : contains (block_at code network p).inputs r ≡ true = ap (λ k. contains (block_at code network k).inputs r) (eqb-true p q is) ∙ in_it in
    absurd (cc)
order_if code s network members outputs told p q r false is there there' out in_it =
    in_order code s network p q r told.found (differ_if p q is) (told.each p there) (told.each q there') out in_it

updates_apart : (code : Compiled) (s : State) (network : Network) (members outputs : List ℕ) → Held code s network members outputs → (r : ℕ) → contains (updated_in s) r ≡ true → (p : ℕ) → contains members p ≡ true
    → contains (block_at code network p).outputs r ≡ false
updates_apart code s network members outputs told r updated p there =
    none_if (contains (block_at code network p).outputs r) (contains outputs r) (is_listed code s network members outputs told p r there) (told.apart r updated)

outputs_unawaited : (code : Compiled) (s : State) (network : Network) (members outputs : List ℕ) → Told code s network members outputs → (q r : ℕ) → contains members q ≡ false → IsOutput members (block_at code network) r
    → waits_for_register (continuation_of s q) r ≡ false
outputs_unawaited code s network members outputs told q r none (p, there, out) =
    told.outputs_sleep q r none (is_listed code s network members outputs told.held p r there out)

pub may_be_held : (code : Compiled) (s : State) (network : Network) (members outputs : List ℕ) → Held code s network members outputs → MayBeHeld code s network members
may_be_held code s network members outputs told =
    record {
      goes_on = told.goes_on;
      exist = λ p there. (told.each p there).exists;
      blocks = is_block code s network members outputs told;
      stands = λ p there. stands_so code s network p (told.each p there);
      single = λ p q r there there' differ out. is_single code s network p q r told.found differ (told.each p there) (told.each q there') out;
      updates = updates_apart code s network members outputs told;
      order = λ p q r there there' out in_it. order_if code s network members outputs told p q r (p == q) refl there there' out in_it;
    }

sleeps_through : (code : Compiled) (s : State) (network : Network) (members outputs : List ℕ) → Told code s network members outputs → (q r : ℕ) → contains members q ≡ false
    → contains (updated_in s) r ≡ true ⊎ IsOutput members (block_at code network) r → waits_for_register (continuation_of s q) r ≡ false
sleeps_through code s network members outputs told q r none (inl updated) = told.updates_sleep q r none updated
sleeps_through code s network members outputs told q r none (inr out) =
    outputs_unawaited code s network members outputs told q r none out

pub is_phase : (code : Compiled) (s : State) (network : Network) (members outputs : List ℕ) → Told code s network members outputs → IsPhaseOf code s network members
is_phase code s network members outputs told =
    let held : Held code s network members outputs = told.held in
    record {
      goes_on = held.goes_on;
      inside = λ p active. inside_if (evaluations_in p s.active) (contains members p) active (told.inside p);
      exist = λ p there. (held.each p there).exists;
      blocks = is_block code s network members outputs held;
      stands = λ p there. stands_so code s network p (held.each p there);
      single = λ p q r there there' differ out. is_single code s network p q r held.found differ (held.each p there) (held.each q there') out;
      updates = updates_apart code s network members outputs held;
      order = λ p q r there there' out in_it. order_if code s network members outputs held p q r (p == q) refl there there' out in_it;
      others = sleeps_through code s network members outputs told;
    }
