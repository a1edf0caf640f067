-- Processes that sleep, and who waits for outputs besides.
use Rattle.std.proofs.Common.{◌≡◌, ℕ, Bool, true, false, List, [], ◌∷◌, ◌++◌, Option, Some, None, refl, ap, subst, ◌∙◌, ◌||◌, ◌==◌}
use Rattle.std.specs.Prelude.{slice_get}
use Rattle.std.specs.List.{All}
use Rattle.std.proofs.lemmas.List.Elements.{All-head, All-tail}
use Rattle.std.proofs.lemmas.Bool.{eqb-true}
use Rattle.model.specs.Turns.{contains}
use Rattle.model.specs.States.{State}
use Rattle.model.specs.Laws.{evaluations_in}
use Rattle.design.specs.Compiled.{Compiled}
use Rattle.phases.specs.Phase.{IsOutput, continuation_of, waits_for_register}
use Rattle.combinational.specs.declared.block.Logic.{Logic}
use Rattle.combinational.specs.declared.network.Network.{Network}
use Rattle.settling.specs.declared.sleepers.Sleeper.{Sleeper}
use Rattle.settling.specs.Settling.{block_or, block_at, HaveOutputs, WaitsBy, AreSleepers, sleeping}

-- what is in neither list is in none of both
in_neither : (ms ns : List ℕ) (q : ℕ) → contains ms q ≡ false → contains ns q ≡ false → contains (ms ++ ns) q ≡ false
in_neither [] ns q none none' = none'
in_neither (m ∷ ms) ns q none none' = step (m == q) none (λ h. in_neither ms ns q h none')
  where
    step : (here : Bool) → (here || contains ms q) ≡ false → (contains ms q ≡ false → contains (ms ++ ns) q ≡ false) → (here || contains (ms ++ ns) q) ≡ false
    step true h later = h
    step false h later = later h

-- an output of a block is one of the logic that was found
pub with_logic : (code : Compiled) (network : Network) (p r : ℕ) (o : Option (Option Logic)) → slice_get network.logics.items p ≡ o → contains (block_or code o).outputs r ≡ true
    → (logic : Logic) × (slice_get network.logics.items p ≡ Some (Some logic)) × (contains logic.outputs.items r ≡ true)
with_logic code network p r None is out = cc
with_logic code network p r (Some None) is out = cc
with_logic code network p r (Some (Some logic)) is out = (logic, is, out)

pub output_listed : (code : Compiled) (network : Network) (members outputs : List ℕ) → HaveOutputs network members outputs → (r : ℕ) → IsOutput members (block_at code network) r → contains outputs r ≡ true
output_listed code network members outputs are r (p, member, out) =
    let (logic, found, own) = with_logic code network p r (slice_get network.logics.items p) refl out in
    are p r logic member found own

-- a process is a sleeper beside members
pub record IsSleeper (code : Compiled) (s : State) (members : List ℕ) (x : Sleeper) : Type 0 where
  pub outside : contains members x.process ≡ false
  pub idle : evaluations_in x.process s.active ≡ 0
  pub waits : WaitsBy code s x

-- what holds of each sleeper's process holds of each process that sleeps
pub of_sleeping : (P : ℕ → Type 0) (xs : List Sleeper) (q : ℕ) → All (λ x. P x.process) xs → contains (sleeping xs) q ≡ true → P q
of_sleeping P [] q all is = cc
of_sleeping P (x ∷ xs) q all is = step (x.process == q) refl is (of_sleeping P xs q (All-tail (λ (y : Sleeper). P y.process) x xs all))
  where
    step : (here : Bool) → (x.process == q) ≡ here → (here || contains (sleeping xs) q) ≡ true → (contains (sleeping xs) q ≡ true → P q) → P q
    step true same h later = subst P (eqb-true x.process q same) (All-head (λ (y : Sleeper). P y.process) x xs all)
    step false same h later = later h

-- what was told of some sleepers
pub are_sleepers_so : (code : Compiled) (s : State) (network : Network) (members outputs both : List ℕ) (sleepers : List Sleeper) → HaveOutputs network members outputs → both ≡ members ++ sleeping sleepers
    → ((q r : ℕ) → contains both q ≡ false → contains outputs r ≡ true → waits_for_register (continuation_of s q) r ≡ false)
    → ((q : ℕ) → contains (sleeping sleepers) q ≡ true → contains members q ≡ false) → ((q : ℕ) → contains (sleeping sleepers) q ≡ true → evaluations_in q s.active ≡ 0) → All (WaitsBy code s) sleepers
    → AreSleepers code s network members sleepers
are_sleepers_so code s network members outputs both sleepers are both_are asleep outside idle wait =
    record {
      others = λ q r none none' out.
          asleep q r (ap (λ (l : List ℕ). contains l q) both_are ∙ in_neither members (sleeping sleepers) q none none') (output_listed code network members outputs are r out);
      outside = outside;
      idle = idle;
      wait = wait;
    }
