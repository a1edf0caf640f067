-- A whole module: what is found in it, and its design.
use Rattle.std.proofs.Common.{◌≡◌, List, [], map, Option, Some, None, sym, ap, subst, ◌∙◌}
use Rattle.model.specs.declared.limits.ModuleLimits.{ModuleLimits}
use Rattle.model.specs.Syntax.{Module}
use Rattle.model.specs.Design.{Design, Process}
use Rattle.model.specs.Elaboration.{Declared, Fault, declared, design_of_module, elaborated_process, widths_of, faults_within}
use Rattle.elaborate.specs.declared.fault.ElabFault.{ElabFault}
use Rattle.elaborate.specs.ModuleFaults.{IsFirstFault}
use Rattle.elaborate.specs.Formed.{AreFormedProcesses}
use Rattle.elaborate.specs.FirstFindings.{or_fault, found_names, found_among, found_module, IsFirstOf}
use Rattle.design.specs.Sound.{IsSound}
use Rattle.elaborate.specs.Small.{AreSmallProcesses}
use Rattle.elaborate.proofs.Settled.{Settles, module_settles, first_fault}
use Rattle.elaborate.proofs.Sound.{sound_design, small_module}
use Rattle.elaborate.proofs.Turns.{first_part}

module _ (limits : ModuleLimits) (m : Module) where
  -- what is told of the declarations, or of the processes behind faultless ones, is told of the module
  pub of_names : (f : ElabFault) → IsFirstOf f (found_names limits [] (declared m)) → IsFirstOf f (found_module limits m)
  of_names f is = first_part f (found_names limits [] (declared m)) (found_among limits (declared m) m.processes) is

  pub of_processes : (f : ElabFault) → found_names limits [] (declared m) ≡ None → IsFirstOf f (found_among limits (declared m) m.processes) → IsFirstOf f (found_module limits m)
  of_processes f none is = subst (λ o. IsFirstOf f (or_fault o (found_among limits (declared m) m.processes))) (sym none) is

  pub told_first : (f : ElabFault) → IsFirstOf f (found_module limits m) → IsFirstFault f (faults_within limits m)
  told_first f is = first_fault f (found_module limits m) (faults_within limits m) (module_settles limits m) is

  module _ (names : List Declared) (same : names ≡ declared m) (none : found_names limits [] (declared m) ≡ None) (among : found_among limits names m.processes ≡ None) where
    clean : found_among limits (declared m) m.processes ≡ None
    clean = subst (λ ds. found_among limits ds m.processes ≡ None) same among

    pub faultless : faults_within limits m ≡ []
    faultless = settled_none (found_module limits m) (ap (λ o. or_fault o (found_among limits (declared m) m.processes)) none ∙ clean) (module_settles limits m)
      where
        settled_none : (o : Option Fault) → o ≡ None → Settles o (faults_within limits m) → faults_within limits m ≡ []
        settled_none None e x = x
        settled_none (Some f) e x = absurd cc

    pub small_processes : AreSmallProcesses m.processes
    small_processes = small_module limits m none clean

    pub sound_module : AreFormedProcesses m.processes → IsSound (design_of_module m)
    sound_module formed = sound_design limits m formed none clean

  -- the design of the definitions, from what the program holds
  pub same_design : (names : List Declared) → names ≡ declared m → (processes : List Process) → processes ≡ map (elaborated_process names) m.processes
      → ◌≡◌ {A = Design} (record { widths = widths_of names; processes = processes }) (design_of_module m)
  same_design names same processes e =
      let p : processes ≡ map (elaborated_process (declared m)) m.processes = e ∙ ap (λ ds. map (elaborated_process ds) m.processes) same in
      λ j. record { widths = widths_of (same j); processes = p j }
