use Rattle.std.proofs.Common.{◌≡◌, [], None, map, ap, subst, ◌∙◌, rules}
use Rattle.model.specs.Elaboration.{declared}
use Rattle.model.specs.SourceTrees as trees
use Rattle.model.specs.SourceTrees.{module_of, declaration_of}
use Rattle.elaborate.specs.Registers.{all_declared}
use Rattle.elaborate.specs.FirstFindings.{found_names, found_among, IsFirstOf}
use Rattle.elaborate.specs.Formed.{AreFormedProcesses}
use Rattle.elaborate.proofs.Whole.{of_names, of_processes, told_first, faultless, small_processes, sound_module}
use Rattle.elaborate.proofs.elaboration.registers_of.Goals as goal

pub returns-in_err-names-clause-fault : goal.returns-in_err-names-clause-fault
returns-in_err-names-clause-fault c =
    let m = module_of c.args.source.now in
    let told : IsFirstOf c.in_err-names.field-0.0 (found_names c.args.limits [] (declared m)) =
    subst (λ ds. IsFirstOf c.in_err-names.field-0.0 (found_names c.args.limits [] (all_declared (map declaration_of ds)))) c.as_slice.ensures.value c.in_err-names.ensures.fault in
    let is = told_first c.args.limits m c.in_err-names.field-0.0 (of_names c.args.limits m c.in_err-names.field-0.0 told) in
    search rules

pub returns-in_err-told-clause-fault : goal.returns-in_err-told-clause-fault
returns-in_err-told-clause-fault c =
    let m = module_of c.args.source.now in
    let same : c.in_ok-names.names ≡ declared m = c.in_ok-names.ensures.registers ∙ ap (λ ds. all_declared (map declaration_of ds)) c.as_slice.ensures.value in
    let none : found_names c.args.limits [] (declared m) ≡ None =
    subst (λ ds. found_names c.args.limits [] (all_declared (map declaration_of ds)) ≡ None) c.as_slice.ensures.value c.in_ok-names.ensures.allowed in
    let q : found_among c.args.limits c.in_ok-names.names (map trees.source_process_of c.as_slice-2.result.now) ≡ found_among c.args.limits (declared m) m.processes =
    ap (λ ps. found_among c.args.limits c.in_ok-names.names (map trees.source_process_of ps)) c.as_slice-2.ensures.value ∙ ap (λ ds. found_among c.args.limits ds m.processes) same in
    let is = told_first c.args.limits m c.in_err-told.field-0.0 (of_processes c.args.limits m c.in_err-told.field-0.0 none (subst (IsFirstOf c.in_err-told.field-0.0) q c.in_err-told.ensures.fault)) in
    search rules

pub returns-clause-small : goal.returns-clause-small
returns-clause-small c =
    let m = module_of c.args.source.now in
    let same : c.in_ok-names.names ≡ declared m = c.in_ok-names.ensures.registers ∙ ap (λ ds. all_declared (map declaration_of ds)) c.as_slice.ensures.value in
    let none : found_names c.args.limits [] (declared m) ≡ None =
    subst (λ ds. found_names c.args.limits [] (all_declared (map declaration_of ds)) ≡ None) c.as_slice.ensures.value c.in_ok-names.ensures.allowed in
    let among : found_among c.args.limits c.in_ok-names.names m.processes ≡ None =
    subst (λ ps. found_among c.args.limits c.in_ok-names.names (map trees.source_process_of ps) ≡ None) c.as_slice-2.ensures.value c.in_ok-told.ensures.none in
    small_processes c.args.limits m c.in_ok-names.names same none among

pub returns-clause-sound : goal.returns-clause-sound
returns-clause-sound c =
    let m = module_of c.args.source.now in
    let same : c.in_ok-names.names ≡ declared m = c.in_ok-names.ensures.registers ∙ ap (λ ds. all_declared (map declaration_of ds)) c.as_slice.ensures.value in
    let none : found_names c.args.limits [] (declared m) ≡ None =
    subst (λ ds. found_names c.args.limits [] (all_declared (map declaration_of ds)) ≡ None) c.as_slice.ensures.value c.in_ok-names.ensures.allowed in
    let among : found_among c.args.limits c.in_ok-names.names m.processes ≡ None =
    subst (λ ps. found_among c.args.limits c.in_ok-names.names (map trees.source_process_of ps) ≡ None) c.as_slice-2.ensures.value c.in_ok-told.ensures.none in
    let formed : AreFormedProcesses m.processes = subst (λ ps. AreFormedProcesses (map trees.source_process_of ps)) c.as_slice-2.ensures.value c.in_ok-told.ensures.formed in
    sound_module c.args.limits m c.in_ok-names.names same none among formed

pub returns-clause-faultless : goal.returns-clause-faultless
returns-clause-faultless c =
    let m = module_of c.args.source.now in
    let same : c.in_ok-names.names ≡ declared m = c.in_ok-names.ensures.registers ∙ ap (λ ds. all_declared (map declaration_of ds)) c.as_slice.ensures.value in
    let none : found_names c.args.limits [] (declared m) ≡ None =
    subst (λ ds. found_names c.args.limits [] (all_declared (map declaration_of ds)) ≡ None) c.as_slice.ensures.value c.in_ok-names.ensures.allowed in
    let among : found_among c.args.limits c.in_ok-names.names m.processes ≡ None =
    subst (λ ps. found_among c.args.limits c.in_ok-names.names (map trees.source_process_of ps) ≡ None) c.as_slice-2.ensures.value c.in_ok-told.ensures.none in
    faultless c.args.limits m c.in_ok-names.names same none among

pub returns-clause-names : goal.returns-clause-names
returns-clause-names c = c.in_ok-names.ensures.registers ∙ ap (λ ds. all_declared (map declaration_of ds)) c.as_slice.ensures.value
