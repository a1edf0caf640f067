-- What is found is what the fault tells.
use Rattle.std.proofs.Common.{◌≡◌, true, subst}
use Rattle.locations.specs.SourceLocations.{is_process}
use Rattle.diagnosis.specs.FaultLocations.{is_named, is_long, is_name, is_call, tells}
use Rattle.diagnosis.proofs.Tellings.{told_wider}
use Rattle.diagnosis.proofs.wanted.told_byte.Goals as goal

pub returns-in-Undeclared : goal.returns-in-Undeclared
returns-in-Undeclared c =
    told_wider c.find.result _ (is_named c.as_str.result.now) (tells c.args.fault.now)
    (λ s h. rw c.in-Undeclared.is (subst (λ n. is_named n s ≡ true) c.as_str.ensures.value h)) c.find.ensures

pub returns-in-DeclaredTwice : goal.returns-in-DeclaredTwice
returns-in-DeclaredTwice c =
    told_wider c.find-in-DeclaredTwice.result _ (is_named c.as_str-in-DeclaredTwice.result.now) (tells c.args.fault.now)
    (λ s h. rw c.in-DeclaredTwice.is (subst (λ n. is_named n s ≡ true) c.as_str-in-DeclaredTwice.ensures.value h)) c.find-in-DeclaredTwice.ensures

pub returns-in-BadRange : goal.returns-in-BadRange
returns-in-BadRange c =
    told_wider c.find-in-BadRange.result _ (is_named c.as_str-in-BadRange.result.now) (tells c.args.fault.now)
    (λ s h. rw c.in-BadRange.is (subst (λ n. is_named n s ≡ true) c.as_str-in-BadRange.ensures.value h)) c.find-in-BadRange.ensures

pub returns-in-BadIndex : goal.returns-in-BadIndex
returns-in-BadIndex c =
    told_wider c.find_select.result _ (is_named c.as_str-in-BadIndex.result.now) (tells c.args.fault.now)
    (λ s h. rw c.in-BadIndex.is (subst (λ n. is_named n s ≡ true) c.as_str-in-BadIndex.ensures.value h)) c.find_select.ensures

pub returns-in-TooManyRegisters : goal.returns-in-TooManyRegisters
returns-in-TooManyRegisters c = told_wider c.find-in-TooManyRegisters.result _ (λ s. is_name s.token.kind) (tells c.args.fault.now) (λ s h. rw c.in-TooManyRegisters.is h) c.find-in-TooManyRegisters.ensures

pub returns-in-TooManyProcesses : goal.returns-in-TooManyProcesses
returns-in-TooManyProcesses c = told_wider c.find-in-TooManyProcesses.result _ (λ s. is_process s.token.kind) (tells c.args.fault.now) (λ s h. rw c.in-TooManyProcesses.is h) c.find-in-TooManyProcesses.ensures

pub returns-in-LongDelay : goal.returns-in-LongDelay
returns-in-LongDelay c = told_wider c.find-in-LongDelay.result _ is_long (tells c.args.fault.now) (λ s h. rw c.in-LongDelay.is h) c.find-in-LongDelay.ensures

pub returns-in-BadFormat : goal.returns-in-BadFormat
returns-in-BadFormat c = told_wider c.find-in-BadFormat.result _ (λ s. is_call s.token.kind) (tells c.args.fault.now) (λ s h. rw c.in-BadFormat.is h) c.find-in-BadFormat.ensures
