-- One kind after another.
use Rattle.std.proofs.Common.{◌≡◌, rules}
use Rattle.std.specs.List.{list_any}
use Rattle.model.specs.Turns.{contains}
use Rattle.steps.specs.Accounts.{account_of}
use Rattle.explain.proofs.LineRegisters.{names_by_kinds}
use Rattle.explain.proofs.wanted.names_any.Goals as goal

pub returns : goal.returns
returns c =
    let registers = c.args.registers.now in
    let account = account_of c.args.account.now in
    let read : c.has_any_of-read.result ≡ list_any (λ of. contains registers of.register) account.reads = search rules in
    let changed : c.has_any_of-changed.result ≡ list_any (λ of. contains registers of.register) account.changes = search rules in
    let assigned : c.has_any_of-assigned.result ≡ list_any (λ of. contains registers of.reg) account.assigned = search rules in
    names_by_kinds registers account c.updates_any-updated.result c.has_any_of-read.result c.has_any_of-changed.result c.has_any_of-assigned.result c.updates_any-updated.ensures read changed assigned
