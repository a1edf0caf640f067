-- By the registers that are asked for, if any are.
use Rattle.std.proofs.Common.{◌∙◌, ap, sym, List, ℕ, Option}
use Rattle.std.specs.Borrow.{Bor}
use Rattle.steps.specs.Accounts.{account_of}
use Rattle.explain.specs.Wanted.{is_wanted, wanted_registers}
use Rattle.explain.proofs.wanted.is_wanted.Goals as goal

pub returns-in-Some : goal.returns-in-Some
returns-in-Some c = c.names_any.ensures ∙ ap (λ (o : Option (Bor (List ℕ))). is_wanted (wanted_registers o) (account_of c.args.account.now)) (sym c.in-Some.is)

pub returns-in-None : goal.returns-in-None
returns-in-None c = ap (λ (o : Option (Bor (List ℕ))). is_wanted (wanted_registers o) (account_of c.args.account.now)) (sym c.in-None.is)
