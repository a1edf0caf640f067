-- The entry is told, or not.
use Rattle.std.proofs.Common.{refl}
use Rattle.steps.specs.Accounts.{account_of}
use Rattle.explain.proofs.LineRegisters.{told_where, untold_where}
use Rattle.explain.proofs.telling.tell.Goals as goal

pub returns : goal.returns
returns c =
    let told = c.args.told.now in
    let account = account_of told.account.now in
    told_where c.push_entry.result c.args.telling.now told.number told.number told.entry account account told.finishes c.tells.result c.args.text.now.items c.push_entry.new.text.items
    c.tells.ensures refl refl c.if-not-tells.false c.push_entry.ensures

pub returns-then-not-tells : goal.returns-then-not-tells
returns-then-not-tells c =
    let told = c.args.told.now in
    let account = account_of told.account.now in
    untold_where c.args.telling.now told.number told.number told.entry account account told.finishes c.tells.result c.args.text.now.items c.tells.ensures refl refl c.if-not-tells.true
