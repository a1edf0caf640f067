-- The only entry stands for all.
use Rattle.loosewalks.proofs.OnlyEntries.{only_entry_stands_for_all}
use Rattle.loosewalks.proofs.laws.only_entries_stand_for_all.Goals as goal

pub returns : goal.returns
returns c = only_entry_stands_for_all
