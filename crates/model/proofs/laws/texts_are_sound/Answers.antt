-- A text is cut into lines in one way.
use Rattle.model.proofs.JournalLaws.{journal_unique, version_unique, beginning_no_journal}
use Rattle.model.proofs.laws.texts_are_sound.Goals as goal

pub returns-clause-journal : goal.returns-clause-journal
returns-clause-journal c = journal_unique

pub returns-clause-version : goal.returns-clause-version
returns-clause-version c = version_unique

pub returns-clause-whole : goal.returns-clause-whole
returns-clause-whole c = beginning_no_journal
