-- The laws of texts that are read bit by bit.
use Rattle.wavetexts.proofs.ReadTexts.{read_in_two, read_text_is_arranged, reads_on, stays_before}
use Rattle.wavetexts.proofs.laws.reading_has_its_laws.Goals as goal

pub returns-clause-on : goal.returns-clause-on
returns-clause-on c = reads_on

pub returns-clause-before : goal.returns-clause-before
returns-clause-before c = stays_before

pub returns-clause-whole : goal.returns-clause-whole
returns-clause-whole c = read_text_is_arranged

pub returns-clause-two : goal.returns-clause-two
returns-clause-two c = read_in_two
