-- Each part of a race, with its words.
use Rattle.std.proofs.Common.{◌∙◌, refl}
use Rattle.naming.proofs.naming.told_race.Goals as goal

pub returns : goal.returns
returns c = record {
  number_is = refl;
  site = c.requires.site_is;
  time_is = refl;
  first = record { number = c.role_of.ensures.number; begin = c.role_of.ensures.begin; found = c.requires.first_run; found_so = c.requires.first_so; does = c.role_of.ensures.does ∙ c.requires.first_is };
  second = record { number = c.role_of-2.ensures.number; begin = c.role_of-2.ensures.begin; found = c.requires.second_run; found_so = c.requires.second_so; does = c.role_of-2.ensures.does ∙ c.requires.second_is };
  prefix_is = refl;
  difference = c.lines_of-lines.ensures;
  one = c.journal_of.ensures;
  other = c.journal_of-2.ensures;
}
