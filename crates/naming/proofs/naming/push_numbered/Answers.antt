-- The words of the race are those of its site and of its two roles.
use Rattle.std.proofs.Common.{◌∙◌}
use Rattle.naming.proofs.naming.push_numbered.Goals as goal

pub told_race-description-requires : goal.told_race-description-requires
told_race-description-requires c =
    record {
      site_is = c.site_of-site.ensures;
      first_run = c.in_ok-first_run.first_run;
      first_so = c.in_ok-first_run.ensures;
      first_is = c.as_str.ensures.value ∙ c.in_ok-first.ensures;
      second_run = c.in_ok-second_run.second_run;
      second_so = c.in_ok-second_run.ensures;
      second_is = c.as_str-2.ensures.value ∙ c.in_ok-second.ensures;
    }
