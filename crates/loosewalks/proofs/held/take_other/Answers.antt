-- The note of the entry that was taken.
use Rattle.std.proofs.Common.{◌∙◌, ap}
use Rattle.loosewalks.proofs.GoingOn.{ok_gives}
use Rattle.loosewalks.proofs.held.take_other.Goals as goal

pub returns-clause-added : goal.returns-clause-added
returns-clause-added c = λ on.
    let taken = c.in_ok-all.ensures.taken on in
    record {
      note = c.take_noted_beside-taken.new.note;
      noted = ok_gives c.take_noted_beside-taken.result _ taken c.take_noted_beside-taken.ensures.noted;
      taken = ok_gives c.take_noted_beside-taken.result _ taken c.take_noted_beside-taken.ensures.taken;
      count = ok_gives c.take_noted_beside-taken.result _ taken c.take_noted_beside-taken.ensures.entries;
      notes_are = c.in_ok-all.ensures.added on;
      way_is = ap (λ v. v.items) c.add_noted.ensures.way ∙ c.in_ok-push.ensures.items;
    }
