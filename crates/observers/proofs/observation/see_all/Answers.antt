-- One entry more.
use Rattle.std.proofs.Common.{get_or, refl, ◌∙◌}
use Rattle.model.specs.declared.entry.Entry.TheVariants.{Turn}
use Rattle.observers.specs.Observers.{observer_of}
use Rattle.observers.proofs.Tellings.{seen_more}
use Rattle.observers.proofs.observation.see_all.Goals as goal

pub loop-entry-preserved : goal.loop-entry-preserved
loop-entry-preserved c =
    let journal = c.args.journal.now in
    let i = c.loop-entry.entry-index in
    record {
      code = c.take_seen.ensures.code ∙ c.loop-entry.invariant.code;
      seen = seen_more (observer_of c.args.observing.now) journal i (get_or journal i (Turn 0)) (Turn 0) c.loop-entry.text.items c.take_seen.new.text.items c.loop-entry.machine c.take_seen.new.machine c.loop-entry-test.true refl c.take_seen.ensures.code
          c.loop-entry.invariant.seen (c.in_ok-take_seen.ensures.taken c.if-not-branch.false);
    }
