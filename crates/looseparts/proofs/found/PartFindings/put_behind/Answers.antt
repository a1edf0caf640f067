-- The step stands before each way.
use Rattle.std.proofs.Common.{◌∷◌, ◌++◌, map, ap, ◌∙◌}
use Rattle.looseparts.specs.FoundWays.{ways_in}
use Rattle.looseparts.proofs.found.PartFindings.put_behind.Goals as goal

pub returns : goal.returns
returns c =
    record {
      ways = c.in_ok-add_each_behind.ensures ∙ (ap (λ z. ways_in z ++ map (λ way. c.args.actor ∷ way) (ways_in c.deref.result.now)) c.new-ways.ensures.items ∙ ap (λ z. map (λ way. c.args.actor ∷ way) (ways_in z)) c.deref.ensures.value);
      ends = c.in_ok-add_each_behind-2.ensures ∙ (ap (λ z. ways_in z ++ map (λ way. c.args.actor ∷ way) (ways_in c.deref-2.result.now)) c.new-ends.ensures.items ∙ ap (λ z. map (λ way. c.args.actor ∷ way) (ways_in z)) c.deref-2.ensures.value);
      notes_are = c.in_ok-push.ensures.items;
    }
