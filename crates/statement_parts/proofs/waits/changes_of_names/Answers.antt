-- The change of one name more.
use Rattle.std.proofs.Common.{[], ◌∷◌, map, string_bytes, refl, ap}
use Rattle.std.specs.Vec.Iter.{into_iter_items}
use Rattle.model.specs.SourceTrees.{source_trigger_of}
use Rattle.statement_forms.specs.Views.{core_triggers}
use Rattle.statement_parts.specs.Parts.{whole_change}
use Rattle.statement_parts.proofs.Gathering.{taken_added, all_added, no_more}
use Rattle.statement_parts.proofs.Names.{pushed_event}
use Rattle.statement_parts.proofs.waits.changes_of_names.Goals as goal

pub loop-name-preserved : goal.loop-name-preserved
loop-name-preserved c =
    taken_added (λ ns. map whole_change (map string_bytes ns)) (λ n. whole_change (string_bytes n) ∷ []) c.in-Some.name (into_iter_items c.loop-name.name-iterator) (into_iter_items c.next.new.self)
    (core_triggers c.loop-name.made) (map source_trigger_of c.push.new.self.items) _ (λ n ns. refl) c.in-Some.ensures.steps.0
    (pushed_event c.loop-name.made.items c.push.new.self.items _ _ c.in_ok-push.ensures.items refl) c.loop-name.invariant

pub returns : goal.returns
returns c =
    all_added (core_triggers c.loop-name.made) _ _ (ap (λ ns. map whole_change (map string_bytes ns)) (no_more c.loop-name.name-iterator c.in-None.ensures.steps.0)) c.loop-name.invariant
