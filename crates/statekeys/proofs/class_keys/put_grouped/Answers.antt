use Rattle.std.proofs.lemmas.Result.{on_ok_weaker}
use Rattle.statekeys.specs.Keys.{update_code}
use Rattle.statekeys.specs.KeyParts.{unnumbered_update}
use Rattle.loose.specs.Classes.{class_in}
use Rattle.statekeys.proofs.Parts.{put_map_of}
use Rattle.statekeys.proofs.Classes.{grouped_listed}
use Rattle.statekeys.proofs.class_keys.put_grouped.Goals as goal

pub returns-clause-grouped : goal.returns-clause-grouped
returns-clause-grouped c =
    on_ok_weaker c.put_slice.result
    (λ _. grouped_listed (class_in c.args.classes.now) c.args.updates.now.items c.list_items.new.list.items c.sort_by_class.new.updates.items
    c.in_ok-list_items.ensures c.sort_by_class.ensures.in_order c.in_ok-sort_by_class.ensures.rising)
    c.put_slice.ensures

pub returns-clause-bytes : goal.returns-clause-bytes
returns-clause-bytes c =
    on_ok_weaker c.put_slice.result (put_map_of update_code unnumbered_update c.deref.result.now c.sort_by_class.new.updates.items c.args.bytes.now.items c.put_slice.new.bytes.items c.deref.ensures.value) c.put_slice.ensures
