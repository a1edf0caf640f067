use Rattle.std.proofs.lemmas.Result.{on_ok_weaker}
use Rattle.statekeys.specs.KeyCodes.{nat_code, pair_code}
use Rattle.statekeys.specs.Keys.{update_code}
use Rattle.statekeys.specs.KeyParts.{due_assignment}
use Rattle.loose.specs.Classes.{class_in}
use Rattle.statekeys.proofs.Parts.{put_map_of}
use Rattle.statekeys.proofs.Classes.{due_listed, rising_times}
use Rattle.statekeys.proofs.class_keys.put_future_grouped.Goals as goal

pub returns-clause-due : goal.returns-clause-due
returns-clause-due c =
    on_ok_weaker c.put_slice.result
    (λ _. due_listed (class_in c.args.classes.now) c.args.future.now.items c.list_items.new.list.items c.sort_future.new.future.items
    c.in_ok-list_items.ensures c.in_ok-sort_future.ensures.in_order c.in_ok-sort_future.ensures.rising)
    c.put_slice.ensures

pub returns-clause-in_time : goal.returns-clause-in_time
returns-clause-in_time c =
    on_ok_weaker c.put_slice.result (λ _. rising_times c.sort_future.new.future.items c.in_ok-sort_future.ensures.in_time) c.put_slice.ensures

pub returns-clause-bytes : goal.returns-clause-bytes
returns-clause-bytes c =
    on_ok_weaker c.put_slice.result (put_map_of (pair_code nat_code update_code) due_assignment c.deref.result.now c.sort_future.new.future.items c.args.bytes.now.items c.put_slice.new.bytes.items c.deref.ensures.value) c.put_slice.ensures
