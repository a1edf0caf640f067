use Rattle.std.proofs.lemmas.Result.{on_ok_weaker}
use Rattle.statekeys.specs.Keys.{update_code}
use Rattle.statekeys.specs.KeyParts.{unnumbered_update}
use Rattle.statekeys.proofs.Parts.{put_map}
use Rattle.statekeys.proofs.keys.put_updates.Goals as goal

pub returns : goal.returns
returns c =
    on_ok_weaker c.put_deque.result (put_map update_code unnumbered_update c.args.updates.now.items c.args.bytes.now.items c.put_deque.new.bytes.items) c.put_deque.ensures
