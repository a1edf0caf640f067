use Rattle.std.proofs.lemmas.Result.{on_ok_weaker}
use Rattle.statekeys.specs.Keys.{process_code}
use Rattle.statekeys.specs.KeyParts.{going_on}
use Rattle.statekeys.proofs.Parts.{put_map}
use Rattle.statekeys.proofs.keys.put_processes.Goals as goal

pub returns : goal.returns
returns c =
    on_ok_weaker c.put_slice.result (put_map process_code going_on c.args.processes.now c.args.bytes.now.items c.put_slice.new.bytes.items) c.put_slice.ensures
