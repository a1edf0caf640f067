-- The line of a register that isn't there.
use Rattle.std.proofs.Common.{◌∙◌, sym}
use Rattle.observers.proofs.SeenLines.{pushed_line}
use Rattle.observers.proofs.sights.push_register.Goals as goal

pub returns-in-None : goal.returns-in-None
returns-in-None c =
    pushed_line c.extend_from_slice.result c.args.machine.now.values c.args.register c.args.bytes.now.items c.extend_from_slice.new.self.items c.extend_from_slice.ensures.items (sym c.value.ensures ∙ c.in-None.is)
