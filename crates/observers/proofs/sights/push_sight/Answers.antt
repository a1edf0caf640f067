-- The mark, the time and the lines, one behind another.
use Rattle.std.proofs.Common.{◌∙◌, ◌++◌, ap, decimal, flat_map}
use Rattle.std.proofs.lemmas.Result.{on_ok_weaker}
use Rattle.looseruns.specs.RegisterObserver.{seen_register_line, sight_mark}
use Rattle.observers.proofs.SeenLines.{sight_put}
use Rattle.observers.proofs.sights.push_sight.Goals as goal

pub returns : goal.returns
returns c =
    on_ok_weaker c.push_registers.result
    (λ last.
    sight_put sight_mark c.args.bytes.now.items c.extend_from_slice.new.self.items c.push_number.new.bytes.items c.extend_from_slice-2.new.self.items c.push_registers.new.bytes.items
    (decimal c.args.machine.now.core.time) (flat_map (λ r. seen_register_line c.args.machine.now.values r) c.args.registers.now)
    c.in_ok-extend_from_slice.ensures.items (c.in_ok-push_number.ensures ∙ ap (λ n. c.extend_from_slice.new.self.items ++ decimal n) c.time.ensures) c.in_ok-extend_from_slice-2.ensures.items last)
    c.push_registers.ensures
