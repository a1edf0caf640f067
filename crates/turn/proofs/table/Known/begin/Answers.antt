use Rattle.std.proofs.Common.{rules, ◌≡◌, ◌∙◌, length, replicate, None, ap, arith}
use Rattle.turn.proofs.Slots.{older, begun}
use Rattle.turn.proofs.table.Known.begin.Goals as goal

pub returns-then-len-registers : goal.returns-then-len-registers
returns-then-len-registers c =
    let slots = c.next_stamp-self-inside.new.slots in
    let len : length slots.items ≡ c.args.registers = omega (arith, c.len.ensures, c.if-len-registers.true, slots.ok.0) in
    older c.next_stamp-self-inside.result slots.items c.next_stamp-self-inside.ensures.new ∙ ap (λ n. replicate n None) len

pub returns : goal.returns
returns c =
    let len : length c.resize.new.self.items ≡ c.args.registers = search rules in
    begun c.next_stamp-self-inside.result c.args.registers _ c.unknown.result c.next_stamp-self-inside.new.slots.items c.resize.new.self.items c.next_stamp-self-inside.ensures.new c.next_stamp-self-inside.ensures.some c.in_ok-resize.ensures.items len
