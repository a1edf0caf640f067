-- What was printed and seen behind the other node is read, too.
use Rattle.std.proofs.Common.{◌≡◌, [], ℕ, List, ap, ◌∙◌, subst}
use Rattle.loose.specs.Classes.{class_in}
use Rattle.regions.specs.Machine.{MachineView}
use Rattle.observers.specs.Observers.{observer_of}
use Rattle.wavetexts.specs.Reading.{ReadText, read_on, text_with}
use Rattle.lawful.specs.ArrangedNodes.{HasSeenAgain, registers_seen, tail_at}
use Rattle.lawful.proofs.ArrangedWays.{copy_reads}
use Rattle.lawful.proofs.seen_again.seen_again.Goals as goal

pub returns : goal.returns
returns c =
    let observing = c.args.seeing.observing.now in
    let from = c.args.from.now in
    let class = class_in c.args.seeing.classes.now in
    let told = c.go_seen.new.text.items in
    let begun : c.deref_mut.result.now ≡ from.machine.value = c.deref_mut.ensures.value ∙ (c.in_ok-machine.ensures ∙ c.deref.ensures) in
    let gone : HasSeenAgain class (observer_of observing) from.machine.value c.args.moves.now c.go_seen.new.machine told =
    subst (λ (p : MachineView). HasSeenAgain class (observer_of observing) p c.args.moves.now c.go_seen.new.machine told) begun c.in_ok-go_seen.ensures in
    record {
      told = told;
      gone = gone;
      done = c.in_ok-_done._done.items;
      reads = subst (λ (n : ℕ). text_with c.in_ok-_done._done.items c.read.new.self ≡ read_on n (tail_at from) told) c.registers_of.ensures
          (copy_reads c.registers_of.result (tail_at from) c.in_ok-tail.tail c.read.new.self c.in_ok-_done._done.items c.deref-2.result.now told c.in_ok-tail.ensures c.deref-2.ensures.value c.in_ok-_done.ensures);
    }
