-- The same way, and at its end the rest.
use Rattle.std.proofs.Common.{◌≡◌, ◌∙◌, [], List, ℕ, ap, refl}
use Rattle.explore.specs.declared.EndedPath.{EndedPath}
use Rattle.loose.specs.declared.transition.LooseTransition.{LooseTransition}
use Rattle.looseruns.specs.ObservedJournals.{SeenEnd}
use Rattle.wavetexts.specs.Reading.{ReadText, read_on, text_with}
use Rattle.lawful.proofs.ArrangedWays.{copy_reads, end_with, rest_reads}
use Rattle.lawful.proofs.arranged_ways.InOrderWayTelling.tell_end.Goals as goal

pub returns : goal.returns
returns c =
    let registers = c.args.self.now.registers in
    let tail = text_with [] c.args.self.now.tail.now in
    let printed = c.args.ended.printed.items in
    let read : text_with c.in_ok-done.done.items c.read.new.self ≡ read_on registers tail printed =
    copy_reads registers tail c.in_ok-text.text c.read.new.self c.in_ok-done.done.items c.deref.result.now printed c.in_ok-text.ensures (c.deref.ensures.value ∙ ap (λ (e : EndedPath LooseTransition SeenEnd). e.printed.items) c.ended.view_is) c.in_ok-done.ensures in
    record {
      moves_are = ap (λ (e : EndedPath LooseTransition SeenEnd). e.moves.items) c.ended.view_is;
      printed_is = ap (λ (t : ReadText). t.done) read;
      end_is = end_with _ _ _ _ (ap (λ (e : EndedPath LooseTransition SeenEnd). e.end.end) c.ended.view_is)
          (rest_reads registers (read_on registers tail printed) c.read.new.self c.in_ok-done.done.items c.in_ok-seen.seen.items c.deref-2.result.now c.args.ended.end.seen read (c.deref-2.ensures.value ∙ ap (λ (e : EndedPath LooseTransition SeenEnd). e.end.seen) c.ended.view_is) c.in_ok-seen.ensures);
    }
