-- What the tests say together.
use Rattle.std.proofs.Common.{ℕ, List, subst}
use Rattle.std.specs.List.{All}
use Rattle.loosewalks.specs.Held.{HasConeAt, NoteKeepsOff}
use Rattle.loosewalks.proofs.cone.keep_off.Goals as goal

pub returns : goal.returns
returns c = λ on.
    let network = c.args.network.now in
    let pending = c.args.pending.now in
    let notes = c.args.notes.now in
    let touched = c.args.cone.now.touched.items in
    let cone = c.args.cone.now.registers.items in
    let outputs = c.in_ok-outputs.outputs.items in
    record {
      outputs = outputs;
      outputs_are = c.in_ok-outputs.ensures;
      has_cone = λ p there.
          subst (λ (l : List ℕ). HasConeAt network pending touched l p) c.deref-2.ensures.value
          (subst (λ (l : List ℕ). HasConeAt network pending l c.deref-2.result.now p) c.deref.ensures.value (c.has_cone.ensures c.if-not-has_cone.false p there));
      each =
          subst (λ (l : List ℕ). All (NoteKeepsOff outputs cone l) notes) c.deref-5.ensures.value
          (subst (λ (l : List ℕ). All (NoteKeepsOff outputs l c.deref-5.result.now) notes) c.deref-4.ensures.value
          (subst (λ (l : List ℕ). All (NoteKeepsOff l c.deref-4.result.now c.deref-5.result.now) notes) c.deref-3.ensures.value (c.notes_keep_off.ensures on)));
    }
