-- The ways from a node with the lines of each time in order are those of a search of such runs.
use Rattle.std.proofs.Common.{◌≡◌, ◌⊎◌, ℕ, List, [], ◌∷◌, ◌++◌, Some, inl, inr, refl, sym, ap, ◌∙◌, subst}
use Rattle.std.specs.List.{All, Any}
use Rattle.model.specs.declared.end.End.{End}
use Rattle.model.specs.declared.end.Limits.{Limits}
use Rattle.design.specs.Compiled.{Compiled, design_of}
use Rattle.design.specs.DesignInvariant.{controls_of}
use Rattle.regions.specs.Machine.{MachineView, state_at}
use Rattle.explore.specs.declared.Successor.{Successor}
use Rattle.explore.specs.declared.EndedPath.{EndedPath}
use Rattle.explore.specs.Search.{IsSuccessor, IsEndedPath, IsCovered, IsEndOfPath, IsPrinted, Passes}
use Rattle.loose.specs.declared.transition.LooseTransition.{LooseTransition}
use Rattle.looseruns.specs.ObservedJournals.{Observer, SeenEnd}
use Rattle.looseruns.specs.ObservedRuns.{ComeToOneObservedNode, StandsObserved, observed_text_of_moves}
use Rattle.observers.specs.declared.observing.Observing.{Observing}
use Rattle.observers.specs.Observers.{observer_of}
use Rattle.wavetexts.specs.Reading.{ReadText, read_on, tail_of, text_behind, text_with, unread, whole_text}
use Rattle.wavetexts.specs.declared.reading.TextTail.{TextTail}
use Rattle.wavetexts.proofs.ReadTexts.{reads_on, stays_before}
use Rattle.arrangedruns.specs.ArrangedRuns.{ComeToOneArrangedNode, StandsArranged, arranged_end, read_of_moves}
use Rattle.lawful.specs.ArrangedNodes.{IsNextArranged, IsPathArranged, registers_seen, searched_arranged, tail_at}
use Rattle.lawful.specs.LooseNodes.{HoldsEffect, IsReadyNode}
use Rattle.lawful.specs.ObservedNodes.{searched_observed}
use Rattle.lawful.specs.ObservedWays.{AreEach}
use Rattle.lawful.specs.declared.node.LooseNode.{LooseNode}
use Rattle.lawful.proofs.ObservedWays.{each_all, each_any}

-- what is read behind a text, where the rest of that is known
pub reads_behind : (registers : ℕ) (r t u : ReadText) (bytes : List ℕ) → t ≡ tail_of r → u ≡ read_on registers t bytes → read_on registers r bytes ≡ text_behind r.done u
reads_behind registers r t u bytes rest is =
    (stays_before registers r bytes).0 ∙ ap (text_behind r.done) (ap (λ (v : ReadText). read_on registers v bytes) (sym rest) ∙ sym is)

-- what a copy of the rest of a text, with bytes behind it, was read to
pub copy_reads : (registers : ℕ) (tail : ReadText) (copy after : TextTail) (done given printed : List ℕ) → text_with [] copy ≡ tail → given ≡ printed → text_with done after ≡ read_on registers (text_with [] copy) given → text_with done after ≡ read_on registers tail printed
copy_reads registers tail copy after done given printed same is read =
    read ∙ (ap (λ (t : ReadText). read_on registers t given) same ∙ ap (read_on registers tail) is)

-- and what it was read to, to its end
pub rest_reads : (registers : ℕ) (t : ReadText) (after : TextTail) (done rest given seen : List ℕ) → text_with done after ≡ t → given ≡ seen → rest ≡ whole_text registers (read_on registers (text_with [] after) given)
    → rest ≡ whole_text registers (read_on registers (tail_of t) seen)
rest_reads registers t after done rest given seen same is whole =
    whole ∙ (ap (λ (u : ReadText). whole_text registers (read_on registers (tail_of u) given)) same ∙ ap (λ l. whole_text registers (read_on registers (tail_of t) l)) is)

-- an end with what is seen at it, where both are other ones
pub end_with : (a b : End) (xs ys : List ℕ) → a ≡ b → xs ≡ ys → ◌≡◌ {A = SeenEnd} (record { end = a; seen = xs }) (record { end = b; seen = ys })
end_with a b xs ys same is = ap (λ (e : End). record { end = e; seen = xs }) same ∙ ap (λ (l : List ℕ). record { end = b; seen = l }) is

-- another node with the same machine stands at an observed run, too
pub same_machine_stands : (class : ℕ → ℕ) (code : Compiled) (limits : Limits) (observe : Observer) (node other : LooseNode) (run : List LooseTransition) → other.machine.value ≡ node.machine.value
    → StandsObserved (HoldsEffect code) class (design_of code) limits observe node run → StandsObserved (HoldsEffect code) class (design_of code) limits observe other run
same_machine_stands class code limits observe node other run same at =
    let before : IsReadyNode code node = at.holds.ready in
    let ready : IsReadyNode code other =
    record {
      code_is = ap (λ (m : MachineView). m.code) same ∙ before.code_is;
      controls = ap (λ (m : MachineView). m.core.controls) same ∙ before.controls;
      silent = ap (λ (m : MachineView). m.lines) same ∙ before.silent;
    } in
    record {
      effect = at.effect;
      held = at.held;
      comes = at.comes;
      one_node = at.one_node;
      in_order = at.in_order;
      holds = record { ready = ready; state_is = ap state_at same ∙ at.holds.state_is };
    }

module _ (class : ℕ → ℕ) (code : Compiled) (limits : Limits) (observing : Observing) (node : LooseNode) (run : List LooseTransition) (at : StandsArranged (HoldsEffect code) tail_at (registers_seen observing) class (design_of code) limits (observer_of observing) node run) where
  -- what was read of a run that goes on from there, where this was printed and seen on the way
  goes_on_reading : (moves : List LooseTransition) (printed : List ℕ) (u : ReadText) → IsPrinted (searched_observed code class limits (observer_of observing)) run moves printed → u ≡ read_on (registers_seen observing) (tail_at node) printed
      → read_of_moves (registers_seen observing) class (design_of code) (observer_of observing) (run ++ moves) ≡ text_behind (read_of_moves (registers_seen observing) class (design_of code) (observer_of observing) run).done u
  goes_on_reading moves printed u prints is =
      let text : List ℕ = observed_text_of_moves class (design_of code) (observer_of observing) run in
      ap (read_on (registers_seen observing) unread) prints
      ∙ (reads_on (registers_seen observing) unread text printed ∙ reads_behind (registers_seen observing) (read_on (registers_seen observing) unread text) (tail_at node) u printed at.rest is)

  pub node_arranged_next : (next arranged : Successor LooseNode LooseTransition) → IsNextArranged (registers_seen observing) (tail_at node) next arranged → IsSuccessor (searched_observed code class limits (observer_of observing)) run next → IsSuccessor (searched_arranged code class limits observing) run arranged
  node_arranged_next next arranged is (stands, prints) =
      let moves : List LooseTransition = next.moves.items in
      let u : ReadText = text_with arranged.printed.items arranged.node.tail in
      let read = goes_on_reading moves next.printed.items u prints is.reads in
      let there : StandsArranged (HoldsEffect code) tail_at (registers_seen observing) class (design_of code) limits (observer_of observing) arranged.node (run ++ moves) =
      record {
        observed = same_machine_stands class code limits (observer_of observing) next.node arranged.node (run ++ moves) is.machine_is stands;
        rest = sym (ap tail_of read);
      } in
      subst (λ (l : List LooseTransition). StandsArranged (HoldsEffect code) tail_at (registers_seen observing) class (design_of code) limits (observer_of observing) arranged.node (run ++ l)
      × IsPrinted (searched_arranged code class limits observing) run l arranged.printed.items) (sym is.moves_are) (there, ap (λ (t : ReadText). t.done) read)

  pub node_arranged_ended : (ended arranged : EndedPath LooseTransition SeenEnd) → IsPathArranged (registers_seen observing) (tail_at node) ended arranged → IsEndedPath (searched_observed code class limits (observer_of observing)) run ended → IsEndedPath (searched_arranged code class limits observing) run arranged
  node_arranged_ended ended arranged is (ends, prints, within) =
      let moves : List LooseTransition = ended.moves.items in
      let u : ReadText = read_on (registers_seen observing) (tail_at node) ended.printed.items in
      let read = goes_on_reading moves ended.printed.items u prints refl in
      let done : List ℕ = (read_of_moves (registers_seen observing) class (design_of code) (observer_of observing) run).done in
      subst (λ (l : List LooseTransition). (searched_arranged code class limits observing).Ends (run ++ l) arranged.end × IsPrinted (searched_arranged code class limits observing) run l arranged.printed.items × Unit {0}) (sym is.moves_are)
      ((ended.end, ends, is.end_is ∙ sym (ap (λ (t : ReadText). arranged_end (registers_seen observing) t ended.end) read)), ap (λ (t : ReadText). t.done) read ∙ ap (λ l. done ++ l) (sym is.printed_is), tt)

  -- what is told of an end that is reached on the way
  end_told : (text : List ℕ) (moves : List LooseTransition) (end last : SeenEnd) (ended arranged : EndedPath LooseTransition SeenEnd) → text ≡ observed_text_of_moves class (design_of code) (observer_of observing) (run ++ moves)
      → last ≡ arranged_end (registers_seen observing) (read_of_moves (registers_seen observing) class (design_of code) (observer_of observing) (run ++ moves)) end
      → IsPathArranged (registers_seen observing) (tail_at node) ended arranged → (observed_text_of_moves class (design_of code) (observer_of observing) run ++ ended.printed.items ≡ text) × (ended.end ≡ end)
      → ((read_of_moves (registers_seen observing) class (design_of code) (observer_of observing) run).done ++ arranged.printed.items ≡ (read_of_moves (registers_seen observing) class (design_of code) (observer_of observing) (run ++ moves)).done) × (arranged.end ≡ last)
  end_told text moves end last ended arranged there is_last is (told, same) =
      let u : ReadText = read_on (registers_seen observing) (tail_at node) ended.printed.items in
      let read = goes_on_reading moves ended.printed.items u (sym there ∙ sym told) refl in
      let done : List ℕ = (read_of_moves (registers_seen observing) class (design_of code) (observer_of observing) run).done in (
        ap (λ l. done ++ l) is.printed_is ∙ sym (ap (λ (t : ReadText). t.done) read),
        is.end_is ∙ (ap (arranged_end (registers_seen observing) u) same ∙ (sym (ap (λ (t : ReadText). arranged_end (registers_seen observing) t end) read) ∙ sym is_last)),
      )

  pub node_arranged_covered : (successors arranged : List (Successor LooseNode LooseTransition)) (ended paths : List (EndedPath LooseTransition SeenEnd)) → AreEach (IsNextArranged (registers_seen observing) (tail_at node)) successors arranged
      → AreEach (IsPathArranged (registers_seen observing) (tail_at node)) ended paths → IsCovered (searched_observed code class limits (observer_of observing)) successors ended run → IsCovered (searched_arranged code class limits observing) arranged paths run
  node_arranged_covered successors arranged ended paths nexts ends covered moves last (end, may, is_last) = by_case (covered moves end may)
    where
      leads_too : (part : List LooseTransition) (next other : Successor LooseNode LooseTransition) → IsNextArranged (registers_seen observing) (tail_at node) next other → ComeToOneObservedNode class (design_of code) limits (observer_of observing) (run ++ part) (run ++ next.moves.items)
          → ComeToOneArrangedNode (registers_seen observing) class (design_of code) limits (observer_of observing) (run ++ part) (run ++ other.moves.items)
      leads_too part next other is (e, f, at_e, at_f, (lines, alike)) =
          subst (λ (l : List LooseTransition). ComeToOneArrangedNode (registers_seen observing) class (design_of code) limits (observer_of observing) (run ++ part) (run ++ l)) (sym is.moves_are)
          (e, f, at_e, at_f, ap (read_on (registers_seen observing) unread) lines, alike)

      by_case : IsEndOfPath (searched_observed code class limits (observer_of observing)) ended run (observed_text_of_moves class (design_of code) (observer_of observing) (run ++ moves)) end
          ⊎ Passes (λ way (next : Successor LooseNode LooseTransition). ComeToOneObservedNode class (design_of code) limits (observer_of observing) way (run ++ next.moves.items)) run moves successors
          → IsEndOfPath (searched_arranged code class limits observing) paths run (read_of_moves (registers_seen observing) class (design_of code) (observer_of observing) (run ++ moves)).done last
          ⊎ Passes (λ way (next : Successor LooseNode LooseTransition). ComeToOneArrangedNode (registers_seen observing) class (design_of code) limits (observer_of observing) way (run ++ next.moves.items)) run moves arranged
      by_case (inl told) =
          inl (each_any (IsPathArranged (registers_seen observing) (tail_at node)) (λ (s : EndedPath LooseTransition SeenEnd). (observed_text_of_moves class (design_of code) (observer_of observing) run ++ s.printed.items ≡ observed_text_of_moves class (design_of code) (observer_of observing) (run ++ moves)) × (s.end ≡ end))
          (λ (s : EndedPath LooseTransition SeenEnd). ((read_of_moves (registers_seen observing) class (design_of code) (observer_of observing) run).done ++ s.printed.items ≡ (read_of_moves (registers_seen observing) class (design_of code) (observer_of observing) (run ++ moves)).done) × (s.end ≡ last))
          ended paths (λ x y is. end_told (observed_text_of_moves class (design_of code) (observer_of observing) (run ++ moves)) moves end last x y refl is_last is) ends told)
      by_case (inr passes) =
          inr (record {
            part = passes.part;
            rest = passes.rest;
            moved = passes.moved;
            split = passes.split;
            leads = each_any (IsNextArranged (registers_seen observing) (tail_at node)) (λ (next : Successor LooseNode LooseTransition). ComeToOneObservedNode class (design_of code) limits (observer_of observing) (run ++ passes.part) (run ++ next.moves.items))
                (λ (next : Successor LooseNode LooseTransition). ComeToOneArrangedNode (registers_seen observing) class (design_of code) limits (observer_of observing) (run ++ passes.part) (run ++ next.moves.items))
                successors arranged (λ x y is. leads_too passes.part x y is) nexts passes.leads;
          })
