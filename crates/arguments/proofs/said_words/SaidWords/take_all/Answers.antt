-- One word more, or the end.
use Rattle.std.proofs.Common.{◌∙◌, ◌∷◌, ap, sym, take, drop, length, ◌-◌}
use Rattle.std.proofs.Common.{Ok}
use Rattle.arguments.specs.CommandWords.{texts_of}
use Rattle.arguments.specs.VerilogWords.{plain_said, words_taken}
use Rattle.arguments.proofs.SaidLemmas.{fault_back, if_fault, on_ok, same_fault, taken_at_end, taken_ended, taken_fault, taken_next, words_front}
use Rattle.arguments.proofs.said_words.SaidWords.take_all.Goals as goal

pub loop-left-preserved : goal.loop-left-preserved
loop-left-preserved c =
    let now = plain_said c.loop-left.self in
    let text = c.as_str-text.result.now in
    let rest = texts_of (take (length c.loop-left.left.now - 1) (drop 1 c.loop-left.left.now)) in
    let front = words_front c.loop-left.left.now c.word-item.result c.in-len1-up.len_at_least c.word-item.is ∙ ap (λ t. t ∷ rest) (sym c.as_str-text.ensures.value) in
    sym (ap (words_taken now c.loop-left.awaited) front
    ∙ taken_next now (plain_said c.take.new.self) c.loop-left.awaited c.in_ok-awaited.awaited text rest (sym c.ends_options.ensures ∙ c.if-ends_options.false) c.in_ok-awaited.ensures.taken)
    ∙ c.loop-left.invariant

pub returns-then-ends_options-clause-taken : goal.returns-then-ends_options-clause-taken
returns-then-ends_options-clause-taken c =
    let now = plain_said c.loop-left.self in
    let text = c.as_str-text.result.now in
    let rest = texts_of (take (length c.loop-left.left.now - 1) (drop 1 c.loop-left.left.now)) in
    let front = words_front c.loop-left.left.now c.word-item.result c.in-len1-up.len_at_least c.word-item.is ∙ ap (λ t. t ∷ rest) (sym c.as_str-text.ensures.value) in
    sym c.loop-left.invariant ∙ ap (words_taken now c.loop-left.awaited) front
    ∙ taken_ended now c.loop-left.awaited text rest (sym c.ends_options.ensures ∙ c.if-ends_options.true) ∙ ap Ok (sym c.in_ok-take_places.ensures)

pub returns-in_err-awaited-clause-refused : goal.returns-in_err-awaited-clause-refused
returns-in_err-awaited-clause-refused c =
    let now = plain_said c.loop-left.self in
    let text = c.as_str-text.result.now in
    let rest = texts_of (take (length c.loop-left.left.now - 1) (drop 1 c.loop-left.left.now)) in
    let front = words_front c.loop-left.left.now c.word-item.result c.in-len1-up.len_at_least c.word-item.is ∙ ap (λ t. t ∷ rest) (sym c.as_str-text.ensures.value) in
    fault_back c.from_residual-in_err-awaited.result _ _ c.from_residual-in_err-awaited.ensures.1
    (same_fault _ _ _ (sym (ap (words_taken now c.loop-left.awaited) front) ∙ c.loop-left.invariant)
    (taken_fault now c.loop-left.awaited text rest _ (sym c.ends_options.ensures ∙ c.if-ends_options.false) c.in_err-awaited.ensures.refused))

pub returns-clause-taken : goal.returns-clause-taken
returns-clause-taken c =
    on_ok c.at_end.result (λ ends. sym c.loop-left.invariant ∙ taken_at_end (plain_said c.loop-left.self) c.loop-left.awaited c.loop-left.left.now c.in_default.len_below ∙ ends (plain_said c.loop-left.self)) c.at_end.ensures.taken

pub returns-clause-refused : goal.returns-clause-refused
returns-clause-refused c =
    if_fault c.at_end.result (λ found ends. same_fault _ _ found (sym (taken_at_end (plain_said c.loop-left.self) c.loop-left.awaited c.loop-left.left.now c.in_default.len_below) ∙ c.loop-left.invariant) (ends (plain_said c.loop-left.self)))
    c.at_end.ensures.refused
