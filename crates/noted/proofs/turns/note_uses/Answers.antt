-- One register more.
use Rattle.std.proofs.Common.{◌≡◌, ◌+◌, ℕ, Some, take, sym, ap, ◌∙◌}
use Rattle.std.specs.Prelude.{slice_get, option_map}
use Rattle.std.proofs.lemmas.Option.{slice_get-map}
use Rattle.turn.specs.declared.memory.Seen.{Seen}
use Rattle.turn.specs.Reads.{registers}
use Rattle.noted.proofs.Growing.{grown, got_more}
use Rattle.noted.proofs.turns.note_uses.Goals as goal

pub loop-place-preserved : goal.loop-place-preserved
loop-place-preserved c =
    let reads = c.args.reads.now.entries in
    let place = c.loop-place.place in
    let register = c.in-Some.register.now in
    let there : slice_get (registers reads) place ≡ Some register =
    slice_get-map (λ (r : ℕ × Seen). r.0) reads place ∙ ap (option_map (λ (r : ℕ × Seen). r.0)) (sym c.in-Some.ensures.entry) in
    grown c.args.uses.now c.loop-place.uses c.push.new.self (take place (registers reads)) (take (place + 1) (registers reads)) register c.loop-place.invariant c.in_ok-push.ensures
    (got_more (registers reads) place register there)
