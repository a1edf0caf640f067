use Rattle.std.proofs.Common.{ℕ, List, codes, refl}
use Rattle.verdict.specs.Verdicts.{stop_phrase}
use Rattle.verdict.proofs.Pieces.{joined_last}
use Rattle.verdict.proofs.phrases.push_stop.Goals as goal

pub returns : goal.returns
returns c =
    let ended : List ℕ = codes "\n" in
    joined_last c.extend_from_slice.result c.extend_from_slice.new.self.items c.args.text.now.items (stop_phrase c.args.stop) c.push_stop_phrase.new.text.items
    ended ended c.extend_from_slice.ensures.items c.in_ok-push_stop_phrase.ensures refl
