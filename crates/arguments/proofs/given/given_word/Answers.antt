-- The rows of what was found have the same text.
use Rattle.std.proofs.Common.{◌≡◌, ◌∙◌, ap, sym, ℕ, List, Some, option_map, rules}
use Rattle.std.specs.Borrow.{Bor}
use Rattle.clap.specs.Words.{found_of}
use Rattle.clap.proofs.WalkLemmas.{first_value-rows}
use Rattle.arguments.proofs.given.given_word.Goals as goal

pub returns : goal.returns
returns c =
    let word : c.get_str.result ≡ Some c.unwrap.result = search rules in
    sym (first_value-rows (found_of c.args.matches.now) c.args.name.now) ∙ (sym c.get_str.ensures ∙ ap (option_map (λ (s : Bor (List ℕ)). s.now)) word)
