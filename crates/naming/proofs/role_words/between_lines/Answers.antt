-- One piece after another.
use Rattle.std.proofs.Common.{ℕ, List, codes, decimal, string_bytes}
use Rattle.naming.proofs.LineWords.{joined_four}
use Rattle.naming.proofs.role_words.between_lines.Goals as goal

pub returns : goal.returns
returns c =
    let between : List ℕ = codes " between lines " in
    let and_line : List ℕ = codes " and " in
    joined_four c.args.word.now (string_bytes c.in_ok-words.words) (string_bytes c.push_str.new.self) (string_bytes c.push_str-2.new.self) (string_bytes c.push_str-3.new.self) (string_bytes c.push_str-4.new.self)
    between c.format.result.now (decimal c.args.range.first) and_line c.format-2.result.now (decimal c.args.range.last) c.in_ok-words.ensures.ok c.in_ok-push_str.ensures.bytes c.in_ok-push_str-2.ensures.bytes
    c.format.ensures.text c.in_ok-push_str-3.ensures.bytes c.in_ok-push_str-4.ensures.bytes c.format-2.ensures.text
