-- One piece after another.
use Rattle.std.proofs.Common.{◌++◌, ℕ, List, codes, decimal, string_bytes}
use Rattle.naming.proofs.LineWords.{joined_four, joined_six}
use Rattle.naming.proofs.role_words.at_three_lines.Goals as goal

pub returns : goal.returns
returns c =
    let lines_of : List ℕ = codes " at lines " in
    let comma : List ℕ = codes ", " in
    let and_line : List ℕ = codes " and " in
    let four = joined_four c.args.word.now (string_bytes c.in_ok-words.words) (string_bytes c.push_str.new.self) (string_bytes c.push_str-2.new.self) (string_bytes c.push_str-3.new.self) (string_bytes c.push_str-4.new.self)
    lines_of c.format.result.now (decimal c.args.one) comma c.format-2.result.now (decimal c.args.other) c.in_ok-words.ensures.ok c.in_ok-push_str.ensures.bytes c.in_ok-push_str-2.ensures.bytes
    c.format.ensures.text c.in_ok-push_str-3.ensures.bytes c.in_ok-push_str-4.ensures.bytes c.format-2.ensures.text in
    joined_six (c.args.word.now ++ lines_of ++ decimal c.args.one ++ comma ++ decimal c.args.other) (string_bytes c.push_str-4.new.self) (string_bytes c.push_str-5.new.self) (string_bytes c.push_str-6.new.self) and_line
    c.format-3.result.now (decimal c.args.third) four c.in_ok-push_str-5.ensures.bytes c.in_ok-push_str-6.ensures.bytes c.format-3.ensures.text
