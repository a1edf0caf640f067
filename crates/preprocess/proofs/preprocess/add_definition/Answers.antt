-- A line has five parts.
use Rattle.std.proofs.Common.{◌++◌, codes, ap, ◌∙◌}
use Rattle.preprocess.specs.Sources.{text_given}
use Rattle.preprocess.proofs.Sourced.{five_parts}
use Rattle.preprocess.proofs.preprocess.add_definition.Goals as goal

pub returns : goal.returns
returns c =
    five_parts c.args.text.now.items (codes "`define ") c.args.definition.name.now (codes " ") (text_given c.args.definition.text) (codes "\n")
    c.extend_from_slice.new.self.items c.extend_from_slice-2.new.self.items c.extend_from_slice-3.new.self.items c.extend_from_slice-4.new.self.items c.extend_from_slice-5.new.self.items
    c.in_ok-extend_from_slice.ensures.items
    (c.in_ok-extend_from_slice-2.ensures.items ∙ ap (λ t. c.extend_from_slice.new.self.items ++ t) c.as_bytes.ensures.value)
    c.in_ok-extend_from_slice-3.ensures.items
    (c.in_ok-extend_from_slice-4.ensures.items ∙ ap (λ t. c.extend_from_slice-3.new.self.items ++ t) (c.as_bytes-2.ensures.value ∙ c.text_given.ensures))
    c.in_ok-extend_from_slice-5.ensures.items
