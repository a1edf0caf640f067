-- The file that is found is known at this path.
use Rattle.std.proofs.Common.{Some, option_map, sym, ap, ◌∙◌}
use Rattle.preprocess.proofs.includes.look_in.Goals as goal

pub returns-in_ok-text-in-Some-text : goal.returns-in_ok-text-in-Some-text
returns-in_ok-text-in-Some-text c = record {
  found = c.in-Some.file.now;
  is_among = c.in-Some.ensures.known;
  known_as = record {
    same_path = sym (c.in-Some.ensures.path ∙ c.as_str.ensures.value);
    known_text = ap (option_map (λ text. text.items)) c.in-Some-text.is ∙ ap (λ items. Some items) (sym (c.in_ok-text-in-Some-text.ensures.items ∙ c.as_slice.ensures.value));
  };
}
