-- What is still to be put are the parts that are left.
use Rattle.std.proofs.Common.{◌≡◌, ◌++◌, drop}
use Rattle.explain.specs.EntryLines.{list_text}
use Rattle.explain.proofs.lines.push_list.Given as goal

abbrev pub invariant-loop-place : goal.invariant-loop-place
invariant-loop-place g l =
    l.text.items ++ list_text (g.P.ListedPart.part_text l.names) l.word l.behind l.place (drop l.place l.parts)
    ≡ l.fn.text.items ++ list_text (g.P.ListedPart.part_text l.names) l.word l.behind 0 l.parts
