use Rattle.std.proofs.Common.{◌++◌, codes, map, refl}
use Rattle.std.specs.Prelude.{string_bytes}
use Rattle.flattext.specs.Names.{name_text}
use Rattle.flattext.specs.Modules.{other_names_text}
use Rattle.flattext.proofs.Each.{each_two_more, each_put}
use Rattle.flattext.proofs.Pieces.{put_inside}
use Rattle.flattext.proofs.module.push_other_names.Goals as goal

pub loop-name-preserved : goal.loop-name-preserved
loop-name-preserved c =
    let all = c.args.names.now in
    each_two_more (λ rest. other_names_text (map string_bytes rest)) (codes ", ") (name_text (string_bytes c.name-item.result)) c.push_name.new.text.items c.extend_from_slice.new.self.items c.loop-name.text.items
    (c.args.text.now.items ++ other_names_text (map string_bytes all)) all c.loop-name.name-index c.name-item.result c.loop-name-test.true c.name-item.is refl c.loop-name.invariant c.in_ok-extend_from_slice.ensures.items
    (put_inside name_text c.push_name.new.text.items c.extend_from_slice.new.self.items c.as_str.result.now (string_bytes c.name-item.result) c.in_ok-push_name.ensures c.as_str.ensures.value)

pub returns : goal.returns
returns c =
    let all = c.args.names.now in
    each_put (λ rest. other_names_text (map string_bytes rest)) c.loop-name.text.items (c.args.text.now.items ++ other_names_text (map string_bytes all)) all c.loop-name.name-index c.loop-name-test.false refl c.loop-name.invariant
