use Rattle.std.proofs.Common.{◌∙◌, ap}
use Rattle.sizing.specs.Names.{object_width}
use Rattle.statement_parts.specs.Statements.{SourceText}
use Rattle.lowering.specs.Flat.{source_range, declared_as}
use Rattle.lowering.proofs.Modules.{object_added, constant_kept}
use Rattle.lowering.proofs.flat.add_object.Goals as goal

pub returns-in_ok-push-in-Variable : goal.returns-in_ok-push-in-Variable
returns-in_ok-push-in-Variable c =
    let o = c.args.object.now in
    object_added o c.in-Variable.name c.args.regs.now.items c.push.new.self.items c.in_ok-made-in-Variable.made c.in-Variable.is c.in_ok-push-in-Variable.ensures.items
    (c.in_ok-made-in-Variable.ensures ∙ ap (λ (text : SourceText). declared_as text (source_range o.range (object_width o))) c.as_str.ensures.value)

pub returns-in-Constant : goal.returns-in-Constant
returns-in-Constant c = constant_kept c.args.object.now _ c.args.regs.now.items c.in-Constant.is
