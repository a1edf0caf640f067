use Rattle.std.proofs.Common.{◌++◌, map, refl}
use Rattle.model.specs.SourceTrees.{declaration_of}
use Rattle.flattext.specs.Modules.{declaration_text, declarations_text}
use Rattle.flattext.proofs.Each.{each_more, each_put}
use Rattle.flattext.proofs.module.push_declarations.Goals as goal

pub loop-declaration-preserved : goal.loop-declaration-preserved
loop-declaration-preserved c =
    let all = c.args.declarations.now in
    each_more (λ rest. declarations_text (map declaration_of rest)) (declaration_text (declaration_of c.declaration-item.result)) c.push_declaration.new.text.items c.loop-declaration.text.items (c.args.text.now.items ++ declarations_text (map declaration_of all)) all
    c.loop-declaration.declaration-index c.declaration-item.result c.loop-declaration-test.true c.declaration-item.is refl c.loop-declaration.invariant c.in_ok-push_declaration.ensures

pub returns : goal.returns
returns c =
    let all = c.args.declarations.now in
    each_put (λ rest. declarations_text (map declaration_of rest)) c.loop-declaration.text.items (c.args.text.now.items ++ declarations_text (map declaration_of all)) all c.loop-declaration.declaration-index c.loop-declaration-test.false refl c.loop-declaration.invariant
