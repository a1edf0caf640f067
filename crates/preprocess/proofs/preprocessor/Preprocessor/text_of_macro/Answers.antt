-- A part of what stands stands.
use Rattle.std.proofs.Common.{List, ap, drop, take, ◌∙◌}
use Rattle.std.specs.List.{list_all}
use Rattle.preprocess.specs.declared.work.BodyPiece.{BodyPiece}
use Rattle.preprocess.specs.Places.{body_stands}
use Rattle.preprocess.proofs.Standing.{text_all}
use Rattle.preprocess.proofs.preprocessor.Preprocessor.text_of_macro.Goals as goal

pub returns-clause-stand : goal.returns-clause-stand
returns-clause-stand c =
    let part = λ (b : List BodyPiece). drop c.args.found.begin (take c.args.found.end b) in
    ap (list_all (body_stands c.args.self.now.work.files.items)) (c.in_ok-text.ensures.items ∙ c.range_of.ensures ∙ ap part c.deref.ensures.value)
    ∙ text_all c.args.self.now.work.files.items c.args.self.now.work.bodies.items c.args.found.begin c.args.found.end c.args.self.now.work.bodies_stand
