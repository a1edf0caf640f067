use Rattle.hierarchy.proofs.Declared.{parameter_declared}
use Rattle.hierarchy.proofs.elaboration.Elaboration.declare_parameter.Goals as goal

pub returns : goal.returns
returns c =
    parameter_declared c.declare_constant.result c.args.self.now c.given_value.new.self c.prepare_parameter.new.self (record c.prepare_parameter.new.self { design = c.declare_constant.new.self }) c.args.scope c.args.source.now c.args.assignment.now
    c.label_of-label.result.name.now c.in_ok-given.given c.in_ok-object.object c.given_value.ensures.design c.prepare_parameter.ensures c.label_of-label.ensures.name c.in_ok-given.ensures.given c.in_ok-object.ensures c.declare_constant.ensures
