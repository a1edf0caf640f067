-- The processes of the table are those of the modules.
use Rattle.routines.proofs.Making.{of_modules}
use Rattle.routines.proofs.processes.plain_processes.Goals as goal

pub returns-in-Ok : goal.returns-in-Ok
returns-in-Ok c = of_modules c.args.modules.now c.in-Ok.texts.processes.items c.args.design c.plain_design.result c.in-Ok.ensures c.plain_design.ensures
