-- A file is looked up, and nothing is made.
use Rattle.program.proofs.Ended.{kept, kept_on}
use Rattle.program.proofs.subject.module_of_texts.Goals as goal

pub loop-lookup-init : goal.loop-lookup-init
loop-lookup-init g c = kept (g.F.Files.made c.args.files.now)

pub loop-lookup-preserved : goal.loop-lookup-preserved
loop-lookup-preserved g c = kept_on (g.F.Files.made c.args.files.now) (g.F.Files.made c.loop-lookup.files) (g.F.Files.made c.look_up.new.files) c.loop-lookup.invariant c.look_up.ensures
