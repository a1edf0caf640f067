-- One text more; all of them at the end.
use Rattle.std.proofs.Common.{List, [], ℕ, map, subst, sym}
use Rattle.std.specs.Borrow.{Bor}
use Rattle.std.proofs.lemmas.List.{take_all}
use Rattle.program.specs.Subjects.{AreHeldAt, no_file}
use Rattle.program.proofs.Ended.{kept, kept_on}
use Rattle.program.proofs.Subjects.{holding, holding_on, one_more_held}
use Rattle.program.proofs.subject.read_each.Goals as goal

pub loop-path-init : goal.loop-path-init
loop-path-init g c = record {
  texts = subst (AreHeldAt (g.F.Files.held c.args.files.now) []) (sym c.new-texts.ensures.items) no_file;
  kept = kept (g.F.Files.made c.args.files.now);
  held = holding (g.F.Files.held c.args.files.now);
}

pub loop-path-preserved : goal.loop-path-preserved
loop-path-preserved g c = record {
  texts = one_more_held (g.F.Files.held c.args.files.now) (g.F.Files.held c.loop-path.files) c.args.paths.now c.loop-path.path-index _ c.loop-path.texts.items c.add_text.new.texts.items c.in_ok-text.text
      c.loop-path-test.true c.loop-path.invariant.texts c.loop-path.invariant.held c.in_ok-text.ensures.text c.in_ok-add_text.ensures;
  kept = kept_on (g.F.Files.made c.args.files.now) (g.F.Files.made c.loop-path.files) (g.F.Files.made c.read_text.new.files) c.loop-path.invariant.kept c.read_text.ensures.kept;
  held = holding_on (g.F.Files.held c.args.files.now) (g.F.Files.held c.loop-path.files) (g.F.Files.held c.read_text.new.files) c.loop-path.invariant.held c.read_text.ensures.held;
}

pub returns-clause-texts : goal.returns-clause-texts
returns-clause-texts g c =
    subst (λ (paths : List (Bor (List ℕ))). AreHeldAt (g.F.Files.held c.args.files.now) (map (λ path. path.now) paths) c.loop-path.texts.items)
    (take_all c.loop-path.path-index c.args.paths.now c.loop-path-test.false) c.loop-path.invariant.texts
