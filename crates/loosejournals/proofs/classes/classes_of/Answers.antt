-- The classes that are written back.
use Rattle.std.proofs.Common.{◌≡◌, ℕ, ◌++◌, List, length, take, drop, sym, ap, subst, ◌∙◌, arith}
use Rattle.design.specs.Compiled.{design_of}
use Rattle.loosejournals.specs.Classes.{AreTogetherIn}
use Rattle.loosejournals.proofs.Together.{written_back}
use Rattle.loosejournals.proofs.classes.classes_of.Goals as goal

pub returns-clause-each : goal.returns-clause-each
returns-clause-each c =
    let old = c.in_ok-classes.classes in
    let new = c.join_processes.new.classes in
    let kept : take old.len (new ++ drop (length new) old.items) ≡ new =
    written_back old.len new old.items (omega (arith, old.ok.0)) (omega (arith, old.ok.0)) in
    let size : length new ≡ length c.args.design.now.widths = omega (arith, c.in_ok-classes.ensures, c.registers.ensures.value) in
    ap (λ (xs : List ℕ). length xs) kept ∙ size

pub returns-clause-together : goal.returns-clause-together
returns-clause-together c =
    let old = c.in_ok-classes.classes in
    let new = c.join_processes.new.classes in
    let kept : take old.len (new ++ drop (length new) old.items) ≡ new =
    written_back old.len new old.items (omega (arith, old.ok.0)) (omega (arith, old.ok.0)) in
    subst (λ (xs : List ℕ). AreTogetherIn (design_of c.args.design.now) xs) (sym kept) c.in_ok-join_processes.ensures
