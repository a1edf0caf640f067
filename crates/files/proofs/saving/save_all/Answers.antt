-- Where a prefix is given, each is saved, and else none.
use Rattle.std.proofs.Common.{List, Option, ℕ, map, option_map, subst, sym}
use Rattle.std.specs.Prelude.{OnErr, OnOk}
use Rattle.std.specs.Borrow.{Bor}
use Rattle.model.specs.declared.entry.Entry.{Entry}
use Rattle.model.specs.declared.end.End.{End}
use Rattle.explore.specs.declared.Shown.{Shown}
use Rattle.files.specs.Saved.{SavesAllWhereAsked, SavesFirstWhereAsked, SavesSomeWhereAsked}
use Rattle.files.proofs.saving.save_all.Goals as goal

pub returns-in-Some-clause-saved : goal.returns-in-Some-clause-saved
returns-in-Some-clause-saved g c = λ start before.
    let journals : List (List Entry) = map (λ (s : Shown Entry End). s.moves.items) c.args.shown.now in
    subst (λ (p : Option (Bor (List ℕ))). OnOk c.save_each.result (SavesAllWhereAsked start (g.F.Files.made c.save_each.new.files) (option_map (λ (n : Bor (List ℕ)). n.now) p) journals)) (sym c.in-Some.is)
    (c.save_each.ensures.saved start (subst (λ (p : Option (Bor (List ℕ))). SavesFirstWhereAsked start (g.F.Files.made c.args.files.now) (option_map (λ (n : Bor (List ℕ)). n.now) p) c.args.from journals) c.in-Some.is before))

pub returns-in-Some-clause-some : goal.returns-in-Some-clause-some
returns-in-Some-clause-some g c = λ start before.
    let journals : List (List Entry) = map (λ (s : Shown Entry End). s.moves.items) c.args.shown.now in
    subst (λ (p : Option (Bor (List ℕ))). OnErr c.save_each.result (SavesSomeWhereAsked start (g.F.Files.made c.save_each.new.files) (option_map (λ (n : Bor (List ℕ)). n.now) p) journals)) (sym c.in-Some.is)
    (c.save_each.ensures.some start (subst (λ (p : Option (Bor (List ℕ))). SavesFirstWhereAsked start (g.F.Files.made c.args.files.now) (option_map (λ (n : Bor (List ℕ)). n.now) p) c.args.from journals) c.in-Some.is before))

pub returns-in-None-clause-saved : goal.returns-in-None-clause-saved
returns-in-None-clause-saved g c = λ start before.
    let journals : List (List Entry) = map (λ (s : Shown Entry End). s.moves.items) c.args.shown.now in
    subst (λ (p : Option (Bor (List ℕ))). SavesAllWhereAsked start (g.F.Files.made c.args.files.now) (option_map (λ (n : Bor (List ℕ)). n.now) p) journals) (sym c.in-None.is)
    (subst (λ (p : Option (Bor (List ℕ))). SavesFirstWhereAsked start (g.F.Files.made c.args.files.now) (option_map (λ (n : Bor (List ℕ)). n.now) p) c.args.from journals) c.in-None.is before)
