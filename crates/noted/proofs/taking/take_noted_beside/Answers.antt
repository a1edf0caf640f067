-- What the arms answer, clause by clause.
use Rattle.std.proofs.Common.{sym, subst}
use Rattle.std.specs.Prelude.{MatchResult}
use Rattle.std.proofs.lemmas.Result.{MatchResult-weaker}
use Rattle.model.specs.declared.entry.Entry.{Entry}
use Rattle.model.specs.Turns.{contains}
use Rattle.loose.specs.Classes.{class_in}
use Rattle.noted.specs.NotedSteps.{IsTakenNoted, IsLeftOut}
use Rattle.noted.proofs.Noted.{code_stays}
use Rattle.noted.proofs.taking.take_noted_beside.Goals as goal

pub returns-in-Turn : goal.returns-in-Turn
returns-in-Turn c =
    let old = c.args.machine.now in
    let new = c.take_turn.new.machine in
    let result = c.take_turn.result in
    let class = class_in c.args.classes.now in
    let held = contains c.args.held.now in
    let note = c.take_turn.new.note in
    let came = subst (λ (e : Entry). MatchResult result (λ _. IsTakenNoted class held old e new note) (IsLeftOut old e new)) (sym c.in-Turn.is) c.take_turn.ensures in
    record {
      taken = MatchResult-weaker result came (λ _ took. took.taken) (λ _ _. tt);
      noted = MatchResult-weaker result came (λ _ took. took.noted) (λ _ _. tt);
      entries = MatchResult-weaker result came (λ _ took. took.entries) (λ _ _. tt);
      made = MatchResult-weaker result came (λ _ took. took.made) (λ _ _. tt);
      code = code_stays class held old c.args.entry new note result came;
      few = MatchResult-weaker result came (λ _ took. took.few) (λ _ _. tt);
      stop = MatchResult-weaker result came (λ _ _. tt) (λ _ left. left.stop);
      err = MatchResult-weaker result came (λ _ _. tt) (λ _ left. left.same);
    }

pub returns-in-Update : goal.returns-in-Update
returns-in-Update c =
    let old = c.args.machine.now in
    let new = c.take_update.new.machine in
    let result = c.take_update.result in
    let class = class_in c.args.classes.now in
    let held = contains c.args.held.now in
    let note = c.take_update.new.note in
    let came = subst (λ (e : Entry). MatchResult result (λ _. IsTakenNoted class held old e new note) (IsLeftOut old e new)) (sym c.in-Update.is) c.take_update.ensures in
    record {
      taken = MatchResult-weaker result came (λ _ took. took.taken) (λ _ _. tt);
      noted = MatchResult-weaker result came (λ _ took. took.noted) (λ _ _. tt);
      entries = MatchResult-weaker result came (λ _ took. took.entries) (λ _ _. tt);
      made = MatchResult-weaker result came (λ _ took. took.made) (λ _ _. tt);
      code = code_stays class held old c.args.entry new note result came;
      few = MatchResult-weaker result came (λ _ took. took.few) (λ _ _. tt);
      stop = MatchResult-weaker result came (λ _ _. tt) (λ _ left. left.stop);
      err = MatchResult-weaker result came (λ _ _. tt) (λ _ left. left.same);
    }
