-- One run more, until none is left.
use Rattle.std.proofs.Common.{◌∙◌, List, [], string_bytes, subst, sym}
use Rattle.std.specs.List.{All, Any}
use Rattle.std.proofs.lemmas.List.{map-id}
use Rattle.std.proofs.lemmas.List.Elements.{All-nil}
use Rattle.std.proofs.lemmas.Iterator.Adapters.{YieldsList-from_vec}
use Rattle.std.proofs.lemmas.Iterator.Consumers.{YieldsList-end}
use Rattle.model.specs.declared.entry.Entry.{Entry}
use Rattle.model.specs.declared.end.End.{End}
use Rattle.explore.specs.declared.Shown.{Shown}
use Rattle.explore.specs.Search.{IsShown}
use Rattle.runs.specs.declared.run.RunRecord.{RunRecord}
use Rattle.program.specs.Findings.{IsShownWanted, IsWantedRun}
use Rattle.program.proofs.Sampled.{from_one_more, there_one_more}
use Rattle.program.proofs.sampling.shown_of.Goals as goal

pub loop-run-init : goal.loop-run-init
loop-run-init c = record {
  from =
      subst (λ (ss : List (Shown Entry End)). All (λ s. Any (λ (run : RunRecord). IsShownWanted c.args.all run s) []) ss) (sym c.new-shown.ensures.items)
      (All-nil (λ (s : Shown Entry End). Any (λ (run : RunRecord). IsShownWanted c.args.all run s) []));
  there = All-nil (λ (run : RunRecord). IsWantedRun c.args.all run → IsShown c.new-shown.result.items (string_bytes run.lines) run.end);
}

pub loop-run-preserved : goal.loop-run-preserved
loop-run-preserved c = record {
  from = from_one_more c.args.all c.loop-run.yielded c.in-Some.run' c.loop-run.shown.items c.push_run.new.shown.items c.in_ok-push_run.ensures c.loop-run.invariant.from;
  there = there_one_more c.args.all c.loop-run.yielded c.in-Some.run' c.loop-run.shown.items c.push_run.new.shown.items c.in_ok-push_run.ensures c.loop-run.invariant.there;
}

pub returns-clause-from : goal.returns-clause-from
returns-clause-from c =
    let gives = c.into_iter-run-iterator.ensures.into_iter_gives in
    let t = YieldsList-end (YieldsList-from_vec {s = c.into_iter-run-iterator.result} c.args.runs.items gives.0 (gives.1 ∙ c.args.runs.ok.0)) c.loop-run.yielded c.loop-run.run-iterator c.loop-run.yielded_by c.next.result c.next.new.self c.in-None.is c.next.ensures.steps in
    subst (λ (rs : List RunRecord). All (λ s. Any (λ run. IsShownWanted c.args.all run s) rs) c.loop-run.shown.items) (sym (map-id c.loop-run.yielded) ∙ t.0) c.loop-run.invariant.from

pub returns-clause-there : goal.returns-clause-there
returns-clause-there c =
    let gives = c.into_iter-run-iterator.ensures.into_iter_gives in
    let t = YieldsList-end (YieldsList-from_vec {s = c.into_iter-run-iterator.result} c.args.runs.items gives.0 (gives.1 ∙ c.args.runs.ok.0)) c.loop-run.yielded c.loop-run.run-iterator c.loop-run.yielded_by c.next.result c.next.new.self c.in-None.is c.next.ensures.steps in
    subst (λ (rs : List RunRecord). All (λ run. IsWantedRun c.args.all run → IsShown c.loop-run.shown.items (string_bytes run.lines) run.end) rs) (sym (map-id c.loop-run.yielded) ∙ t.0) c.loop-run.invariant.there
