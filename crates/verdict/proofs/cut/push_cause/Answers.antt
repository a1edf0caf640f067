use Rattle.std.proofs.Common.{◌≡◌, ◌++◌, ap, sym, subst, OnOk}
use Rattle.verdict.specs.CutLines.{cut_cause_text}
use Rattle.verdict.specs.declared.cut.ListCut.{ListCut}
use Rattle.verdict.proofs.Pieces.{put_alone}
use Rattle.verdict.proofs.cut.push_cause.Goals as goal

pub returns-in-Races : goal.returns-in-Races
returns-in-Races c =
    subst (λ (k : ListCut). OnOk c.push_limit.result (c.push_limit.new.text.items ≡ c.args.text.now.items ++ cut_cause_text k)) (sym c.in-Races.is) c.push_limit.ensures

pub returns-in-Runs : goal.returns-in-Runs
returns-in-Runs c =
    subst (λ (k : ListCut). OnOk c.push_limit-in-Runs.result (c.push_limit-in-Runs.new.text.items ≡ c.args.text.now.items ++ cut_cause_text k)) (sym c.in-Runs.is) c.push_limit-in-Runs.ensures

pub returns-in-Entries : goal.returns-in-Entries
returns-in-Entries c =
    subst (λ (k : ListCut). OnOk c.push_limit-in-Entries.result (c.push_limit-in-Entries.new.text.items ≡ c.args.text.now.items ++ cut_cause_text k)) (sym c.in-Entries.is) c.push_limit-in-Entries.ensures

pub returns-in-Steps : goal.returns-in-Steps
returns-in-Steps c =
    subst (λ (k : ListCut). OnOk c.push_limit-in-Steps.result (c.push_limit-in-Steps.new.text.items ≡ c.args.text.now.items ++ cut_cause_text k)) (sym c.in-Steps.is) c.push_limit-in-Steps.ensures

pub returns-in-Memory : goal.returns-in-Memory
returns-in-Memory c =
    put_alone c.extend_from_slice.result c.extend_from_slice.new.self.items c.args.text.now.items _ (cut_cause_text c.args.cut) c.extend_from_slice.ensures.items (ap cut_cause_text (sym c.in-Memory.is))
