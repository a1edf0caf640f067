use Rattle.std.proofs.Common.{◌≡◌, ◌++◌, ap, sym, subst, OnOk}
use Rattle.verdict.specs.Verdicts.{stop_phrase}
use Rattle.verdict.specs.declared.claim.SearchStop.{SearchStop}
use Rattle.verdict.proofs.Pieces.{put_alone}
use Rattle.verdict.proofs.phrases.push_stop_phrase.Goals as goal

pub returns-in-States : goal.returns-in-States
returns-in-States c =
    subst (λ (k : SearchStop). OnOk c.push_limit.result (c.push_limit.new.text.items ≡ c.args.text.now.items ++ stop_phrase k)) (sym c.in-States.is) c.push_limit.ensures

pub returns-in-Texts : goal.returns-in-Texts
returns-in-Texts c =
    subst (λ (k : SearchStop). OnOk c.push_limit-in-Texts.result (c.push_limit-in-Texts.new.text.items ≡ c.args.text.now.items ++ stop_phrase k)) (sym c.in-Texts.is) c.push_limit-in-Texts.ensures

pub returns-in-Entries : goal.returns-in-Entries
returns-in-Entries c =
    subst (λ (k : SearchStop). OnOk c.push_limit-in-Entries.result (c.push_limit-in-Entries.new.text.items ≡ c.args.text.now.items ++ stop_phrase k)) (sym c.in-Entries.is) c.push_limit-in-Entries.ensures

pub returns-in-Megabytes : goal.returns-in-Megabytes
returns-in-Megabytes c =
    subst (λ (k : SearchStop). OnOk c.push_limit-in-Megabytes.result (c.push_limit-in-Megabytes.new.text.items ≡ c.args.text.now.items ++ stop_phrase k)) (sym c.in-Megabytes.is) c.push_limit-in-Megabytes.ensures

pub returns-in-Memory : goal.returns-in-Memory
returns-in-Memory c =
    put_alone c.extend_from_slice.result c.extend_from_slice.new.self.items c.args.text.now.items _ (stop_phrase c.args.stop) c.extend_from_slice.ensures.items (ap stop_phrase (sym c.in-Memory.is))
