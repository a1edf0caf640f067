-- The samples are what was found, behind the texts that are known.
use Rattle.std.proofs.Common.{ℕ, ◌≤◌, ◌≡◌, false, length, subst}
use Rattle.program.proofs.Sampled.{no_items, samples_found}
use Rattle.program.proofs.sampling.sampled.Goals as goal

pub returns-clause-found : goal.returns-clause-found
returns-clause-found g c =
    let samples = c.sample-samples in
    let all = c.add_all.new.self in
    let added = c.in_ok-added.added in
    let few = subst (λ (n : ℕ). length all.shown.items ≤ n) c.in_ok-added.ensures.grows.most c.in_ok-added.ensures.few.few in
    let full = subst (λ (n : ℕ). added ≡ false → length all.shown.items ≡ n) c.in_ok-added.ensures.grows.most c.in_ok-added.ensures.full in
    samples_found c.args.design.now c.args.search_options samples.result.made c.args.count samples.result.stop c.sampled_stop.result c.is_empty.result added samples.result.kept.items c.args.known.items c.in_ok-others.others.items
    all.shown.items c.requires.asked samples.ensures.made samples.ensures.all c.sampled_stop.ensures
    (λ is. subst (λ (n : ℕ). n ≡ c.args.search_options.max_texts) samples.result.kept.ok.0 (samples.ensures.full is))
    (subst (λ (n : ℕ). n ≤ samples.result.made) samples.result.kept.ok.0 samples.ensures.kept) samples.ensures.runs samples.ensures.sampled (no_items c.is_empty.result _ c.args.known.items c.is_empty.ensures c.args.known.ok.0) c.in_ok-others.ensures.from c.in_ok-others.ensures.there c.requires.lawful c.in_ok-added.ensures.each
    c.in_ok-added.ensures.there full c.in_ok-added.ensures.few.distinct few
