use Rattle.std.proofs.Common.{◌≡◌, ◌∙◌, ap, refl, Some, None}
use Rattle.model.specs.declared.entry.Refusal.TheVariants.{Finished}
use Rattle.model.specs.Runs.{refused_where, entry_refusal, refusal}
use Rattle.regions.specs.Queue.{core_of, state_of}
use Rattle.regions.proofs.FirstRegions.{activation_permitted, next_is_due}
use Rattle.regions.proofs.queue.Queue.due.Goals as goal

pub returns-in_default-change : goal.returns-in_default-change
returns-in_default-change c = λ rem values.
    let s = state_of rem values (core_of c.args.self.now) in
    let change = c.in-Some.change in
    let next = c.in-Some.ensures.next rem values in
    let permitted : refusal s change ≡ None =
    ap (λ b. refused_where b Finished (entry_refusal s change)) c.if-self.false ∙ activation_permitted s change c.in_default-change.not-Advance ((next change).0 refl) in
    next_is_due s (Some change) change next refl permitted
