-- What was found covers, and keeps within the limits.
use Rattle.std.proofs.Common.{◌≡◌, ℕ, List, ap, ◌∙◌, subst}
use Rattle.std.specs.Prelude.{Option, IfSome}
use Rattle.std.specs.List.{All}
use Rattle.std.specs.Global.{Vec}
use Rattle.model.specs.declared.end.Limits.{Limits}
use Rattle.model.specs.Runs.{HasLongTurn}
use Rattle.design.specs.Compiled.{design_of}
use Rattle.loose.specs.declared.transition.LooseTransition.{LooseTransition}
use Rattle.loose.specs.Classes.{class_in}
use Rattle.regions.specs.Machine.{state_at}
use Rattle.looseruns.specs.ObservedEnding.{CoverToFinish}
use Rattle.looseparts.specs.FoundWays.{ways_in}
use Rattle.looseparts.specs.declared.parts.CoveringWays.{CoveringWays}
use Rattle.lawful.specs.ByParts.{IsWithin}
use Rattle.lawful.proofs.by_parts.parts_within.Goals as goal

pub returns : goal.returns
returns c =
    let class = class_in c.args.classes.now in
    let m = c.args.machine.now in
    let design = design_of m.code in
    let found = c.in-Some.found in
    let same : c.entries-entries.result ≡ m.core.entries = c.entries-entries.ensures ∙ ap (λ s. s.entries) c.state.ensures in
    let covers = subst (λ (o : Option CoveringWays). IfSome o (λ found. (limits : Limits) → CoverToFinish class design limits (state_at m) (ways_in found.ways.items) (ways_in found.ends.items))) c.in-Some.is c.in_ok-found.ensures.cover in
    let ways_within = subst (λ (l : List (Vec LooseTransition)). All (IsWithin c.args.limits c.entries-entries.result) (ways_in l)) c.deref.ensures.value (c.are_within.ensures c.if-not-are_within.false) in
    let ends_within = subst (λ (l : List (Vec LooseTransition)). All (IsWithin c.args.limits c.entries-entries.result) (ways_in l)) c.deref-2.ensures.value (c.are_within-2.ensures c.if-not-are_within-2.false) in
    record {
      cover = covers c.args.limits;
      short = subst (λ (o : Option CoveringWays). IfSome o (λ found. (process : ℕ) → HasLongTurn design (state_at m) process → ⊥)) c.in-Some.is c.in_ok-found.ensures.short;
      ways_within = subst (λ (n : ℕ). All (IsWithin c.args.limits n) (ways_in found.ways.items)) same ways_within;
      ends_within = subst (λ (n : ℕ). All (IsWithin c.args.limits n) (ways_in found.ends.items)) same ends_within;
    }
