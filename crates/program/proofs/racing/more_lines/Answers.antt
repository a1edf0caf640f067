-- The lines tell the further races.
use Rattle.std.proofs.Common.{◌∙◌, ◌≤◌, ℕ, length, option_map, subst, sym}
use Rattle.explore.proofs.Growing.{length-extends}
use Rattle.naming.specs.Naming.{TellsMore}
use Rattle.program.proofs.racing.more_lines.Goals as goal

pub further_lines-requires : goal.further_lines-requires
further_lines-requires g c =
    let same = c.len-before.ensures ∙ c.args.races.causes.causes.ok.0 in
    subst (λ (n : ℕ). n ≤ length c.all_causes-all.result.causes.items) (sym same) (length-extends c.args.races.causes.causes.items c.all_causes-all.result.causes.items c.all_causes-all.ensures.grown)

pub returns : goal.returns
returns g c =
    let names = c.args.names.now in
    let races = c.args.races in
    let prefix = option_map (λ path. path.now) names.prefix in
    let all = c.all_causes-all.result in
    let same = c.len-before.ensures ∙ races.causes.causes.ok.0 in
    record {
      causes = all;
      are_causes = c.all_causes-all.ensures.are;
      grown = c.all_causes-all.ensures.grown;
      answered = c.all_causes-all.ensures.answered;
      tells = subst (λ (n : ℕ). TellsMore names.processes.now names.source.now names.design.now names.shown.now prefix races.bounds races.found n all c.in_ok-lines.lines.items) same c.in_ok-lines.ensures;
    }
