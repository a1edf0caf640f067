-- How far a search came is told where it met a limit, if that is known.
use Rattle.std.proofs.Common.{◌≡◌, ◌∙◌, ap, sym, Option, Some, None, option_map}
use Rattle.naming.specs.declared.reach.SearchReach.{SearchReach}
use Rattle.program.specs.Findings.{met_limit}
use Rattle.program.proofs.Searched.{reach_told, reach_unknown, reach_untold}
use Rattle.program.proofs.searching.reach_lines.Goals as goal

pub returns-then-not-met_limit : goal.returns-then-not-met_limit
returns-then-not-met_limit c =
    reach_untold c.args.names.now.processes.now (met_limit c.args.texts.now.claim) c.met_limit.result c.args.texts.now.followed_before c.new.result.items c.met_limit.ensures c.if-not-met_limit.true c.new.ensures.items

pub returns-in-None : goal.returns-in-None
returns-in-None c =
    let known : c.args.texts.now.followed_before ≡ None = sym c.reach_of.ensures ∙ ap (λ (o : Option SearchReach). option_map (λ r. r.followed_before) o) c.in-None.is in
    reach_unknown c.args.names.now.processes.now (met_limit c.args.texts.now.claim) c.args.texts.now.followed_before c.new-in-None.result.items known c.new-in-None.ensures.items

pub returns : goal.returns
returns c =
    let time = c.in-Some.reach.followed_before in
    let known : c.args.texts.now.followed_before ≡ Some time = sym c.reach_of.ensures ∙ ap (λ (o : Option SearchReach). option_map (λ r. r.followed_before) o) c.in-Some.is in
    reach_told c.args.names.now.processes.now (met_limit c.args.texts.now.claim) c.met_limit.result c.args.texts.now.followed_before time c.new-lines.result.items c.push_reach.new.text.items c.met_limit.ensures c.if-not-met_limit.false known
    c.new-lines.ensures.items c.in_ok-push_reach.ensures
