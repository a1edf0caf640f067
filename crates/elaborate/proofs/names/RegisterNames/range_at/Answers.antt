use Rattle.std.proofs.Common.{string_bytes, None, ap, sym, ◌∙◌, get_or, map}
use Rattle.model.specs.Elaboration.{is_range}
use Rattle.elaborate.proofs.Lookups.{ranges_are}
use Rattle.elaborate.proofs.names.RegisterNames.range_at.Goals as goal

pub returns-clause-value : goal.returns-clause-value
returns-clause-value c =
    c.range_in.ensures
    ∙ ap (λ rs. get_or rs c.args.place None) (c.as_slice.ensures.value ∙ sym (ranges_are string_bytes c.self.inside.names.keys c.self.inside.ranges.items c.self.invariant.paired) ∙ ap (map (λ d. d.1)) c.self.view_is)

pub returns-clause-allowed : goal.returns-clause-allowed
returns-clause-allowed c =
    ap is_range (c.range_in.ensures ∙ ap (λ rs. get_or rs c.args.place None) c.as_slice.ensures.value) ∙ c.self.invariant.ranged c.args.place
