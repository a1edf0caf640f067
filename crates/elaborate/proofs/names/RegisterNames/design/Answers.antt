use Rattle.std.proofs.Common.{◌≡◌, string_bytes, sym, ap, ◌∙◌, map}
use Rattle.model.specs.Elaboration.{width_of, widths_of}
use Rattle.elaborate.proofs.Lookups.{widths_are, names_are}
use Rattle.elaborate.proofs.names.RegisterNames.design.Goals as goal

pub new-requires-clause-sound : goal.new-requires-clause-sound
new-requires-clause-sound c =
    let e : c.in_ok-widths.widths.items ≡ widths_of c.args.self =
    c.in_ok-widths.ensures ∙ ap (map width_of) c.as_slice.ensures.value
    ∙ sym (widths_are string_bytes c.self.inside.names.keys c.self.inside.ranges.items c.self.invariant.paired) ∙ ap widths_of c.self.view_is in
    rw e c.requires

pub returns-clause-design : goal.returns-clause-design
returns-clause-design c =
    let e : c.in_ok-widths.widths.items ≡ widths_of c.args.self =
    c.in_ok-widths.ensures ∙ ap (map width_of) c.as_slice.ensures.value
    ∙ sym (widths_are string_bytes c.self.inside.names.keys c.self.inside.ranges.items c.self.invariant.paired) ∙ ap widths_of c.self.view_is in
    simp e at c.new.ensures.design

pub returns-clause-names : goal.returns-clause-names
returns-clause-names c =
    let e : map string_bytes c.self.inside.names.keys ≡ map (λ d. d.0) c.args.self =
    sym (names_are string_bytes c.self.inside.names.keys c.self.inside.ranges.items c.self.invariant.paired) ∙ ap (map (λ d. d.0)) c.self.view_is in
    simp e at c.new.ensures.names
