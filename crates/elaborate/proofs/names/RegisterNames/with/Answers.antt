use Rattle.std.proofs.Common.{◌≡◌, ◌++◌, [], ◌∷◌, string_bytes, ◌∙◌, map, None, ap, sym, subst}
use Rattle.elaborate.specs.FirstFindings.{found_name}
use Rattle.elaborate.proofs.Lookups.{is_new, registers_more, one_more}
use Rattle.elaborate.proofs.names.RegisterNames.with.Goals as goal

pub add-requires : goal.add-requires
add-requires c =
    is_new string_bytes c.args.limits c.args.name.now c.args.range c.self.inside.names.keys c.self.inside.ranges.items c.self.invariant.paired
    (subst (λ ds. found_name c.args.limits ds (c.args.name.now, c.args.range) ≡ None) (sym c.self.view_is) c.requires)

pub invariant_of-result : goal.invariant_of-result
invariant_of-result c =
    rw (c.in_ok-add.ensures.names, c.in_ok-add.ensures.ranges)
    (registers_more c.args.limits c.args.name.now c.args.range (map string_bytes c.self.inside.names.keys) c.self.inside.ranges.items c.self.invariant
    (subst (λ ds. found_name c.args.limits ds (c.args.name.now, c.args.range) ≡ None) (sym c.self.view_is) c.requires))

pub returns : goal.returns
returns c =
    rw (c.in_ok-add.ensures.names, c.in_ok-add.ensures.ranges)
    (one_more (map string_bytes c.self.inside.names.keys) c.args.name.now c.self.inside.ranges.items c.args.range c.self.invariant.paired ∙ ap (λ ds. ds ++ (c.args.name.now, c.args.range) ∷ []) c.self.view_is)
