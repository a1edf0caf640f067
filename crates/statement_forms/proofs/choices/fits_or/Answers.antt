use Rattle.std.proofs.Common.{◌≡◌, Some, option_map, ap, ◌∙◌}
use Rattle.model.specs.SourceTrees.{source_expression_of}
use Rattle.statement_forms.specs.Forms.{fits, or_also}
use Rattle.statement_forms.proofs.Beside.{made_so}
use Rattle.statement_forms.proofs.choices.fits_or.Goals as goal

pub returns : goal.returns
returns c =
    let hidden = c.args.hidden.now in
    let label = source_expression_of c.args.label in
    let here_is : source_expression_of c.in_ok-behind.here ≡ fits hidden label = made_so (λ made. source_expression_of made ≡ fits hidden label) c.fits_of.result c.in_ok-behind.here c.in_ok-behind.ensures.1 c.fits_of.ensures in
    let behind_is : option_map source_expression_of c.in_ok-behind.behind ≡ option_map source_expression_of c.args.behind = ap (option_map source_expression_of) c.in_ok-behind.ensures.0 in
    ap Some (c.in_ok-or_also.ensures ∙ (λ i. or_also (here_is i) (behind_is i)))
