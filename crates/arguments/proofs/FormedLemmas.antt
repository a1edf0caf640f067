-- An argument that takes the same, under the same name.
use Rattle.std.proofs.Common.{◌≡◌, ◌∙◌, ap₂, subst, List, ℕ}
use Rattle.clap.specs.Words.{rule_of}
use Rattle.clap.specs.declared.builder.arg.Arg.{Arg}
use Rattle.arguments.specs.declared.parameters.Form.{Form}
use Rattle.arguments.specs.Arguments.{FollowsRule, rule_by}
use Rattle.arguments.specs.CommandWords.{argument_by}

pub takes_same_form : (a : Arg) (f g : Form) (n m : List ℕ) → f ≡ g → n ≡ m → FollowsRule a (rule_by f n) → FollowsRule a (rule_by g m)
takes_same_form a f g n m form name takes =
    subst (λ (x : Form). FollowsRule a (rule_by x m)) form (subst (λ (x : List ℕ). FollowsRule a (rule_by f x)) name takes)

pub is_same_form : (a : Arg) (f g : Form) (n m : List ℕ) → f ≡ g → n ≡ m → rule_of a ≡ argument_by f n → rule_of a ≡ argument_by g m
is_same_form a f g n m form name is = is ∙ ap₂ argument_by form name
