-- What the declaration of a parameter declares, by the steps of the program.
use Rattle.std.proofs.Common.{◌≡◌, ℕ, Option, Result, Ok, Err, subst, ap, ◌∙◌}
use Rattle.std.specs.declared.alloc.Global.{Global}
use Rattle.std.specs.declared.vec.Vec.{Vec}
use Rattle.std.specs.Prelude.{OnOk}
use Rattle.scopes.specs.Scopes.{NameText}
use Rattle.scopes.specs.declared.scope.Entity.TheVariants as entity
use Rattle.shaped_trees.specs.declared.constants.Constant.{Constant}
use Rattle.sizing.specs.declared.environment.Object.{Object}
use Rattle.syntax_tree.specs.Expressions.{plain_expression_of}
use Rattle.syntax_tree.specs.declared.declarations.ParameterAssignment.{ParameterAssignment}
use Rattle.syntax_tree.specs.declared.declarations.ParameterDeclaration.{ParameterDeclaration}
use Rattle.design_scopes.specs.declared.scoped.ScopedDesign.{ScopedDesign}
use Rattle.design_scopes.specs.declared.call_values.CallValue.{CallValue}
use Rattle.design_scopes.specs.Designs.{names_at_scope, full_name_at, DeclaresObject}
use Rattle.design_scopes.specs.Values.{IsParameter}
use Rattle.hierarchy.specs.declared.elaboration.Elaboration.{Elaboration}
use Rattle.hierarchy.specs.Given.{value_given, IsGivenParameter, DeclaresParameter, with_calls}

-- a design, but for the values of calls, declares what the design declares
without_calls : (d new : ScopedDesign) (calls : Vec CallValue Global) (scope : ℕ) (name : NameText) (o : Object) → DeclaresObject (with_calls d calls) new scope name entity.Object o → DeclaresObject d new scope name entity.Object o
without_calls d new calls scope name o h = record { objects = h.objects; declares = h.declares; grows = h.grows; processes = h.processes }

pub parameter_declared : {T E : Type 0} (r : Result T E) (old mid ready new : Elaboration) (scope : ℕ) (source : ParameterDeclaration) (assignment : ParameterAssignment) (name : NameText) (given : Option Constant) (o : Object)
    → mid.design ≡ old.design → ready ≡ record mid { functions = ready.functions; design = with_calls mid.design ready.design.calls } → name ≡ assignment.identifier.name.items
    → IsGivenParameter source.local (value_given old.parameters (full_name_at old.design scope name)) given → IsParameter (names_at_scope ready.design scope) source given (plain_expression_of assignment.value) o
    → OnOk r (DeclaresObject ready.design new.design scope name entity.Object o) → OnOk r (DeclaresParameter old new scope source assignment)
parameter_declared (Ok x) old mid ready new scope source assignment name given o same prepared is elsewhere parameter declares =
    let known : ready.design ≡ with_calls old.design ready.design.calls = ap (λ (e : Elaboration). e.design) prepared ∙ ap (λ (d : ScopedDesign). with_calls d ready.design.calls) same in
    record {
      given = given;
      object = o;
      calls = ready.design.calls;
      elsewhere = subst (λ (t : NameText). IsGivenParameter source.local (value_given old.parameters (full_name_at old.design scope t)) given) is elsewhere;
      parameter = subst (λ (d : ScopedDesign). IsParameter (names_at_scope d scope) source given (plain_expression_of assignment.value) o) known parameter;
      declares = subst (λ (t : NameText). DeclaresObject old.design new.design scope t entity.Object o) is (without_calls old.design new.design ready.design.calls scope name o (subst (λ (d : ScopedDesign). DeclaresObject d new.design scope name entity.Object o) known declares));
    }
parameter_declared (Err e) old mid ready new scope source assignment name given o same prepared is elsewhere parameter declares = tt
