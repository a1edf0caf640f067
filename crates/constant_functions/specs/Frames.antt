-- What names mean in the body of a function that is called (IEEE 1364-2005, 10.4.5, 12.7).
use Rattle.std.specs.Prelude.{ℕ, Bool, ◌&&◌, List, Option, None, Some, slice_get, position, option_and_then, option_map}
use Rattle.std.specs.Str.{bytes_eq}
use Rattle.sizing.specs.declared.environment.Object.{Object}
use Rattle.sizing.specs.Names.{Names}
use Rattle.design_scopes.specs.Places as places
use Rattle.design_scopes.specs.Places.{call_among, or_object}
use Rattle.constant_functions.specs.declared.variable.LocalVariable.{LocalVariable}
use Rattle.constant_functions.specs.declared.frame.Frame.{Frame}

-- a variable of a block in which the statement stands, of this name
abbrev pub has_seen_name : List ℕ → LocalVariable → Bool
has_seen_name name v = v.is_seen && bytes_eq v.name.now name

-- the number of the variable that a name stands for: that of the innermost block, whose variables stand first
abbrev pub variable_number : List LocalVariable → List ℕ → Option ℕ
variable_number variables name = position (has_seen_name name) variables

-- the variable that a name stands for, alone
abbrev pub own_object : List LocalVariable → Option ℕ → List ℕ → Option Object
own_object variables None name = option_map (λ v. v.object) (option_and_then (slice_get variables) (variable_number variables name))
own_object variables (Some scope) name = None

-- what names mean where a function's expressions stand: its own variables, and else what they mean at the module's instance
abbrev pub frame_names : Frame → Names
frame_names frame = record {
  scope = (places.means frame.outer).scope;
  object = λ within name. or_object (own_object frame.variables.items within name) ((places.means frame.outer).object within name);
  call = λ token. call_among frame.calls.items token;
}
