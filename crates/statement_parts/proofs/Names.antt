-- Names that are added to some.
use Rattle.std.proofs.Common.{◌≡◌, Bool, true, false, List, [], ◌∷◌, ◌++◌, map, nat_eq, string_bytes, if◌then◌else◌, ap, sym, ◌∙◌}
use Rattle.std.proofs.lemmas.List.{append-nil, map-append}
use Rattle.std.specs.List.{list_any, starts_with}
use Rattle.std.specs.Str.{bytes_eq}
use Rattle.std.specs.declared.string.String.{String}
use Rattle.std.specs.declared.alloc.Global.{Global}
use Rattle.model.specs.declared.tree.EventExpression.{EventExpression}
use Rattle.model.specs.SourceTrees.{source_trigger_of}
use Rattle.statement_forms.specs.Views.{NamedTrigger}
use Rattle.statement_parts.specs.Statements.{SourceText}
use Rattle.statement_parts.specs.Reads.{unless_front, with_name}

-- a name is pushed
pub pushed_name : (old new : List (String Global)) (name : String Global) (text : SourceText) → new ≡ old ++ name ∷ [] → string_bytes name ≡ text → map string_bytes new ≡ map string_bytes old ++ text ∷ []
pushed_name old new name text is same = ap (map string_bytes) is ∙ map-append string_bytes old (name ∷ []) ∙ ap (λ t. map string_bytes old ++ t ∷ []) same

-- an event is
pub pushed_event : (old new : List EventExpression) (event : EventExpression) (t : NamedTrigger) → new ≡ old ++ event ∷ [] → source_trigger_of event ≡ t → map source_trigger_of new ≡ map source_trigger_of old ++ t ∷ []
pushed_event old new event t is same = ap (map source_trigger_of) is ∙ map-append source_trigger_of old (event ∷ []) ∙ ap (λ u. map source_trigger_of old ++ u ∷ []) same

-- a name that begins with a text isn't added
pub unless_left : (old : List SourceText) (front name : SourceText) (b : Bool) → b ≡ starts_with nat_eq name front → b ≡ true → old ≡ old ++ unless_front front name
unless_left old front name b is yes_it = sym (append-nil old) ∙ ap (λ c. old ++ (if c then [] else name ∷ [])) (sym yes_it ∙ is)

pub unless_added : (old new : List SourceText) (front name : SourceText) (b : Bool) → b ≡ starts_with nat_eq name front → b ≡ false → new ≡ old ++ name ∷ [] → new ≡ old ++ unless_front front name
unless_added old new front name b is no_it more = more ∙ ap (λ c. old ++ (if c then [] else name ∷ [])) (sym no_it ∙ is)

-- a name that is among others isn't
pub with_left : (found : List SourceText) (name : SourceText) (b : Bool) → b ≡ list_any (bytes_eq name) found → b ≡ true → found ≡ with_name found name
with_left found name b is yes_it = ap (λ c. if c then found else found ++ name ∷ []) (sym yes_it ∙ is)

pub with_added : (found new : List SourceText) (name : SourceText) (b : Bool) → b ≡ list_any (bytes_eq name) found → b ≡ false → new ≡ found ++ name ∷ [] → new ≡ with_name found name
with_added found new name b is no_it more = more ∙ ap (λ c. if c then found else found ++ name ∷ []) (sym no_it ∙ is)
