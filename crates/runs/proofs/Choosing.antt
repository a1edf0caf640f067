-- The entry at a place of a list.
use Rattle.std.proofs.Common.{◌≡◌, ℕ, ◌<◌, List, length, Option, Some, None, true, false, sym, ◌∙◌, arith}
use Rattle.std.specs.Prelude.{slice_get, IsNone, IfSome}
use Rattle.std.specs.List.{Contains}
use Rattle.std.proofs.lemmas.Option.{slice_get_within, get_or_from_slice_get, slice_get-get_or}
use Rattle.model.specs.declared.entry.Entry.{Entry}
use Rattle.model.specs.declared.entry.Entry.TheVariants.{ActivateNba}

-- an entry of the list has what all entries of the list have
pub one_of : (P : Entry → Type 0) (xs : List Entry) (o : Option Entry) (k : ℕ) → o ≡ slice_get xs k → ((entry : Entry) → Contains xs entry → P entry) → IfSome o P
one_of P xs None k is all = tt
one_of P xs (Some entry) k is all = all entry (k, slice_get_within xs k entry (sym is), get_or_from_slice_get xs k entry entry (sym is))

-- there is one at each place below the length
pub some_at : (xs : List Entry) (o : Option Entry) (k : ℕ) → o ≡ slice_get xs k → k < length xs → IsNone o → ⊥
some_at xs None k is lt none =
    let clash : None ≡ Some _ = is ∙ slice_get-get_or xs k ActivateNba lt in
    cc
some_at xs (Some entry) k is lt none =
    let clash : true ≡ false = none in
    cc

-- an empty list has none
pub none_of : (xs : List Entry) (entry : Entry) → length xs ≡ 0 → Contains xs entry → ⊥
none_of xs entry empty there = omega (arith, empty, there.1)
