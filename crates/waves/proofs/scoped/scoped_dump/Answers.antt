-- The scopes of the registers are those that were found.
use Rattle.std.proofs.Common.{List, Bor, ℕ, sym, subst}
use Rattle.waves.specs.FullNames.{AreHomes}
use Rattle.waves.proofs.scoped.scoped_dump.Goals as goal

pub push_scoped_header-requires : goal.push_scoped_header-requires
push_scoped_header-requires c =
    subst (λ (homes : List (Bor (List ℕ))). AreHomes c.args.design.now.names homes) (sym c.as_slice.ensures.value) c.in_ok-homes.ensures
