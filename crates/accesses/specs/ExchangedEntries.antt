-- What a machine sees that is led along a journal.
use Rattle.std.specs.Prelude.{◌≡◌, ℕ, List, [], ◌∷◌, ◌++◌, Some}
use Rattle.std.specs.List.{All}
use Rattle.model.specs.declared.entry.Entry.{Entry}
use Rattle.model.specs.Design.{Design}
use Rattle.model.specs.States.{State}
use Rattle.model.specs.Runs.{after}
use Rattle.design.specs.Compiled.{design_of}
use Rattle.regions.specs.Machine.{MachineView, state_at}
use Rattle.accesses.specs.declared.role.Site.{Site}
use Rattle.accesses.specs.declared.role.Role.{Role}
use Rattle.accesses.specs.declared.role.Asked.{Asked}
use Rattle.accesses.specs.declared.role.Asked.TheVariants.{OfRole, InRole}
use Rattle.accesses.specs.declared.pair.Pair.{Pair}
use Rattle.accesses.specs.Roles.{IsEvent, HasRole, IsOfRole, IsOneBehind, IsRoleBehind}

-- a machine stands at the start of its design's runs
abbrev pub IsAtStart : MachineView → Type 0
IsAtStart p = after (design_of p.code) [] ≡ Some (state_at p)

-- behind whatever journal the machine stood, it stands behind that journal with these entries
abbrev pub IsLed : MachineView → List Entry → MachineView → Type 0
IsLed old entries new =
    (before : List Entry) → after (design_of old.code) before ≡ Some (state_at old) → after (design_of old.code) (before ++ entries) ≡ Some (state_at new)

-- Two entries stand in a journal: this before the first, and this from the first on before the second, without a change of the
-- regions.
pub record IsPair (journal before segment : List Entry) (one other : Entry) : Type 0 where
  pub between : List Entry
  pub behind : List Entry
  pub segment_is : segment ≡ one ∷ between
  pub journal_is : journal ≡ before ++ (segment ++ (other ∷ behind))
  pub events : All IsEvent segment

-- at this time an entry does at a site what a role says
abbrev pub HasRoleAt : Design → State → Entry → Site → ℕ → Role → Type 0
HasRoleAt design s entry site time role = (s.time ≡ time) × HasRole design s entry site role

-- two entries, the first behind one journal, the second behind that with this segment, do what a pair says
pub record SeesBoth (design : Design) (before segment : List Entry) (one other : Entry) (p : Pair) : Type 0 where
  pub first : IsRoleBehind design before one p.site p.time p.first
  pub second : IsRoleBehind design (before ++ segment) other p.site p.time p.second

-- two entries stand in a journal, and do there what a pair says
abbrev pub IsSeenPair : Design → List Entry → List Entry → List Entry → Entry → Entry → Pair → Type 0
IsSeenPair design journal before segment one other p = IsPair journal before segment one other × SeesBoth design before segment one other p

-- A second journal has, behind these entries, some without a change of the regions, and then what is left.
pub record IsParted (exchanged before middle behind : List Entry) : Type 0 where
  pub exchanged_is : exchanged ≡ before ++ (middle ++ behind)
  pub events : All IsEvent middle

-- An entry stands in a second journal behind the same entries, then these, without a change of the regions, and then another one.
pub record IsSwapped (exchanged before needed : List Entry) (other one : Entry) : Type 0 where
  pub behind : List Entry
  pub exchanged_is : exchanged ≡ before ++ (needed ++ (other ∷ one ∷ behind))
  pub events : All IsEvent needed

-- at this time an entry is one of a role
abbrev pub IsOneAt : State → Entry → Site → ℕ → Role → Type 0
IsOneAt s entry site time role = (s.time ≡ time) × IsOfRole s entry site role

-- at this time an entry is what is asked of it: one of a role, or one that does at a site what that says
abbrev pub IsAskedAt : Asked → Design → State → Entry → Site → ℕ → Role → Type 0
IsAskedAt OfRole design s entry site time role = IsOneAt s entry site time role
IsAskedAt InRole design s entry site time role = HasRoleAt design s entry site time role

-- two entries, the second role's behind these journals and the first one's right behind it, are of the roles of a pair
pub record SeesSwapped (design : Design) (before needed : List Entry) (other one : Entry) (p : Pair) : Type 0 where
  pub second : IsOneBehind design (before ++ needed) other p.site p.time p.second
  pub first : IsOneBehind design ((before ++ needed) ++ other ∷ []) one p.site p.time p.first

-- An entry is the last of a second journal, behind the same entries and then these, without a change of the regions.
pub record IsCutJournal (exchanged before needed : List Entry) (other : Entry) : Type 0 where
  pub exchanged_is : exchanged ≡ before ++ (needed ++ other ∷ [])
  pub events : All IsEvent needed

-- Two entries, the second role's behind these journals and the first one's left behind it, are of the roles of a pair, and the
-- second one does what its role says.
pub record SeesCut (design : Design) (before needed : List Entry) (other one : Entry) (p : Pair) : Type 0 where
  pub second : IsRoleBehind design (before ++ needed) other p.site p.time p.second
  pub first : IsOneBehind design ((before ++ needed) ++ other ∷ []) one p.site p.time p.first

-- two entries, the second role's behind these journals and the first one's behind it, are of the roles of a pair, and the second one is
-- what is asked of it
abbrev pub SeesExchanged : Asked → Design → List Entry → List Entry → Entry → Entry → Pair → Type 0
SeesExchanged OfRole design before needed other one p = SeesSwapped design before needed other one p
SeesExchanged InRole design before needed other one p = SeesCut design before needed other one p

-- An entry is the last of a journal, behind these, and in a second one it stands behind the same entries and then a segment that
-- another one begins, without a change of the regions.
pub record IsHeldJournal (journal exchanged before segment : List Entry) (one other : Entry) : Type 0 where
  pub between : List Entry
  pub behind : List Entry
  pub journal_is : journal ≡ before ++ one ∷ []
  pub segment_is : segment ≡ other ∷ between
  pub exchanged_is : exchanged ≡ before ++ (segment ++ (one ∷ behind))
  pub events : All IsEvent segment

-- two entries do behind a journal what a pair says, and the first one is of its role behind that with this segment too
pub record SeesHeld (design : Design) (before segment : List Entry) (one other : Entry) (p : Pair) : Type 0 where
  pub first : IsRoleBehind design before one p.site p.time p.first
  pub second : IsRoleBehind design before other p.site p.time p.second
  pub again : IsOneBehind design (before ++ segment) one p.site p.time p.first
