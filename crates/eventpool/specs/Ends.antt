-- The data of a deque's ends.
use Rattle.std.specs.Prelude.{ℕ, List}
use Rattle.std.specs.declared.alloc.Global.{Global}

-- which deque it is
abbrev pub DequeId : Type 0
DequeId = (ℕ × ℕ) × Global

-- an owner: how many names it gave, what it put, what it took, the trail that it saw, and the hands that came back
pub record Owning (T : Type 0) : Type 0 where
  pub deque : DequeId
  pub given : ℕ
  pub put : List T
  pub taken : List T
  pub seen : List (ℕ × T)
  pub back : List (List T × List (ℕ × T))

-- a thief: its name, what it stole, the trail that it saw, and how many tickets it knows to have left
pub record Stealing (T : Type 0) : Type 0 where
  pub deque : DequeId
  pub name : ℕ
  pub stolen : List T
  pub seen : List (ℕ × T)
  pub gone : ℕ

-- which owner of a pool it is: no call of `put` or `take` changes that
abbrev pub owner_card : {T : Type 0} → Owning T → DequeId × ℕ × List (List T × List (ℕ × T))
owner_card o = (o.deque, o.given, o.back)

-- which thief of a pool it is: no steal changes that
abbrev pub thief_card : {T : Type 0} → Stealing T → DequeId × ℕ
thief_card t = (t.deque, t.name)
