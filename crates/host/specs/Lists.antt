-- What a host over lists means, and what its calls leave alone.
use Rattle.std.specs.Prelude.{◌≡◌, ℕ, ◌+◌, ◌-◌, List, length, take, drop, ℤ}
use Rattle.std.specs.Borrow.{MutBor}
use Rattle.host.specs.Meaning.{Meaning}
use Rattle.host.specs.Memory.{over}
use Rattle.host.specs.declared.lists.ListHost.{ListHost}

-- the list that it takes from, how many values of that it took, and the list that it writes to
abbrev pub list_source : ListHost → List ℤ
list_source h = h.source.now

abbrev pub list_taken : ListHost → ℕ
list_taken h = h.taken

abbrev pub list_sink : ListHost → List ℤ
list_sink h = h.sink.now

-- it writes to the memory that is lent here
abbrev pub ListOver : MutBor (List ℤ) → ListHost → Type 0
ListOver lent h = h.sink.ghost_name ≡ lent.ghost_name

-- the values past those taken wait, the front of the sink is written, and what is left of the sink is room
abbrev pub list_meaning : ListHost → Meaning
list_meaning h =
    record { waiting = drop h.taken h.source.now; written = take h.filled h.sink.now; room = length h.sink.now - h.filled }

-- a host at an earlier moment a and at a later one b
pub record ListSince (a b : ListHost) : Type 0 where
  -- the memory that it writes to is the same, by the name of its loan, and so is the list that it takes from
  pub memory : b.sink.ghost_name ≡ a.sink.ghost_name
  pub reads : b.source.now ≡ a.source.now
  -- the sink holds the values written, and past them what it held
  pub holds : b.sink.now ≡ over (list_meaning b).written a.sink.now
  -- each value that was taken since is one that no longer waits
  pub counts : b.taken + length (list_meaning b).waiting ≡ a.taken + length (list_meaning a).waiting
