-- What a host means to the machine, and what a take and a put do to that.
use Rattle.std.specs.Prelude.{ℕ, zero, suc, List, [], ◌∷◌, ◌++◌, ℤ, Some, None, Ok, Err, Option, Result}
use Rattle.host.specs.declared.PutRefusal.{PutRefusal}
use Rattle.host.specs.declared.PutRefusal.TheVariants.{Full}

-- the values that wait to be taken, those written so far, and how many more are accepted
pub record Meaning : Type 0 where
  pub waiting : List ℤ
  pub written : List ℤ
  pub room : ℕ

-- a host that nothing was taken from or put to yet
abbrev pub fresh : List ℤ → ℕ → Meaning
fresh vs n = record { waiting = vs; written = []; room = n }

abbrev pub first_of : List ℤ → Option ℤ
first_of [] = None
first_of (v ∷ vs) = Some v

abbrev pub rest_of : List ℤ → List ℤ
rest_of [] = []
rest_of (v ∷ vs) = vs

-- a take answers the first value that waits, or none exactly where nothing waits
abbrev pub take_answer : Meaning → Option ℤ
take_answer m = first_of m.waiting

-- a take removes that value, and touches no more
abbrev pub after_take : Meaning → Meaning
after_take m = record { waiting = rest_of m.waiting; written = m.written; room = m.room }

-- a put is refused exactly where there is no room
abbrev pub answer_at : ℕ → Result (Unit {0}) PutRefusal
answer_at zero = Err Full
answer_at (suc n) = Ok tt

abbrev pub put_answer : Meaning → Result (Unit {0}) PutRefusal
put_answer m = answer_at m.room

-- a put adds the value at the end and lowers the room by one, or changes nothing where there is none
abbrev pub meaning_at : ℕ → Meaning → ℤ → Meaning
meaning_at zero m v = m
meaning_at (suc n) m v = record { waiting = m.waiting; written = m.written ++ (v ∷ []); room = n }

abbrev pub after_put : Meaning → ℤ → Meaning
after_put m v = meaning_at m.room m v

-- whatever R says of a host since some moment up to the state a, it says up to the state b too
abbrev pub Stays : {H : Type 0} → (H → H → Type 0) → H → H → Type 0
Stays {H} R a b = (h : H) → R h a → R h b
