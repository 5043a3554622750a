-- What a take and a put do to a meaning, from whether a value waits and whether there is room.
use Rattle.std.proofs.Common.{◌≡◌, ℕ, suc, ◌+◌, List, [], ◌∷◌, ◌++◌, length, ℤ, Some, Ok, arith}
use Rattle.host.specs.Meaning.{Meaning, take_answer, after_take, put_answer, after_put}

-- a value waits
pub first_where_one_waits : (m : Meaning) (v : ℤ) (vs : List ℤ) → m.waiting ≡ v ∷ vs → Some v ≡ take_answer m
first_where_one_waits m v vs e = rw e

pub rest_where_one_waits : (m : Meaning) (v : ℤ) (vs : List ℤ) → m.waiting ≡ v ∷ vs → record { waiting = vs; written = m.written; room = m.room } ≡ after_take m
rest_where_one_waits m v vs e = rw e

-- there is room
pub ok_where_room : (m : Meaning) (n : ℕ) → m.room ≡ suc n → Ok tt ≡ put_answer m
ok_where_room m n e = rw e

pub written_where_room : (m : Meaning) (v : ℤ) (vs : List ℤ) (n k : ℕ) → m.room ≡ suc n → k ≡ n → vs ≡ m.written ++ (v ∷ []) → record { waiting = m.waiting; written = vs; room = k } ≡ after_put m v
written_where_room m v vs n k e f w = rw (e, f, w)

-- what is taken and what waits are together as many before a take as after it
pub one_more_taken : (t : ℕ) (v : ℤ) (ws vs : List ℤ) → ws ≡ v ∷ vs → t + 1 + length vs ≡ t + length ws
one_more_taken t v ws vs e = rw e (omega arith)
