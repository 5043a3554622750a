-- What a host that counts down, and has room for one value, means.
use Rattle.std.specs.Prelude.{ℕ, zero, suc, List, [], ◌∷◌, ℤ, pos, Some, None, Option}
use Rattle.host.specs.Meaning.{Meaning}
use Rattle.host_tests.specs.declared.counting.Countdown.{Countdown}

abbrev pub down_from : ℕ → List ℤ
down_from zero = []
down_from (suc n) = pos (suc n) ∷ down_from n

abbrev pub kept_values : Option ℤ → List ℤ
kept_values None = []
kept_values (Some v) = v ∷ []

abbrev pub kept_room : Option ℤ → ℕ
kept_room None = 1
kept_room (Some v) = 0

abbrev pub count_meaning : Countdown → Meaning
count_meaning h = record { waiting = down_from h.next; written = kept_values h.last; room = kept_room h.last }
