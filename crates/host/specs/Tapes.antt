-- What a host over tapes of bytes means, and what its calls leave alone.
use Rattle.std.specs.Prelude.{◌≡◌, ℕ, ◌+◌, ◌-◌, ◌*◌, ◌/◌, ◌%◌, cond, List, [], ◌∷◌, ◌++◌, length, take, drop, ℤ, ◌==◌}
use Rattle.std.specs.Borrow.{MutBor}
use Rattle.std.specs.Int.{w32}
use Rattle.std.proofs.Common.{to_z, of_z}
use Rattle.host.specs.Meaning.{Meaning}
use Rattle.host.specs.Memory.{over}
use Rattle.host.specs.declared.tapes.TapeHost.{TapeHost}

-- a value in two's complement, highest byte first, and the value of four such bytes
abbrev pub four_of : ℤ → List ℕ
four_of v = (of_z w32 v / 16777216 % 256) ∷ (of_z w32 v / 65536 % 256) ∷ (of_z w32 v / 256 % 256) ∷ (of_z w32 v % 256) ∷ []

abbrev pub value_of : ℕ → ℕ → ℕ → ℕ → ℤ
value_of a b c d = to_z w32 (a * 16777216 + b * 65536 + c * 256 + d)

-- the tape of some values: each is the byte 86 and four more
abbrev pub tape_of : List ℤ → List ℕ
tape_of [] = []
tape_of (v ∷ vs) = 86 ∷ (four_of v ++ tape_of vs)

-- the values that a tape begins with: they end at fewer than five bytes, or at a first byte that is not 86
abbrev pub values_of : List ℕ → List ℤ
values_of [] = []
values_of (m ∷ []) = []
values_of (m ∷ a ∷ []) = []
values_of (m ∷ a ∷ b ∷ []) = []
values_of (m ∷ a ∷ b ∷ c ∷ []) = []
values_of (m ∷ a ∷ b ∷ c ∷ d ∷ rest) = cond (m == 86) (value_of a b c d ∷ values_of rest) []

-- the value of each whole five of bytes, whatever its first byte
abbrev pub fives_of : List ℕ → List ℤ
fives_of [] = []
fives_of (m ∷ []) = []
fives_of (m ∷ a ∷ []) = []
fives_of (m ∷ a ∷ b ∷ []) = []
fives_of (m ∷ a ∷ b ∷ c ∷ []) = []
fives_of (m ∷ a ∷ b ∷ c ∷ d ∷ rest) = value_of a b c d ∷ fives_of rest

-- the tape that it takes from, how many values of that it took, and the tape that it writes to
abbrev pub tape_source : TapeHost → List ℕ
tape_source h = h.source.now

abbrev pub tape_taken : TapeHost → ℕ
tape_taken h = h.taken

abbrev pub tape_sink : TapeHost → List ℕ
tape_sink h = h.sink.now

-- it writes to the memory that is lent here
abbrev pub TapeOver : MutBor (List ℕ) → TapeHost → Type 0
TapeOver lent h = h.sink.ghost_name ≡ lent.ghost_name

-- the bytes written
abbrev pub tape_written : TapeHost → List ℕ
tape_written h = take (5 * h.filled) h.sink.now

-- the values past those taken wait, the fives of the bytes written are written, and a fifth of the other bytes is room
abbrev pub tape_meaning : TapeHost → Meaning
tape_meaning h =
    record {
      waiting = values_of (drop (5 * h.taken) h.source.now);
      written = fives_of (tape_written h);
      room = (length h.sink.now - 5 * h.filled) / 5;
    }

-- the bytes written are the tape of the values written: each five begins with 86
abbrev pub Marked : TapeHost → Type 0
Marked h = tape_written h ≡ tape_of (tape_meaning h).written

-- a host at an earlier moment a and at a later one b
pub record TapeSince (a b : TapeHost) : Type 0 where
  -- the memory that it writes to is the same, by the name of its loan, and so is the tape that it takes from
  pub memory : b.sink.ghost_name ≡ a.sink.ghost_name
  pub reads : b.source.now ≡ a.source.now
  -- the sink holds the bytes written, and past them what it held
  pub holds : b.sink.now ≡ over (tape_written b) a.sink.now
  -- each five that was written since begins with 86
  pub marks : Marked a → Marked b
  -- each value that was taken since is one that no longer waits
  pub counts : b.taken + length (tape_meaning b).waiting ≡ a.taken + length (tape_meaning a).waiting
