-- What looks like a word spells the reserved word that the list has for it, or else a name.
use Rattle.std.proofs.Common.{◌≡◌, ℕ, ◌≤◌, Bool, false, ◌&&◌, List, [], ◌∷◌, length, refl}
use mathlib.Core.Option.{Option, none, some}
use borrow.Author.Tests.{clash}
use Rattle.std.proofs.lemmas.Bool.{and_parts}
use Rattle.model.specs.declared.tokens.Word.{Word}
use Rattle.model.specs.Tokens.{word, Token, name}
use Rattle.model.specs.Reading.{pick, same, words, letter, name_byte}
use Rattle.reading.specs.Spelling.{WordLike, Spells, named, reserved, Entry}
use Rattle.reading.proofs.Tables.{the_listed_are_not_passed_over, the_picked_is_listed, an_entry_passes}
use Rattle.reading.proofs.Fronts.{all_pass, tested_all}

-- the token of a word, by what is picked from the list
abbrev pub word_or_name : List ℕ → Option Word → Token
word_or_name s none = name s
word_or_name s (some w) = word w

pub a_word_spells :
    (s : List ℕ) → WordLike s → length s ≤ 30 → (o : Option Word) → pick same s words ≡ o → Spells s (word_or_name s o)
a_word_spells s w h none e = named w (λ v i. the_listed_are_not_passed_over s words i e) h
a_word_spells s w h (some v) e = reserved v (the_picked_is_listed s v words e)

-- as a test
abbrev word_like : List ℕ → Bool
word_like [] = false
word_like (b ∷ bs) = letter b && all_pass name_byte bs

pub a_listed_word_is_word_like : (s : List ℕ) (w : Word) → Entry s w words → WordLike s
a_listed_word_is_word_like [] w i = clash (an_entry_passes word_like i refl)
a_listed_word_is_word_like (b ∷ s) w i =
    let p = and_parts (letter b) (all_pass name_byte s) (an_entry_passes word_like i refl) in
    (p.0, tested_all name_byte s p.1)
