-- The token at the front of a text, by its first byte.
use Rattle.std.proofs.Common.{◌≡◌, ℕ, ◌<◌, ◌≤◌, Bool, true, false, leb, List, [], ◌∷◌, length, get_or, take, Ok, Err, sym, refl, ap, ◌∙◌, arith, le-leb}
use Rattle.std.proofs.lemmas.Bool.Decides.{nat_tests}
use Rattle.std.proofs.lemmas.List.Folds.{length-prefix_len}
use Rattle.std.proofs.lemmas.List.Sums.{prefix_len-le-length}
use Rattle.std.specs.List.{prefix_len}
use mathlib.Core.Option.{none, some}
use borrow.Author.Tests.{lt-leb}
use denote.Ref.{Bor}
use Rattle.model.specs.declared.tokens.Word.{Word}
use Rattle.model.specs.declared.faults.ReaderFault.TheVariants.{LargeNumber, LongName}
use Rattle.model.specs.Tokens.{word, name, number}
use Rattle.model.specs.Reading.{front, letter, digit, name_byte, same, pick, words, worth, spelled, token_at, Got, got, faulty}
use Rattle.reader.specs.declared.tokens.Token.TheVariants as TokenIs
use Rattle.reader.specs.Pieces.{token_from, ReadAs}
use Rattle.reader.proofs.Fronts.{front_prefix}

-- names

abbrev called : List ℕ → Bool → Got
called s u = elim u [ true ↦ spelled s (pick same s words) | false ↦ faulty LongName ]

name_front : (b : ℕ) (bs : List ℕ) → letter b ≡ true → front name_byte (b ∷ bs) ≡ b ∷ front name_byte bs
name_front b bs h = rw (h, front) refl

name_whole : (xs : List ℕ) → letter (get_or xs 0 0) ≡ true → token_from xs ≡ called (front name_byte xs) (leb (length (front name_byte xs)) 30)
name_whole [] is = cc
name_whole (b ∷ bs) is = rw (is, token_at) (ap (λ s. called s (leb (length s) 30)) (sym (name_front b bs is)))

name_starts : (xs : List ℕ) → letter (get_or xs 0 0) ≡ true → 0 < length (front name_byte xs)
name_starts [] is = cc
name_starts (b ∷ bs) is = omega (arith, ap length (name_front b bs is))

-- the n bytes at the front, and no more, are a name's, and the first is a letter
module _ (xs : List ℕ) (n : ℕ) (is : letter (get_or xs 0 0) ≡ true) (counted : n ≡ prefix_len name_byte xs) where
  name_run : front name_byte xs ≡ take n xs
  name_run = rw counted (front_prefix name_byte xs)

  name_len : length (take n xs) ≡ n
  name_len = rw counted (length-prefix_len name_byte xs)

  name_cut : token_from xs ≡ called (take n xs) (leb n 30)
  name_cut = name_whole xs is ∙ ap (λ s. called s (leb (length s) 30)) name_run ∙ ap (λ k. called (take n xs) (leb k 30)) name_len

  name_within : n ≤ length xs
  name_within = omega (arith, prefix_len-le-length name_byte xs)

  name_some : 0 < n
  name_some = omega (arith, name_starts xs is, ap length name_run, name_len)

  pub name_long : 30 < n → ReadAs (token_from xs) xs (Err LongName)
  name_long h = record { is = sym (name_cut ∙ ap (called (take n xs)) (lt-leb n 30 h)); fits = tt; cut = tt }

  module _ (short : n ≤ 30) where
    name_short : token_from xs ≡ spelled (take n xs) (pick same (take n xs) words)
    name_short = name_cut ∙ ap (called (take n xs)) (le-leb n 30 short)

    pub name_word : (w : Word) → some w ≡ pick same (take n xs) words → ReadAs (token_from xs) xs (Ok (record { token = TokenIs.Word w; len = n }))
    name_word w e = record { is = sym (name_short ∙ ap (spelled (take n xs)) (sym e) ∙ ap (got (word w)) name_len); fits = (name_some, name_within, tt); cut = tt }

    pub name_other : (s : Bor (List ℕ)) → s.now ≡ take n xs → none ≡ pick same (take n xs) words → ReadAs (token_from xs) xs (Ok (record { token = TokenIs.Name s; len = n }))
    name_other s h e =
        let long : length s.now ≡ n = ap length h ∙ name_len in
        record {
          is = rw h (sym (name_short ∙ ap (spelled (take n xs)) (sym e) ∙ ap (got (name (take n xs))) name_len));
          fits = (name_some, name_within, (omega (arith, name_some, long), omega (arith, long)));
          cut = h ∙ ap (λ k. take k xs) (sym long);
        }

-- numbers

abbrev counted : List ℕ → Bool → Got
counted s u = elim u [ true ↦ got (number (worth 0 s)) (length s) | false ↦ faulty LargeNumber ]

number_front : (b : ℕ) (bs : List ℕ) → digit b ≡ true → front digit (b ∷ bs) ≡ b ∷ front digit bs
number_front b bs h = rw (h, front) refl

-- a digit is no letter
unlike : (b : ℕ) → digit b ≡ true → letter b ≡ false
unlike b h = grind (arith, nat_tests)

number_whole : (xs : List ℕ) → digit (get_or xs 0 0) ≡ true → token_from xs ≡ counted (front digit xs) (leb (worth 0 (front digit xs)) 2147483647)
number_whole [] is = cc
number_whole (b ∷ bs) is = rw (unlike b is, token_at) (rw is (ap (λ s. counted s (leb (worth 0 s) 2147483647)) (sym (number_front b bs is))))

number_starts : (xs : List ℕ) → digit (get_or xs 0 0) ≡ true → 0 < length (front digit xs)
number_starts [] is = cc
number_starts (b ∷ bs) is = omega (arith, ap length (number_front b bs is))

-- the n bytes at the front, and no more, are digits, and the first is one
module _ (xs : List ℕ) (n : ℕ) (is : digit (get_or xs 0 0) ≡ true) (run : n ≡ prefix_len digit xs) where
  number_run : front digit xs ≡ take n xs
  number_run = rw run (front_prefix digit xs)

  number_len : length (take n xs) ≡ n
  number_len = rw run (length-prefix_len digit xs)

  number_cut : token_from xs ≡ counted (take n xs) (leb (worth 0 (take n xs)) 2147483647)
  number_cut = number_whole xs is ∙ ap (λ s. counted s (leb (worth 0 s) 2147483647)) number_run

  pub number_fits : (v : ℕ) → v ≡ worth 0 (take n xs) → v ≤ 2147483647 → ReadAs (token_from xs) xs (Ok (record { token = TokenIs.Number v; len = n }))
  number_fits v e h = record {
    is = sym (number_cut ∙ ap (counted (take n xs)) (ap (λ k. leb k 2147483647) (sym e) ∙ le-leb v 2147483647 h)
        ∙ ap (λ k. got (number k) (length (take n xs))) (sym e) ∙ ap (got (number v)) number_len);
    fits = (omega (arith, number_starts xs is, ap length number_run, number_len), omega (arith, prefix_len-le-length digit xs), h);
    cut = tt;
  }

  pub number_big : 2147483647 < worth 0 (take n xs) → ReadAs (token_from xs) xs (Err LargeNumber)
  number_big h = record { is = sym (number_cut ∙ ap (counted (take n xs)) (lt-leb (worth 0 (take n xs)) 2147483647 h)); fits = tt; cut = tt }
