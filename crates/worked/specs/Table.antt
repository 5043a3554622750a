-- The table of worked examples. Assumes nothing.
use Rattle.std.specs.Prelude.{List, [], ◌∷◌, ◌++◌, ℕ, codes, pos, negsuc, replicate}
use Rattle.model.specs.Codes.{START, HLT, LDC, LDV, STR, ADD, RD, PRN, ALLOC, DALLOC}
use Rattle.model.specs.Code.{entry, plain}
use Rattle.worked.specs.Facts.{Fact, becomes, is_refused, runs, follows, running, ended, stopped, finished, faulty_at, tired}

-- ── texts ───────────────────────────────────────────────────────────────────────────────────

abbrev pub one_more : List ℕ
one_more = codes "programa p; var x: inteiro; inicio leia(x); x := x + 1; escreva(x) fim."

-- a program that sets x to what the expression yields, and writes it
abbrev pub writing : List ℕ → List ℕ
writing expression = codes "programa p; var x: inteiro; inicio x := " ++ expression ++ codes "; escreva(x) fim."

-- f sets itself to 3, and then calls g, which yields 9
abbrev pub own_result : List ℕ
own_result =
    codes "programa p; var x: inteiro; funcao g: inteiro; inicio g := 9 fim; funcao f: inteiro; var y: inteiro; inicio f := 3; y := g fim; inicio x := f; escreva(x) fim."

-- the factorial of 3, by a function that counts n down before it calls itself
abbrev pub factorial : List ℕ → List ℕ
factorial product =
    codes "programa p; var n, x: inteiro; funcao fat: inteiro; inicio se n < 2 entao fat := 1 senao inicio n := n - 1; fat := "
    ++ product ++ codes " fim fim; inicio n := 3; x := fat; escreva(x) fim."

-- a program whose name is the letter a, n times
abbrev pub named : ℕ → List ℕ
named n = codes "programa " ++ replicate n 97 ++ codes "; var x: inteiro; inicio leia(x) fim."

-- n brackets around a number, in a body
abbrev pub nested : ℕ → List ℕ
nested n = writing (replicate n 40 ++ codes "1" ++ replicate n 41)

-- ── facts ───────────────────────────────────────────────────────────────────────────────────

abbrev pub examples : List Fact
examples =
    becomes one_more (
    plain START 0 ∷ entry ALLOC 0 2 0 ∷ plain RD 35 ∷ entry STR 1 0 40 ∷ entry LDV 1 0 49 ∷ entry LDC 1 0 53
    ∷ plain ADD 51 ∷ entry STR 1 0 44 ∷ entry LDV 1 0 64 ∷ plain PRN 56 ∷ entry DALLOC 0 2 0 ∷ plain HLT 0 ∷ []
    )
    ∷ runs one_more 4 (pos 41 ∷ []) (100 ∷ []) (ended 12 ∷ []) (pos 42 ∷ [])
    ∷ follows one_more 0 (pos 41 ∷ []) (finished (pos 42 ∷ []))
    -- three cells are too few, and four will do for any slices of the budget
    ∷ runs one_more 3 (pos 41 ∷ []) (100 ∷ []) (stopped 64 5 53 5 ∷ []) []
    ∷ runs one_more 4 (pos 41 ∷ []) (5 ∷ 100 ∷ []) (running 5 ∷ ended 7 ∷ []) (pos 42 ∷ [])
    -- nothing waits
    ∷ runs one_more 4 [] (100 ∷ []) (stopped 62 2 35 2 ∷ []) []
    ∷ follows one_more 0 [] (faulty_at 62 35 [])
    -- first faults
    ∷ is_refused [] 21 0
    ∷ is_refused (codes "programa p; inicio x := 1 fim.") 30 19
    -- the greatest number, and one more
    ∷ runs (writing (codes "2147483647")) 3 [] (100 ∷ []) (ended 8 ∷ []) (pos 2147483647 ∷ [])
    ∷ follows (writing (codes "2147483647")) 0 [] (finished (pos 2147483647 ∷ []))
    ∷ is_refused (writing (codes "2147483648")) 12 40
    -- a name of 30 bytes, and one of 31
    ∷ runs (named 30) 3 (pos 5 ∷ []) (100 ∷ []) (ended 6 ∷ []) []
    ∷ is_refused (named 31) 13 9
    -- nesting of 64, and of 65: the body is a level too
    ∷ runs (nested 63) 3 [] (100 ∷ []) (ended 8 ∷ []) (pos 1 ∷ [])
    ∷ is_refused (nested 64) 22 103
    -- a quotient drops its fraction
    ∷ runs (writing (codes "-7 div 2")) 4 [] (100 ∷ []) (ended 11 ∷ []) (negsuc 2 ∷ [])
    ∷ follows (writing (codes "-7 div 2")) 0 [] (finished (negsuc 2 ∷ []))
    -- the lowest value, and one less
    ∷ runs (writing (codes "-2147483647 - 1")) 4 [] (100 ∷ []) (ended 11 ∷ []) (negsuc 2147483647 ∷ [])
    ∷ follows (writing (codes "-2147483647 - 1")) 0 [] (finished (negsuc 2147483647 ∷ []))
    ∷ runs (writing (codes "-2147483647 - 2")) 4 [] (100 ∷ []) (stopped 61 5 52 5 ∷ []) []
    ∷ follows (writing (codes "-2147483647 - 2")) 0 [] (faulty_at 61 52 [])
    -- a function yields its own result
    ∷ runs own_result 10 [] (100 ∷ []) (ended 27 ∷ []) (pos 3 ∷ [])
    ∷ follows own_result 2 [] (finished (pos 3 ∷ []))
    -- the left operand is taken before the call changes n, or after
    ∷ runs (factorial (codes "(n + 1) * fat")) 20 [] (100 ∷ []) (ended 64 ∷ []) (pos 6 ∷ [])
    ∷ follows (factorial (codes "(n + 1) * fat")) 3 [] (finished (pos 6 ∷ []))
    ∷ runs (factorial (codes "fat * (n + 1)")) 20 [] (100 ∷ []) (ended 64 ∷ []) (pos 4 ∷ [])
    ∷ follows (factorial (codes "fat * (n + 1)")) 3 [] (finished (pos 4 ∷ []))
    -- each of the three calls takes a turn
    ∷ follows (factorial (codes "fat * (n + 1)")) 2 [] tired
    ∷ []
