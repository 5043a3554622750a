-- Values that are written one after the other are a span of memory that is copied or blanked at once.
use Rattle.std.proofs.Common.{◌≡◌, ℕ, ◌+◌, ◌≤◌, List, [], ◌∷◌, ◌++◌, length, take, drop, set, replicate, ℤ, pos, sym, refl, ap, ◌∙◌, arith}
use lib.Seq.{sets, sets-eq}
use Rattle.std.proofs.lemmas.List.Edits.{length-paste}
use Rattle.std.proofs.lemmas.List.{length-replicate, length-take-le, length-drop, take_all}
use Rattle.model.specs.Machine.{write, cut}
use Rattle.pile.specs.Piles.{copied, blanked}

write_sets : (mem : List ℤ) (a : ℕ) (vs : List ℤ) → write mem a vs ≡ sets mem a vs
write_sets mem a [] = refl
write_sets mem a (v ∷ vs) = write_sets (set mem a v) _ vs

-- n values, written one after the other
write_run : (mem : List ℤ) (a : ℕ) (vs : List ℤ) (n : ℕ) → length vs ≡ n → a + n ≤ length mem → write mem a vs ≡ take a mem ++ vs ++ drop (a + n) mem
write_run mem a vs n e h =
    write_sets mem a vs ∙ sets-eq vs mem a (omega (arith, e)) ∙ ap (λ k. take a mem ++ vs ++ drop (a + k) mem) e

pub write_blanks : (mem : List ℤ) (a n : ℕ) → a + n ≤ length mem → write mem a (replicate n (pos 0)) ≡ blanked mem a n (pos 0)
write_blanks mem a n h =
    let zeros = replicate n (pos 0) in
    let long : length zeros ≡ n = length-replicate n (pos 0) in
    write_run mem a zeros n long h ∙ ap (λ vs. take a mem ++ vs ++ drop (a + n) mem) (sym (take_all n zeros (omega (arith, long))))

pub write_copies : (mem : List ℤ) (from to n : ℕ) → from + n ≤ length mem → to + n ≤ length mem → write mem to (cut mem from n) ≡ copied mem from to n
write_copies mem from to n hf ht = write_run mem to (cut mem from n) n (length-take-le n (drop from mem) (simp length-drop (omega arith))) ht

-- the cells from a on are saved on top of the filled ones, and blanked
pub write_saves : (mem : List ℤ) (a fill n : ℕ) → a + n ≤ fill → fill + n ≤ length mem → write (write mem fill (cut mem a n)) a (replicate n (pos 0)) ≡ blanked (copied mem a fill n) a n (pos 0)
write_saves mem a fill n ha hf =
    let long : length (copied mem a fill n) ≡ length mem = length-paste mem fill (drop a mem) n hf (simp length-drop (omega arith)) in
    ap (λ ys. write ys a (replicate n (pos 0))) (write_copies mem a fill n (omega arith) hf) ∙ write_blanks (copied mem a fill n) a n (omega (arith, long))
