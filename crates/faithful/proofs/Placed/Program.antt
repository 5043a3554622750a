-- The table of a well-scoped program: what stands at its two ends, and that routines and body stand between them.
use mathlib.Core.Path.{◌≡◌, refl, subst}
use mathlib.Core.List.{List, [], ◌∷◌}
use Prim.Native.Nat.{ℕ, suc, ◌+◌, ◌-◌, ◌≤◌}
use native.Mathlib.Nat.{zero-add}
use native.Mathlib.Omega.{arith}
use Rattle.model.specs.declared.table.Entry.{Entry}
use Rattle.model.specs.Tree.{Block, block}
use Rattle.model.specs.Code.{entry, plain, Laid, inside, contents, of_routines, of_program, reach, reach_of}
use Rattle.model.specs.Person.{body_of, routines_of}
use Rattle.model.specs.Codes.{ALLOC, DALLOC, HLT, START}
use Rattle.model.specs.Promise.{Each}
use Rattle.faithful.proofs.Placed.Bodies.{Agrees}
use Rattle.faithful.proofs.Placed.Standing.{AroundStands, CmdStands, JumpStands}
use Rattle.faithful.proofs.Placed.Lengths.{EntriesAt, table_entries}
use Rattle.faithful.proofs.Placed.Addresses.{Frames, after_cmd, body_at, frame}
use Rattle.faithful.proofs.Placed.Entries.{SoundEntry, each_append, sound_allocate, sound_halt, sound_release, sound_start}
use Rattle.faithful.proofs.Ideal.Machine.{Table, table}
use Rattle.faithful.proofs.Scoped.Trees.{WellScoped, declared}
use Rattle.faithful.proofs.Placed.Routines.{contents_stand, routines_stand}

abbrev pub place_of : Block → ℕ
place_of (block p r k rs c) = p

-- the entry at which the program's body begins, and the one behind it
abbrev pub body_begin : Block → ℕ
body_begin b = body_at (routines_of b) 2

abbrev pub body_end : Block → ℕ
body_end b = after_cmd (body_of b) (body_begin b)

-- the program is the only block around its body
abbrev pub program_frame : Block → Frames
program_frame b = frame b 3 ∷ []

pub record ProgramStands (b : Block) : Type 0 where
  pub fixed : 1 ≤ reach 1 b
  pub sound : Each (SoundEntry (reach 1 b)) (of_program b)
  pub start : table (of_program b) 0 ≡ plain START (place_of b)
  pub allocate : table (of_program b) 1 ≡ entry ALLOC 0 (reach 1 b) (place_of b)
  pub jump : JumpStands (table (of_program b)) (routines_of b) (place_of b) 2
  pub around : AroundStands (table (of_program b)) (program_frame b)
  pub body : CmdStands (table (of_program b)) (program_frame b) (body_of b) (body_begin b)
  pub release : table (of_program b) (body_end b) ≡ entry DALLOC 0 (reach 1 b) (place_of b)
  pub halt : table (of_program b) (suc (body_end b)) ≡ plain HLT (place_of b)

pub program_stands : (b : Block) → WellScoped b → ProgramStands b
program_stands (block p r k rs c) ok =
    let B : Block = block p r k rs c in
    let E : List Entry = of_program B in
    let V : ℕ = reach 1 B in
    let T : Table = table E in
    let l : Laid = inside [] k in
    let le1 : 1 + k ≤ V = omega arith in
    let le2 : reach_of (1 + k) rs ≤ V = omega arith in
    let last : List Entry = entry DALLOC 0 V p ∷ plain HLT p ∷ [] in
    let at : EntriesAt T 0 E = table_entries E in
    let agrees : Agrees (declared k [] ∷ []) (l ∷ []) (program_frame B) =
    (refl, refl, refl, λ w lt. absurd (omega arith), tt) in
    let x = contents_stand T V [] [] [] B 2 p rs c l last agrees le1 ok.2
    (λ m1 a2. routines_stand T V [] [] [] B 3 l [] rs 3 m1 agrees refl (λ w h. rw zero-add (h, refl, refl)) ok.1
    le2 a2) at.1.1 in
    let v : ℕ = V - 1 in
    let e : suc v ≡ V = omega arith in
    let ends : Each (SoundEntry V) last = (
      subst (λ z. SoundEntry V (entry DALLOC 0 z p)) e (sound_release {m = 0} {n = v} (omega arith)),
      (sound_halt, tt),
    ) in
    record {
      fixed = omega arith;
      sound = (
        sound_start,
        (
          subst (λ z. SoundEntry V (entry ALLOC 0 z p)) e (sound_allocate {m = 0} {n = v} (omega arith)),
          each_append (SoundEntry V) (contents [] 2 p rs (of_routines [] l 3 rs) c l) last x.sound ends,
        ),
      );
      start = at.0;
      allocate = at.1.0;
      jump = x.jump;
      around = (x.inner, tt);
      body = x.body;
      release = x.behind.0;
      halt = x.behind.1.0;
    }
