-- The code of well-scoped routines stands where it should, and names fixed cells alone.
use mathlib.Core.Path.{◌≡◌, refl, sym, ◌∙◌, ap, subst}
use mathlib.Core.List.{List, [], ◌∷◌, ◌++◌, append_assoc, append-nil}
use mathlib.Core.Bool.{Bool, false}
use Prim.Native.Nat.{ℕ, zero, suc, ◌+◌, ◌≤◌, ◌<◌}
use native.Mathlib.Nat.{add-suc, suc-add, add-zero, zero-add}
use native.Mathlib.Decide.{dec_lt}
use native.Mathlib.Omega.{arith}
use native.Mathlib.Numerals.{add-one}
use lib.ListN.{length, get_or, length-append, get_or-append}
use lib.Seq.{get_or-append_seam, get_or_at}
use Rattle.model.specs.declared.table.Entry.{Entry}
use Rattle.model.specs.Tree.{Cmd, Role, Block, Routines, block, no_more, routine, program, procedure, function}
use Rattle.model.specs.Code.{entry, plain, Laid, of_cmd, with_begin, enter, leave, hand_over, contents, RoutineCode, inside, of_routine, of_routines, reach, reach_of}
use Rattle.model.specs.Person.{own_cells, routines_of, nth_routine}
use Rattle.model.specs.Codes.{JMP, RETURN}
use Rattle.model.specs.Promise.{Each}
use Rattle.faithful.proofs.Ideal.Machine.{Table}
use Rattle.faithful.proofs.Placed.Addresses.{after_cmd, past_hand_over, past_enter, body_at, after_routines, after_routine, frame, Frames, first_free, nth_begin, HasNth}
use Rattle.faithful.proofs.Scoped.Trees.{is_function_block, Declared, declared, CmdScoped, BlockScoped, RoutinesScoped, function_flags, ResultHasCell}
use Rattle.faithful.proofs.Placed.Standing.{CmdStands, RoutineStands, RoutinesStand, EnterStands, JumpStands, HandOverStands, LeaveStands}
use Rattle.faithful.proofs.Following.Chain.{first_free_positive}
use Rattle.faithful.proofs.Placed.Lengths.{EntriesAt, enter_length, routine_length, routines_length}
use Rattle.faithful.proofs.Placed.Entries.{SoundEntry, sound_load, sound_store, sound_jump, sound_allocate, sound_release, sound_return, each_append}
use Rattle.faithful.proofs.Placed.Bodies.{Agrees, entries_assoc, cmd_stands, cmd_sound}

-- ── a routine's first and last entries ──────────────────────────────────────────────────────

enter_stands : (T : Table) (m k p q : ℕ) (more : List Entry) → EntriesAt T q (enter m k p ++ more) →
    EnterStands T m k p q × EntriesAt T (past_enter k q) more
enter_stands T m zero p q more a = (tt, a)
enter_stands T m (suc k) p q more a = (a.0, a.1)

leave_stands : (T : Table) (m k p q : ℕ) (more : List Entry) → EntriesAt T q (leave m k p ++ more) →
    LeaveStands T m k p q × EntriesAt T (past_enter k q) more
leave_stands T m zero p q more a = (tt, a)
leave_stands T m (suc k) p q more a = (a.0, a.1)

hand_over_stands : (T : Table) (r : Role) (m p q : ℕ) (more : List Entry) →
    EntriesAt T q (hand_over r m p ++ more) → HandOverStands T r m p q × EntriesAt T (past_hand_over r q) more
hand_over_stands T program m p q more a = (tt, a)
hand_over_stands T procedure m p q more a = (tt, a)
hand_over_stands T (function y) m p q more a = ((a.0, a.1.0), a.1.1)

enter_sound : (V m k p : ℕ) → m + k ≤ V → Each (SoundEntry V) (enter m k p)
enter_sound V m zero p le = tt
enter_sound V m (suc k) p le = (sound_allocate le, tt)

leave_sound : (V m k p : ℕ) → m + k ≤ V → Each (SoundEntry V) (leave m k p)
leave_sound V m zero p le = tt
leave_sound V m (suc k) p le = (sound_release le, tt)

hand_over_sound : (V : ℕ) (r : Role) (m k p : ℕ) → ResultHasCell r k → 1 ≤ m → m + k ≤ V →
    Each (SoundEntry V) (hand_over r m p)
hand_over_sound V program m k p o h le = tt
hand_over_sound V procedure m k p o h le = tt
hand_over_sound V (function y) m k p o h le =
    let z = o refl in (sound_load (omega arith), (sound_store (omega arith), tt))

-- ── what is visible in a block ──────────────────────────────────────────────────────────────

-- a block inside others: its cells follow theirs
inside_agrees : (Δ : List Declared) (ls : List Laid) (Γ : Frames) (k : ℕ) → Agrees Δ ls Γ →
    ((inside ls k).first ≡ first_free Γ) × ((inside ls k).cells ≡ k) × ((inside ls k).begins ≡ [])
inside_agrees [] [] [] k m = (refl, refl, refl)
inside_agrees [] [] (f ∷ Γ) k m = absurd m
inside_agrees [] (l ∷ ls) Γ k m = absurd m
inside_agrees (o ∷ Δ) [] Γ k m = absurd m
inside_agrees (o ∷ Δ) (l ∷ ls) [] k m = absurd m
inside_agrees (o ∷ Δ) (l ∷ ls) (frame b q ∷ Γ) k m = (rw (m.1, m.2), refl, refl)

-- rs are the routines of a block from number k on, and begin at q, where the first of all begins at q0
abbrev RestOf : Routines → ℕ → ℕ → Routines → ℕ → Type 0
RestOf all q0 k rs q =
    (w : ℕ) → HasNth rs w → HasNth all (k + w) × (nth_routine (k + w) all ≡ nth_routine w rs)
    × (nth_begin all q0 (k + w) ≡ nth_begin rs q w)

rest_next : (all : Routines) (q0 k : ℕ) (b : Block) (rs : Routines) (q : ℕ) → RestOf all q0 k (routine b rs) q →
    RestOf all q0 (suc k) rs (after_routine b q)
rest_next all q0 k b rs q s w h = rw (suc-add, ← add-suc) (s (suc w) h)

-- behind a routine's head one routine more is visible
routine_more : (Δ : List Declared) (ls : List Laid) (Γ : Frames) (B : Block) (q0 : ℕ) (seen : List Bool) (l : Laid)
    (b : Block) (rs : Routines) (q : ℕ) →
    Agrees (declared (own_cells B) seen ∷ Δ) (l ∷ ls) (frame B q0 ∷ Γ) → length l.begins ≡ length seen →
    RestOf (routines_of B) q0 (length seen) (routine b rs) q →
    Agrees (declared (own_cells B) (seen ++ is_function_block b ∷ []) ∷ Δ) (with_begin l q ∷ ls) (frame B q0 ∷ Γ)
routine_more Δ ls Γ B q0 seen l b rs q m len sf = (m.0, m.1, m.2, λ w lt. go w lt (dec_lt w (length seen)), m.4)
  where
    go : (w : ℕ) → w < length (seen ++ is_function_block b ∷ []) → Dec (w < length seen) →
        HasNth (routines_of B) w
        × (is_function_block (nth_routine w (routines_of B)) ≡ get_or (seen ++ is_function_block b ∷ []) w false)
        × (get_or (l.begins ++ q ∷ []) w 0 ≡ nth_begin (routines_of B) q0 w)
    go w lt (yes h) =
        let x = m.3 w h in (
          x.0,
          x.1 ∙ sym (get_or-append seen (is_function_block b ∷ []) false w h),
          get_or-append l.begins (q ∷ []) 0 w (omega arith) ∙ x.2,
        )
    go w lt (no h) =
        let e : w ≡ length seen = omega (arith, length-append seen (is_function_block b ∷ [])) in
        let x = rw add-zero at (sf 0 tt) in
        rw e (
          x.0,
          ap is_function_block x.1 ∙ sym (get_or-append_seam seen (is_function_block b) [] false),
          get_or_at l.begins q [] 0 (length seen) len ∙ sym x.2,
        )

-- ── routines, and what stands in a block ────────────────────────────────────────────────────

-- a routine stands from q on, `more` behind it, and its entries are sound
pub record RoutineThere (T : Table) (V : ℕ) (ls : List Laid) (Γ : Frames) (b : Block) (q : ℕ)
    (more : List Entry) : Type 0 where
  pub stands : RoutineStands T Γ b q
  pub behind : EntriesAt T (after_routine b q) more
  pub sound : Each (SoundEntry V) (of_routine ls q b)

-- routines of block B stand from q on, and all that have these flags are visible behind them
pub record RoutinesThere (T : Table) (V : ℕ) (Δ : List Declared) (ls : List Laid) (Γ : Frames) (B : Block) (q0 : ℕ)
    (l : Laid) (flags : List Bool) (rs : Routines) (q : ℕ) (more : List Entry) : Type 0 where
  pub stand : RoutinesStand T (frame B q0 ∷ Γ) rs q
  pub behind : EntriesAt T (after_routines rs q) more
  pub agrees : Agrees (declared (own_cells B) flags ∷ Δ) ((of_routines ls l q rs).laid ∷ ls) (frame B q0 ∷ Γ)
  pub sound : Each (SoundEntry V) (of_routines ls l q rs).entries

-- a block's jump, routines and body stand from q on
pub record ContentsThere (T : Table) (V : ℕ) (ls : List Laid) (Γ : Frames) (B : Block) (q p : ℕ) (rs : Routines)
    (c : Cmd) (l : Laid) (more : List Entry) : Type 0 where
  pub jump : JumpStands T rs p q
  pub inner : RoutinesStand T (frame B (suc q) ∷ Γ) rs (suc q)
  pub body : CmdStands T (frame B (suc q) ∷ Γ) c (body_at rs q)
  pub behind : EntriesAt T (after_cmd c (body_at rs q)) more
  pub sound : Each (SoundEntry V) (contents ls q p rs (of_routines ls l (suc q) rs) c l)

module _ (T : Table) (V : ℕ) where
  pub contents_stand : (Δ : List Declared) (ls : List Laid) (Γ : Frames) (B : Block) (q p : ℕ) (rs : Routines)
      (c : Cmd) (l : Laid) (more : List Entry) →
      Agrees (declared (own_cells B) [] ∷ Δ) (l ∷ ls) (frame B (suc q) ∷ Γ) → first_free Γ + own_cells B ≤ V →
      CmdScoped (declared (own_cells B) (function_flags rs) ∷ Δ) c →
      ((m1 : List Entry) → EntriesAt T (suc q) ((of_routines ls l (suc q) rs).entries ++ m1) →
      RoutinesThere T V Δ ls Γ B (suc q) l (function_flags rs) rs (suc q) m1) →
      EntriesAt T q (contents ls q p rs (of_routines ls l (suc q) rs) c l ++ more) →
      ContentsThere T V ls Γ B q p rs c l more
  contents_stand Δ ls Γ B q p no_more c l more m le o f a =
      let Δ1 : List Declared = declared (own_cells B) [] ∷ Δ in
      let Γ1 : Frames = frame B (suc q) ∷ Γ in
      let x = cmd_stands T V Δ1 (l ∷ ls) Γ1 m le c q more o a in
      record {
        jump = tt;
        inner = tt;
        body = x.0;
        behind = x.1;
        sound = cmd_sound T V Δ1 (l ∷ ls) Γ1 m le c q o;
      }
  contents_stand Δ ls Γ B q p (routine b rs) c l more m le o f a =
      let rc : RoutineCode = of_routines ls l (suc q) (routine b rs) in
      let Δ1 : List Declared = declared (own_cells B) (function_flags (routine b rs)) ∷ Δ in
      let Γ1 : Frames = frame B (suc q) ∷ Γ in
      let ls1 : List Laid = rc.laid ∷ ls in
      let e : ℕ = after_routines (routine b rs) (suc q) in
      let h : q + 1 + length rc.entries ≡ e = omega (arith, routines_length ls l (suc q) (routine b rs)) in
      let cs : List Entry = of_cmd ls1 e c in
      let At : ℕ → Type 0 = λ n. EntriesAt T q (entry JMP n 0 p ∷ (rc.entries ++ of_cmd ls1 n c ++ more)) in
      let a0 : At e = subst At h a in
      let y = f (cs ++ more) (entries_assoc T (suc q) rc.entries cs more a0.1) in
      let x = cmd_stands T V Δ1 ls1 Γ1 y.agrees le c e more o y.behind in
      let g : Each (SoundEntry V) cs = cmd_sound T V Δ1 ls1 Γ1 y.agrees le c e o in
      record {
        jump = a0.0;
        inner = y.stand;
        body = x.0;
        behind = x.1;
        sound =
            subst (λ n. Each (SoundEntry V) (entry JMP n 0 p ∷ (rc.entries ++ of_cmd ls1 n c))) (sym h)
            (sound_jump, each_append (SoundEntry V) rc.entries cs y.sound g);
      }

  mutual
    pub routine_stands : (Δ : List Declared) (ls : List Laid) (Γ : Frames) (b : Block) (q : ℕ) (more : List Entry) →
        Agrees Δ ls Γ → BlockScoped Δ b → reach (first_free Γ) b ≤ V → EntriesAt T q (of_routine ls q b ++ more) →
        RoutineThere T V ls Γ b q more
    routine_stands Δ ls Γ (block p r k rs c) q more mt ok le a =
        let B : Block = block p r k rs c in
        let l : Laid = inside ls k in
        let il = inside_agrees Δ ls Γ k mt in
        let m : ℕ = l.first in
        let lm : m + k ≤ V = omega (arith, il.0) in
        let q1 : ℕ = past_enter k q in
        let q2 : ℕ = after_cmd c (body_at rs q1) in
        let pre : List Entry = enter m k p in
        let ct : List Entry = contents ls q1 p rs (of_routines ls l (suc q1) rs) c l in
        let ho : List Entry = hand_over r m p in
        let lv : List Entry = leave m k p in
        let rt : List Entry = plain RETURN p ∷ [] in
        let from : ℕ → ℕ → List Entry = λ n i. pre ++ contents ls n p rs (of_routines ls l i rs) c l ++ ho ++ lv
        ++ rt in
        let shape : of_routine ls q B ≡ pre ++ ct ++ ho ++ lv ++ rt =
        ap (λ n. from n (n + 1)) (enter_length m k p q) ∙ ap (from q1) (add-one q1) in
        let a0 = subst (λ z. EntriesAt T q (z ++ more)) shape a in
        let a1 = entries_assoc T q (pre ++ ct ++ ho ++ lv) rt more a0 in
        let a2 = entries_assoc T q (pre ++ ct ++ ho) lv (rt ++ more) a1 in
        let a3 = entries_assoc T q (pre ++ ct) ho (lv ++ (rt ++ more)) a2 in
        let a4 = entries_assoc T q pre ct (ho ++ (lv ++ (rt ++ more))) a3 in
        let x = enter_stands T m k p q (ct ++ (ho ++ (lv ++ (rt ++ more)))) a4 in
        let none_seen : Agrees (declared k [] ∷ Δ) (l ∷ ls) (frame B (suc q1) ∷ Γ) =
        (refl, il.0, il.1, λ w lt. absurd (omega arith), mt) in
        let y = contents_stand Δ ls Γ B q1 p rs c l (ho ++ (lv ++ (rt ++ more))) none_seen (omega arith) ok.2
        (λ m1 at. routines_stand Δ ls Γ B (suc q1) l [] rs (suc q1) m1 none_seen (ap length il.2)
        (λ w h. rw zero-add (h, refl, refl)) ok.1 (omega arith) at) x.1 in
        let z = hand_over_stands T r m p q2 (lv ++ (rt ++ more)) y.behind in
        let v = leave_stands T m k p (past_hand_over r q2) (rt ++ more) z.1 in
        let S : Entry → Type 0 = SoundEntry V in
        let s1 = each_append S pre ct (enter_sound V m k p lm) y.sound in
        let s2 = each_append S (pre ++ ct) ho s1
        (hand_over_sound V r m k p ok.0 (omega (arith, il.0, first_free_positive Γ)) lm) in
        let s3 = each_append S (pre ++ ct ++ ho) lv s2 (leave_sound V m k p lm) in
        let s4 = each_append S (pre ++ ct ++ ho ++ lv) rt s3 (sound_return, tt) in
        record {
          stands = record {
            result = ok.0;
            enter = subst (λ n. EnterStands T n k p q) il.0 x.0;
            jump = y.jump;
            inner = y.inner;
            body = y.body;
            hand = subst (λ n. HandOverStands T r n p q2) il.0 z.0;
            leave = subst (λ n. LeaveStands T n k p (past_hand_over r q2)) il.0 v.0;
            back = v.1.0;
          };
          behind = v.1.1;
          sound = subst (Each S) (sym shape) s4;
        }

    pub routines_stand : (Δ : List Declared) (ls : List Laid) (Γ : Frames) (B : Block) (q0 : ℕ) (l : Laid)
        (seen : List Bool) (rs : Routines) (q : ℕ) (more : List Entry) →
        Agrees (declared (own_cells B) seen ∷ Δ) (l ∷ ls) (frame B q0 ∷ Γ) → length l.begins ≡ length seen →
        RestOf (routines_of B) q0 (length seen) rs q → RoutinesScoped Δ (own_cells B) seen rs →
        reach_of (first_free Γ + own_cells B) rs ≤ V → EntriesAt T q ((of_routines ls l q rs).entries ++ more) →
        RoutinesThere T V Δ ls Γ B q0 l (seen ++ function_flags rs) rs q more
    routines_stand Δ ls Γ B q0 l seen no_more q more mt len sf ok le a =
        record { stand = tt; behind = a; agrees = rw append-nil mt; sound = tt }
    routines_stand Δ ls Γ B q0 l seen (routine b rs) q more mt len sf ok le a =
        let m : Laid = with_begin l q in
        let f : Bool = is_function_block b in
        let seen1 : List Bool = seen ++ f ∷ [] in
        let mt1 = routine_more Δ ls Γ B q0 seen l b rs q mt len sf in
        let Γ1 : Frames = frame B q0 ∷ Γ in
        let es : List Entry = of_routine (m ∷ ls) q b in
        let q1 : ℕ = after_routine b q in
        let h : q + length es ≡ q1 = routine_length (m ∷ ls) q b in
        let rest : RoutineCode = of_routines ls m q1 rs in
        let a0 = subst (λ n. EntriesAt T q (es ++ (of_routines ls m n rs).entries ++ more)) h a in
        let a1 = entries_assoc T q es rest.entries more a0 in
        let x = routine_stands (declared (own_cells B) seen1 ∷ Δ) (m ∷ ls) Γ1 b q (rest.entries ++ more) mt1 ok.0
        (omega arith) a1 in
        let ls1 : length seen1 ≡ suc (length seen) = omega (arith, length-append seen (f ∷ [])) in
        let lb : length m.begins ≡ length seen1 = omega (arith, length-append l.begins (q ∷ []), len, ls1) in
        let sf1 = subst (λ n. RestOf (routines_of B) q0 n rs q1) (sym ls1)
        (rest_next (routines_of B) q0 (length seen) b rs q sf) in
        let y = routines_stand Δ ls Γ B q0 m seen1 rs q1 more mt1 lb sf1 ok.1 (omega arith) x.behind in
        let flags : List Bool = seen ++ (f ∷ function_flags rs) in
        let fl : seen1 ++ function_flags rs ≡ flags = append_assoc seen (f ∷ []) (function_flags rs) in
        let agrees1 = subst (λ s. Agrees (declared (own_cells B) s ∷ Δ) (rest.laid ∷ ls) Γ1) fl y.agrees in
        record {
          stand = (x.stands, y.stand);
          behind = y.behind;
          agrees =
              subst (λ n. Agrees (declared (own_cells B) flags ∷ Δ) ((of_routines ls m n rs).laid ∷ ls) Γ1) (sym h)
              agrees1;
          sound =
              subst (λ n. Each (SoundEntry V) (es ++ (of_routines ls m n rs).entries)) (sym h)
              (each_append (SoundEntry V) es rest.entries x.sound y.sound);
        }
