-- A run of a program's table comes, in step with the ideal machine, where the person comes to.
use mathlib.Core.Path.{◌≡◌, refl, sym, ap, subst}
use mathlib.Core.Bool.{true≢false}
use mathlib.Core.Logic.{◌⊎◌, inl, inr}
use mathlib.Core.List.{List, [], ◌∷◌, ◌++◌, append-nil}
use Prim.Native.Nat.{ℕ, suc, ◌+◌, ◌≤◌, ◌<◌}
use native.Mathlib.Omega.{arith}
use lib.IntN.{ℤ, pos}
use lib.ListN.{length, get_or, replicate, length-replicate, get_or-replicate}
use Rattle.host.specs.Meaning.{Meaning}
use Rattle.model.specs.declared.faults.RunFault.TheVariants.{CellsFull}
use Rattle.model.specs.declared.table.Entry.{Entry}
use Rattle.model.specs.declared.faults.RunFault.{RunFault}
use Rattle.model.specs.Tree.{Block}
use Rattle.model.specs.Code.{of_program, reach}
use Rattle.model.specs.Person.{Event, Scene, Outcome, done, faulted, out_of_turns, fresh, by_hand, routines_of, own_cells}
use Rattle.model.specs.Machine.{Machine, goes, halts, stops, no_entry, started, step}
use Rattle.model.specs.Promise.{Led, scene}
use Rattle.model.specs.Numbers.{run_number}
use Rattle.faithful.specs.Outcomes.{TurnsCost}
use Rattle.faithful.proofs.Ideal.Machine.{Cells, Ideal, Io, at_of, ideal_step, io_of, state, stop, table}
use Rattle.faithful.proofs.Following.Outcomes.{Follows, io, to_end, to_fault, to_turn}
use Rattle.faithful.proofs.Ideal.Runs.{Goes, goes_trans}
use Rattle.runs.specs.Runs.{Steps, still, moves}
use Rattle.faithful.proofs.Lockstep.Runs.{GoesOn, Passed, UnderWay, along, no_next, run_on, times, within, no_next_halted}
use Rattle.faithful.proofs.Lockstep.Steps.{InStep, real, step_in_step}
use Rattle.faithful.proofs.Lockstep.Memory.{LaidOut, fill_of}
use Rattle.faithful.proofs.Placed.Program.{ProgramStands, body_begin, body_end, place_of, program_frame, program_stands}
use Rattle.faithful.proofs.Scoped.Trees.{WellScoped}
use Rattle.faithful.proofs.Lockstep.Ends.{allocate_goes, entry_in_list, halt_halts, release_goes, start_goes, zeros}
use Rattle.faithful.proofs.Following.Scripts.{block_follows}
use Rattle.faithful.proofs.Following.Calls.{jump_steps, jumps_over}
use Rattle.faithful.proofs.Ideal.Events.{led_start}
use Rattle.faithful.proofs.Following.Turns.{no_turn_left}

-- ── the stages of a run ─────────────────────────────────────────────────────────────────────

-- what the next step is where the person's outcome is reached, with K cells; 64 is told only if there are fewer than D
abbrev pub There : List Entry → ℕ → ℕ → Outcome (Unit {0}) → Machine → Meaning → Type 0
There E K D (done u s) m h = step E m h ≡ halts
There E K D (faulted f p s) m h =
    (run_number f ≤ 63) × (m.at < length E) × ((get_or E m.at no_entry).place ≡ p)
    × ((step E m h ≡ stops f) ⊎ ((step E m h ≡ stops CellsFull) × (K < D)))
There E K D (out_of_turns s) m h = Unit {0}

pub record Arrived (E : List Entry) (first : Meaning) (K D : ℕ) (o : Outcome (Unit {0})) (m : Machine)
    (h : Meaning) : Type 0 where
  pub long : length m.memory ≡ K
  pub host : h ≡ (scene o).host
  pub led : Led first (scene o).events h
  pub there : There E K D o m h

-- only a person without a turn left can be outrun
abbrev pub NoTurn : Outcome (Unit {0}) → Type 0
NoTurn (done u s) = ⊥
NoTurn (faulted f p s) = ⊥
NoTurn (out_of_turns s) = Unit {0}

-- a run of j steps, where the person's outcome is reached after n
pub data Stage (E : List Entry) (first : Meaning) (K D : ℕ) (o : Outcome (Unit {0})) (n j : ℕ) (m : Machine)
    (h : Meaning) : Type 0 where
  under_way : j < n → UnderWay E first (scene o).events K D m h → Stage E first K D o n j m h
  arrived : j ≡ n → Arrived E first K D o m h → Stage E first K D o n j m h
  beyond : n < j → NoTurn o → Stage E first K D o n j m h

-- an end is a step further than where the ideal machine stands for it
abbrev pub one_more_at_end : Outcome (Unit {0}) → ℕ → ℕ
one_more_at_end (done u s) n = suc n
one_more_at_end (faulted f p s) n = n
one_more_at_end (out_of_turns s) n = n

-- ── from the start to the outcome ───────────────────────────────────────────────────────────

-- a host at which nothing has happened yet
abbrev untouched : Meaning → Io
untouched first = record { host = first; events = [] }

abbrev first_scene : Block → Meaning → ℕ → Scene
first_scene b first t = record { chain = fresh b ∷ []; host = first; events = []; turns = t }

module _ (b : Block) (ps : ProgramStands b) (first : Meaning) (K D : ℕ) where
  abbrev E : List Entry
  E = of_program b

  abbrev V : ℕ
  V = reach 1 b

  abbrev begin : Ideal
  begin = state 2 zeros [] (untouched first)

  -- START and ALLOC, and then along with the ideal machine
  from_start : (z : Ideal) (n : ℕ) → Goes (table E) n begin z → at_of z < length E → V + times V n + V ≤ D →
      (j : ℕ) (m1 : Machine) (h1 : Meaning) → Steps E j (started K) first m1 h1 →
      ((j < suc (suc n)) × UnderWay E first (io_of z).events K D m1 h1) ⊎ Passed E V K D first z (suc (suc n)) j m1 h1
  from_start z n g ok dep j m1 h1 r = at j m1 h1 r
    where
      long : length (replicate K (pos 0)) ≡ K
      long = length-replicate K (pos 0)

      m0 : Machine
      m0 = record { memory = replicate K (pos 0); fill = 0; at = 1 }

      On : ℕ → ℕ → Machine → Meaning → Type 0
      On n j m1 h1 = ((j < n) × UnderWay E first (io_of z).events K D m1 h1) ⊎ Passed E V K D first z n j m1 h1

      Allocated : Type 0
      Allocated =
          ((mem : List ℤ) × (step E m0 first ≡ goes (real V 2 [] mem) first) × LaidOut V K zeros [] mem)
          ⊎ ((step E m0 first ≡ stops CellsFull) × (K < V))

      allocated : Allocated
      allocated =
          subst (λ k. ((mem : List ℤ) × (step E m0 first ≡ goes (real V 2 [] mem) first) × LaidOut V k zeros [] mem)
          ⊎ ((step E m0 first ≡ stops CellsFull) × (k < V))) long
          (allocate_goes E V (place_of b) ps.allocate (replicate K (pos 0)) first)

      goes_there : Allocated → GoesOn E K D m0 first
      goes_there (inl y) = inl (real V 2 [] y.0, first, y.1)
      goes_there (inr y) = inr (y.0, let v = y.1 in omega arith)

      two_more : (j : ℕ) (m1 : Machine) (h1 : Meaning) → On n j m1 h1 → On (suc (suc n)) (suc (suc j)) m1 h1
      two_more j m1 h1 (inl x) = inl (let v = x.0 in omega arith, x.1)
      two_more j m1 h1 (inr x) = inr (record {
        memory = x.memory;
        more = x.more;
        count = omega (arith, x.count);
        laid = x.laid;
        filled = x.filled;
        led = x.led;
        path = x.path;
      })

      untaken : (es : List Event) × (rest : List Event) × ((io_of z).events ≡ es ++ rest) × Led first es first
      untaken = ([], (io_of z).events, refl, led_start first)

      second : (j : ℕ) (m1 : Machine) (h1 : Meaning) → Steps E j m0 first m1 h1 → Allocated →
          On (suc (suc n)) (suc j) m1 h1
      second j m1 h1 still y = inl (omega arith, record { long = long; front = untaken; goes_on = goes_there y })
      second j m1 h1 (moves {k = j1} e r) (inl y) =
          two_more j1 m1 h1 (along E V K ps.fixed ps.sound first D z n begin g ok dep (led_start first) y.0
          j1 m1 h1 y.2 (run_on y.1 e r))
      second j m1 h1 (moves e r) (inr y) = absurd (no_next y.0 e)

      at : (j : ℕ) (m1 : Machine) (h1 : Meaning) → Steps E j (started K) first m1 h1 → On (suc (suc n)) j m1 h1
      at j m1 h1 still =
          inl (
            omega arith,
            record {
              long = long;
              front = untaken;
              goes_on = inl (m0, first, start_goes E V (place_of b) ps.start (replicate K (pos 0)) first);
            },
          )
      at j m1 h1 (moves {k = j1} e r) =
          second j1 m1 h1 (run_on (start_goes E V (place_of b) ps.start (replicate K (pos 0)) first) e r) allocated

  -- the last two steps: DALLOC, and then HLT halts
  ends : (s : Scene) (low : Cells) (n j : ℕ) (m1 : Machine) (h1 : Meaning) →
      Passed E V K D first (state (body_end b) low [] (io s)) n j m1 h1 →
      Stage E first K D (done tt s) (suc n) j m1 h1
  ends s low n j m1 h1 x = at x.more x.count m1 h1 x.path
    where
      release : step E (real V (body_end b) [] x.memory) s.host ≡ goes
          (record { memory = x.memory; fill = 0; at = suc (body_end b) }) s.host
      release = release_goes E V (place_of b) (body_end b) ps.release x.memory s.host

      halt : step E (record { memory = x.memory; fill = 0; at = suc (body_end b) }) s.host ≡ halts
      halt = halt_halts E V (place_of b) (suc (body_end b)) ps.halt x.memory s.host

      last : (i : ℕ) → j ≡ n + suc i → (m1 : Machine) (h1 : Meaning) →
          Steps E i (record { memory = x.memory; fill = 0; at = suc (body_end b) }) s.host m1 h1 →
          Stage E first K D (done tt s) (suc n) j m1 h1
      last i e m1 h1 still =
          arrived (omega arith) (record { long = x.laid.long; host = refl; led = x.led; there = halt })
      last i e m1 h1 (moves w r) = absurd (no_next_halted halt w)

      at : (i : ℕ) → j ≡ n + i → (m1 : Machine) (h1 : Meaning) →
          Steps E i (real V (body_end b) [] x.memory) s.host m1 h1 →
          Stage E first K D (done tt s) (suc n) j m1 h1
      at i e m1 h1 still =
          under_way (omega arith)
          (record {
            long = x.laid.long;
            front = (s.events, [], sym (append-nil s.events), x.led);
            goes_on = inl (record { memory = x.memory; fill = 0; at = suc (body_end b) }, s.host, release);
          })
      at i e m1 h1 (moves {k = i1} w r) = last i1 e m1 h1 (run_on release w r)

  -- the machine stops where the ideal one does, by the same fault or for want of cells
  stops_there : (f : RunFault) (p : ℕ) (s : Scene) (z : Ideal) (n j : ℕ) (m1 : Machine) (h1 : Meaning) →
      ideal_step (table E) z ≡ stop f → (table E (at_of z)).place ≡ p → io_of z ≡ io s →
      at_of z < length E → Passed E V K D first z n j m1 h1 → Stage E first K D (faulted f p s) n j m1 h1
  stops_there f p s (state i l st o) n j m1 h1 e pl ho lt x =
      at agreed.0 agreed.1 x.more x.count m1 h1 x.path
    where
      here : Machine
      here = real V i st x.memory

      agreed : InStep (length E) V K (fill_of V st) (stop f) (step E here o.host)
      agreed =
          subst (λ w. InStep (length E) V K (fill_of V st) w (step E here o.host)) e
          (step_in_step E V K ps.fixed ps.sound i l st o x.memory lt x.laid)

      either : (step E here o.host ≡ stops f)
          ⊎ ((step E here o.host ≡ stops CellsFull) × (K < fill_of V st + V)) →
          (step E here o.host ≡ stops f) ⊎ ((step E here o.host ≡ stops CellsFull) × (K < D))
      either (inl y) = inl y
      either (inr y) = inr (y.0, let v = y.1 in omega (arith, x.filled))

      at : run_number f ≤ 63 → (step E here o.host ≡ stops f)
          ⊎ ((step E here o.host ≡ stops CellsFull) × (K < fill_of V st + V)) →
          (k : ℕ) → j ≡ n + k → (m1 : Machine) (h1 : Meaning) → Steps E k here o.host m1 h1 →
          Stage E first K D (faulted f p s) n j m1 h1
      at le y k c m1 h1 still =
          arrived (omega arith)
          (record {
            long = x.laid.long;
            host = ap (λ w. w.host) ho;
            led = subst (λ w. Led first w o.host) (ap (λ w. w.events) ho) x.led;
            there = (le, lt, pl, either y);
          })
      at le (inl y) k c m1 h1 (moves w r) = absurd (no_next y w)
      at le (inr y) k c m1 h1 (moves w r) = absurd (no_next y.0 w)

  -- so far the person followed, and here no turn is left
  no_turn_there : (s : Scene) (z : Ideal) (n j : ℕ) (m1 : Machine) (h1 : Meaning) → io_of z ≡ io s →
      Passed E V K D first z n j m1 h1 → Stage E first K D (out_of_turns s) n j m1 h1
  no_turn_there s (state i l st o) n j m1 h1 ho x = at x.more x.count m1 h1 x.path
    where
      at : (k : ℕ) → j ≡ n + k → (m1 : Machine) (h1 : Meaning) →
          Steps E k (real V i st x.memory) o.host m1 h1 → Stage E first K D (out_of_turns s) n j m1 h1
      at k c m1 h1 still =
          arrived (omega arith) (record {
            long = x.laid.long;
            host = ap (λ w. w.host) ho;
            led = subst (λ w. Led first w o.host) (ap (λ w. w.events) ho) x.led;
            there = tt;
          })
      at k c m1 h1 (moves w r) = beyond (omega arith) tt

  -- a run on the way to z is on the way to the outcome
  staged : (o : Outcome (Unit {0})) (n j : ℕ) (z : Ideal) (m1 : Machine) (h1 : Meaning) →
      (io_of z).events ≡ (scene o).events → n ≤ one_more_at_end o n →
      ((j < n) × UnderWay E first (io_of z).events K D m1 h1) ⊎ Passed E V K D first z n j m1 h1 →
      (Passed E V K D first z n j m1 h1 → Stage E first K D o (one_more_at_end o n) j m1 h1) →
      Stage E first K D o (one_more_at_end o n) j m1 h1
  staged o n j z m1 h1 ev le (inl x) f =
      under_way (let v = x.0 in omega arith) (subst (λ w. UnderWay E first w K D m1 h1) ev x.1)
  staged o n j z m1 h1 ev le (inr x) f = f x

  to_outcome : (o : Outcome (Unit {0})) (g n t : ℕ) (a : Ideal) → Goes (table E) g begin a →
      Follows (table E) (program_frame b) (λ u. []) (body_end b) n 0 0 t zeros a o →
      V + times V (g + n) + V ≤ D → (j : ℕ) (m1 : Machine) (h1 : Meaning) → Steps E j (started K) first m1 h1 →
      Stage E first K D o (one_more_at_end o (suc (suc (g + n)))) j m1 h1
  to_outcome (done u s) g n t a go (to_end r) dep j m1 h1 rr =
      let z : Ideal = state (body_end b) r.low [] (io s) in
      let ok : at_of z < length E = entry_in_list E (body_end b) (omega (arith, ap (λ w. w.code) ps.release)) in
      staged (done u s) (suc (suc (g + n))) j z m1 h1 refl (omega arith)
      (from_start z (g + n) (goes_trans go r.goes) ok dep j m1 h1 rr) (ends s r.low (suc (suc (g + n))) j m1 h1)
  to_outcome (faulted f p s) g n t a go (to_fault r) dep j m1 h1 rr =
      let ok : at_of r.at < length E = within E V K ps.fixed ps.sound first D r.at
      (λ w. let e = r.stops in true≢false cc) in
      staged (faulted f p s) (suc (suc (g + n))) j r.at m1 h1 (ap (λ w. w.events) r.host) (omega arith)
      (from_start r.at (g + n) (goes_trans go r.goes) ok dep j m1 h1 rr)
      (stops_there f p s r.at (suc (suc (g + n))) j m1 h1 r.stops r.placed r.host ok)
  to_outcome (out_of_turns s) g n t a go (to_turn r) dep j m1 h1 rr =
      staged (out_of_turns s) (suc (suc (g + n))) j r.at m1 h1 (ap (λ w. w.events) r.host) (omega arith)
      (from_start r.at (g + n) (goes_trans go r.goes) (entry_in_list E (at_of r.at) r.entered) dep j m1
      h1 rr)
      (no_turn_there s r.at (suc (suc (g + n))) j m1 h1 r.host)

-- ── the numbers of steps and of cells ───────────────────────────────────────────────────────

-- the steps of the ideal machine from its beginning to the person's outcome with t turns
abbrev ideal_steps : Block → Meaning → ℕ → ℕ
ideal_steps b first t = jump_steps (routines_of b) + (block_follows (suc t) b (first_scene b first t)).0

-- the steps of the table before the outcome
pub steps : Block → Meaning → ℕ → ℕ
steps b first t = one_more_at_end (by_hand b first t) (suc (suc (ideal_steps b first t)))

-- the cells that are enough for them
pub cells_for : Block → Meaning → ℕ → ℕ
cells_for b first t = reach 1 b + times (reach 1 b) (ideal_steps b first t) + reach 1 b

module _ (b : Block) (ok : WellScoped b) (first : Meaning) (t : ℕ) where
  abbrev ps : ProgramStands b
  ps = program_stands b ok

  abbrev at_body : Ideal
  at_body = state (body_begin b) zeros [] (untouched first)

  follows : Follows (table (of_program b)) (program_frame b) (λ u. []) (body_end b)
      (block_follows (suc t) b (first_scene b first t)).0 0 0 t zeros at_body (by_hand b first t)
  follows =
      (block_follows (suc t) b (first_scene b first t)).1 (table (of_program b)) (program_frame b) (body_begin b)
      zeros [] ps.around ps.body (
        refl,
        length-replicate (own_cells b) (pos 0),
        λ i lt. sym (get_or-replicate (own_cells b) i (pos 0) (pos 0) lt),
        tt,
      )

  -- every run of the table, with however many cells, stands where it should beside the person
  pub every_stage : (K j : ℕ) (m : Machine) (h : Meaning) → Steps (of_program b) j (started K) first m h →
      Stage (of_program b) first K (cells_for b first t) (by_hand b first t) (steps b first t) j m h
  unfolding steps cells_for
  every_stage K j m h r =
      to_outcome b ps first K (cells_for b first t) (by_hand b first t) (jump_steps (routines_of b))
      (block_follows (suc t) b (first_scene b first t)).0 t at_body
      (jumps_over (table (of_program b)) (routines_of b) (place_of b) 2 zeros [] (untouched first) ps.jump)
      follows (omega arith) j m h r

  pub turns_cost : TurnsCost t (steps b first t) (by_hand b first t)
  unfolding steps
  turns_cost = at (by_hand b first t) refl follows
    where
      at : (o : Outcome (Unit {0})) → by_hand b first t ≡ o →
          Follows (table (of_program b)) (program_frame b) (λ u. []) (body_end b)
          (block_follows (suc t) b (first_scene b first t)).0 0 0 t zeros at_body o →
          TurnsCost t (one_more_at_end o (suc (suc (ideal_steps b first t)))) o
      at (done u s) e (to_end r) = omega (arith, r.paid)
      at (faulted f p s) e (to_fault r) = tt
      at (out_of_turns s) e (to_turn r) = omega (arith, r.paid, no_turn_left b (first_scene b first t) s e)
