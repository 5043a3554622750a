-- Following a script by hand, for so many turns: the script's tree and a host, and nothing of tables or of the machine.
-- Assumes nothing.
use Rattle.std.specs.Prelude.{true, false, List, [], ◌∷◌, ◌++◌, ℕ, zero, suc, ℤ, pos, get_or, set, take, drop, replicate}
use Rattle.model.specs.Tree
use Rattle.model.specs.Tree.{Found, Exp, Cmd, Block, Routines, block, no_more, routine, program}
use Rattle.model.specs.Tree.{constant, variable, call, negated, denied, joined, assign, invoke, then_do, se_senao}
use Rattle.model.specs.declared.faults.RunFault.{RunFault}
use Rattle.model.specs.declared.faults.RunFault.TheVariants.{NothingWaiting, OutputFull}
use Rattle.host.specs.Meaning.{Meaning}
use Rattle.model.specs.Values.{Result, value, fails, combine, invert, deny, eqZ}

-- one run of a block: the block, and its own cells
pub record Activation : Type 0 where
  pub of : Block
  pub cells : List ℤ

-- a value taken from the host, or written to it
pub data Event : Type 0 where
  took wrote : ℤ → Event

-- the activations that names are looked up along, innermost first; what the host means; what was taken and written so
-- far, in order; and the turns left
pub record Scene : Type 0 where
  pub chain : List Activation
  pub host : Meaning
  pub events : List Event
  pub turns : ℕ

-- where following comes to: an end, a fault at a place, or no turn left
pub data Outcome (A : Type 0) : Type 0 where
  done : A → Scene → Outcome A
  faulted : RunFault → ℕ → Scene → Outcome A
  out_of_turns : Scene → Outcome A

-- go on from an end
infixl 1 ◌then◌
abbrev pub ◌then◌ : {A B : Type 0} → Outcome A → (A → Scene → Outcome B) → Outcome B
done a s then f = f a s
faulted r p s then f = faulted r p s
out_of_turns s then f = out_of_turns s

-- ── blocks and activations ──────────────────────────────────────────────────────────────────

abbrev pub own_cells : Block → ℕ
own_cells (block p r k rs c) = k

abbrev pub body_of : Block → Cmd
body_of (block p r k rs c) = c

-- no script has a use of a routine that is not there
abbrev pub nothing : Block
nothing = block 0 program 0 no_more (invoke 0 (record { hops = 0; index = 0 }))

abbrev pub nth_routine : ℕ → Routines → Block
nth_routine n no_more = nothing
nth_routine zero (routine b rs) = b
nth_routine (suc n) (routine b rs) = nth_routine n rs

abbrev pub routines_of : Block → Routines
routines_of (block p r k rs c) = rs

abbrev pub no_activation : Activation
no_activation = record { of = nothing; cells = [] }

-- every cell of a fresh activation is 0, or falso
abbrev pub fresh : Block → Activation
fresh b = record { of = b; cells = replicate (own_cells b) (pos 0) }

-- what a variable holds, as many activations up the chain as its block is away
abbrev pub look : List Activation → Found → ℤ
look cs f = get_or (get_or cs f.hops no_activation).cells f.index (pos 0)

abbrev pub with_cell : Activation → ℕ → ℤ → Activation
with_cell a i v = record { of = a.of; cells = set a.cells i v }

abbrev pub put_cell : List Activation → Found → ℤ → List Activation
put_cell cs f v = set cs f.hops (with_cell (get_or cs f.hops no_activation) f.index v)

abbrev pub with_chain : Scene → List Activation → Scene
with_chain s cs = record { chain = cs; host = s.host; events = s.events; turns = s.turns }

-- ── turns and calls ─────────────────────────────────────────────────────────────────────────

-- a turn is taken, or there is none
abbrev pub turn : {A : Type 0} → Scene → (Scene → Outcome A) → Outcome A
turn s f =
    elim s.turns [
      | zero ↦ out_of_turns s
      | suc n ↦ f (record { chain = s.chain; host = s.host; events = s.events; turns = n })
    ]

-- how a routine's block is followed, in a scene whose chain begins with its activation
abbrev pub Follow : Type 0
Follow = Block → Scene → Outcome (Unit {0})

-- the routine that a call finds
abbrev pub callee : Scene → Found → Block
callee s f = nth_routine f.index (routines_of (get_or s.chain f.hops no_activation).of)

-- a routine runs in a fresh activation inside the one that holds its declaration, while the caller's inner ones wait; it
-- yields its first cell, which is a function's result
abbrev pub called : Follow → Scene → Found → Outcome ℤ
called follow s f =
    turn s (λ t.
    let b = callee t f in
    follow b (with_chain t (fresh b ∷ drop f.hops t.chain)) then λ _ u.
    done (get_or (get_or u.chain 0 no_activation).cells 0 (pos 0)) (with_chain u (take f.hops t.chain ++ drop 1 u.chain)))

-- ── expressions and commands ────────────────────────────────────────────────────────────────

-- what an operator or a sign yields, or its fault at its place
abbrev pub yield : ℕ → Scene → Result → Outcome ℤ
yield p s (value v) = done v s
yield p s (fails f) = faulted f p s

-- operands go left to right, both sides of `e` and `ou` too
abbrev pub evaluate : Follow → Exp → Scene → Outcome ℤ
evaluate fo (constant p v) s = done v s
evaluate fo (variable p f) s = done (look s.chain f) s
evaluate fo (call p f) s = called fo s f
evaluate fo (negated p x) s = evaluate fo x s then λ v t. yield p t (invert v)
evaluate fo (denied p x) s = evaluate fo x s then λ v t. yield p t (deny v)
evaluate fo (joined o p x y) s = evaluate fo x s then λ v t. (evaluate fo y t then λ w u. yield p u (combine o v w))

abbrev pub reads : ℕ → Found → Scene → List ℤ → Outcome (Unit {0})
reads p f s [] = faulted NothingWaiting p s
reads p f s (v ∷ vs) =
    done tt (record {
      chain = put_cell s.chain f v;
      host = record { waiting = vs; written = s.host.written; room = s.host.room };
      events = s.events ++ took v ∷ [];
      turns = s.turns;
    })

abbrev pub writes : ℕ → ℤ → Scene → ℕ → Outcome (Unit {0})
writes p v s zero = faulted OutputFull p s
writes p v s (suc r) =
    done tt (record {
      chain = s.chain;
      host = record { waiting = s.host.waiting; written = s.host.written ++ v ∷ []; room = r };
      events = s.events ++ wrote v ∷ [];
      turns = s.turns;
    })

-- a loop is followed by `again`
abbrev pub execute : Follow → (ℕ → Exp → Cmd → Scene → Outcome (Unit {0})) → Cmd → Scene → Outcome (Unit {0})
execute fo again (assign p f x) s = evaluate fo x s then λ v t. done tt (with_chain t (put_cell t.chain f v))
execute fo again (invoke p f) s = called fo s f then λ _ t. done tt t
execute fo again (Tree.leia p q f) s = reads p f s s.host.waiting
execute fo again (Tree.escreva p q f) s = writes p (look s.chain f) s s.host.room
execute fo again (then_do c d) s = execute fo again c s then λ _ t. execute fo again d t
execute fo again (Tree.se p x c) s =
    evaluate fo x s then λ v t. elim (eqZ v (pos 0)) [ true ↦ done tt t | false ↦ execute fo again c t ]
execute fo again (se_senao p x c q d) s =
    evaluate fo x s then λ v t. elim (eqZ v (pos 0)) [ true ↦ execute fo again d t | false ↦ execute fo again c t ]
execute fo again (Tree.enquanto p x c) s = again p x c s

-- ── whole scripts ───────────────────────────────────────────────────────────────────────────

-- d bounds how deep turns nest: each level takes a turn, so one more than there are turns is never met
abbrev mutual
  pub loops : ℕ → ℕ → Exp → Cmd → Scene → Outcome (Unit {0})
  loops zero p x c s = out_of_turns s
  loops (suc d) p x c s =
      turn s (λ t. evaluate (follows d) x t then λ v u.
      elim (eqZ v (pos 0)) [ true ↦ done tt u | false ↦ (execute (follows d) (loops d) c u then λ _ w. loops d p x c w) ])

  pub follows : ℕ → Block → Scene → Outcome (Unit {0})
  follows zero b s = out_of_turns s
  follows (suc d) b s = execute (follows d) (loops d) (body_of b) s

-- a program with t turns, from what its host means at the start
abbrev pub by_hand : Block → Meaning → ℕ → Outcome (Unit {0})
by_hand b h t = follows (suc t) b (record { chain = fresh b ∷ []; host = h; events = []; turns = t })
