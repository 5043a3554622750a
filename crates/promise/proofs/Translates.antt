-- A translate keeps what holds between calls.
use mathlib.Core.Path.{◌≡◌, refl, ◌∙◌, subst}
use mathlib.Core.Bool.{Bool, true, false, true≢false}
use mathlib.Core.Logic.{inl}
use mathlib.Core.List.{List, [], ◌++◌, append_assoc}
use mathlib.Core.Option.{Option, none, some}
use Prim.Native.Nat.{ℕ, ◌-◌, ◌≤◌, min}
use native.Mathlib.Omega.{arith}
use lib.Dec.{leb}
use lib.ListN.{length, take, drop, replicate, length-append, length-replicate, length-drop}
use lib.Seq.{take-append_seam}
use Rattle.host.specs.Meaning.{Meaning}
use Rattle.model.specs.declared.faults.RoomFault.TheVariants.{TableFull, LongText}
use Rattle.model.specs.declared.faults.Cause.TheVariants as Causes
use Rattle.model.specs.Tree.{Block}
use Rattle.model.specs.Reading.{read}
use Rattle.model.specs.Judge.{Verdict, accepted, refused, verdict, at_start}
use Rattle.model.specs.Code.{of_program}
use Rattle.model.specs.Machine.{no_entry}
use Rattle.model.specs.Calls.{World, translate, filled_with, no_name, Translation, into, fault, of_verdict, translation, translated_to}
use Rattle.model.specs.Promise.{Since, History, interrupted, remembered, Lent}
use Rattle.std.proofs.lemmas.Bool.{leb-true}
use Rattle.promise.proofs.Invariant.{Between, RunStands}

-- a text that becomes entries is a script, and they are its code and fit
abbrev pub Translated : List ℕ → ℕ → ℕ → Translation → Type 0
Translated text k j (into es) =
    (b : Block) × (verdict j (read text) at_start ≡ accepted b) × (es ≡ of_program b) × (length es ≤ k)
Translated text k j (fault c p) = Unit {0}

pub translation_is : (text : List ℕ) (k j : ℕ) → Translated text k j (translation text k j)
translation_is text k j = short (leb (length text) 65535)
  where
    fits : (b : Block) → verdict j (read text) at_start ≡ accepted b → (x : Bool) →
        leb (length (of_program b)) (min k 65535) ≡ x →
        Translated text k j (elim x [
          | true ↦ into (of_program b)
          | false ↦ fault (Causes.Room TableFull) (length text)
        ])
    fits b e true x = let z = leb-true (length (of_program b)) (min k 65535) x in (b, e, refl, omega arith)
    fits b e false x = tt

    of : (v : Verdict) → verdict j (read text) at_start ≡ v → Translated text k j (of_verdict text k v)
    of (accepted b) e = fits b e (leb (length (of_program b)) (min k 65535)) refl
    of (refused c p) e = tt

    short : (x : Bool) → Translated text k j
        (elim x [
          | true ↦ of_verdict text k (verdict j (read text) at_start)
          | false ↦ fault (Causes.Room LongText) 65535
        ])
    short true = of (verdict j (read text) at_start) refl
    short false = tt

pub length_filled : {A : Type 0} (z : A) (es : List A) (k : ℕ) (mem : List A) → length es ≤ k → k ≤ length mem →
    length (filled_with z es k mem) ≡ length mem
length_filled z es k mem h1 h2 =
    omega (
      arith,
      length-append (es ++ replicate (k - length es) z) (drop k mem),
      length-append es (replicate (k - length es) z),
      length-replicate (k - length es) z,
      length-drop k mem,
    )

take_filled : {A : Type 0} (z : A) (es : List A) (k : ℕ) (mem : List A) → take (length es) (filled_with z es k mem) ≡ es
take_filled z es k mem = rw append_assoc (take-append_seam es (replicate (k - length es) z ++ drop k mem))

-- the run before it is cut off, and stands where it stood
cut_off_stands : (r : Option Since) (u : ℕ) (now : Meaning) → ((s : Since) → r ≡ some s → RunStands s u now) →
    (s : Since) → interrupted r ≡ some s → RunStands s u now
cut_off_stands none u now f s e = absurd (true≢false cc)
cut_off_stands (some s0) u now f s e =
    let x = f s0 refl in
    let s1 : Since = record {
      text = s0.text;
      host = s0.host;
      told = s0.told;
      budgets = s0.budgets;
      cut_off = true;
    } in
    let w : s1 ≡ s = cc in
    subst (λ y. RunStands y u now) w (record {
      b = x.b;
      script = x.script;
      steps = x.steps;
      machine = x.machine;
      path = x.path;
      told = x.told;
      so_far = inl refl;
    })

pub translates : (w0 : World) (u : ℕ) (h : History) (text : List ℕ) (k j : ℕ) (x : Translation) → Between w0 u h →
    Lent w0 (translate text k j) → Translated text k j x →
    Between w0 u (let t = translated_to h.world k j x in remembered h (translate text k j) t t.answer)
translates w0 u h text k j (into es) i le o =
    record {
      tables = length_filled no_entry es k h.world.table o.3 (omega (arith, i.tables, le.0)) ∙ i.tables;
      names = length_filled no_name [] j h.world.names (omega arith) (omega (arith, i.names, le.1)) ∙ i.names;
      cells = i.cells;
      runner = record {
        text = text;
        is = refl;
        b = o.0;
        script = (j, o.1);
        code = take_filled no_entry es k h.world.table ∙ o.2;
      };
      runs = cut_off_stands h.run u h.world.host i.runs;
      sound = i.sound;
    }
translates w0 u h text k j (fault n p) i le o =
    record {
      tables =
          length_filled no_entry [] k h.world.table (omega arith) (omega (arith, i.tables, le.0)) ∙ i.tables;
      names = length_filled no_name [] j h.world.names (omega arith) (omega (arith, i.names, le.1)) ∙ i.names;
      cells = i.cells;
      runner = tt;
      runs = cut_off_stands h.run u h.world.host i.runs;
      sound = i.sound;
    }
