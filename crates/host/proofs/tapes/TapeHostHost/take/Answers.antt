-- The five bytes past those taken are the first value that waits.
use Rattle.std.proofs.Common.{◌≡◌, ◌+◌, ◌-◌, ◌*◌, length, get_or, take, drop, ◌∙◌, arith, w32, SFits, rules}
use Rattle.std.proofs.lemmas.List.{length-drop, take_all}
use Rattle.std.proofs.lemmas.Int.{to_z-of_z}
use Rattle.host.specs.Tapes.{tape_meaning, values_of}
use Rattle.host.proofs.Fives.{next_marked}
use Rattle.host.proofs.Steps.{first_where_one_waits, rest_where_one_waits, one_more_taken}
use Rattle.host.proofs.tapes.TapeHostHost.take.Goals as goal

pub returns : goal.returns
returns c =
    let h = c.args.self.now in
    let s = h.source.now in
    let i = 5 * h.taken in
    let t = take (length s - i) (drop i s) in
    let whole : take (length s - i) (drop i s) ≡ drop i s = take_all _ (drop i s) (simp length-drop (omega arith)) in
    let marked : get_or t 0 0 ≡ 86 = search rules in
    let v = c.from_be_bytes.result in
    let f : SFits w32 c.from_be_bytes.result = search rules in
    let vs = values_of (drop (5 * (h.taken + 1)) s) in
    let e = next_marked s t h.taken v whole c.in-86.len_at_least marked c.from_be_bytes.ensures in
    record {
      answer = rw to_z-of_z (first_where_one_waits (tape_meaning h) v vs e);
      after = rest_where_one_waits (tape_meaning h) v vs e;
      stays = λ a p. record { memory = p.memory; reads = p.reads; holds = p.holds; marks = p.marks; counts = one_more_taken h.taken v _ vs e ∙ p.counts };
    }
