-- A value put is written as five bytes behind those written.
use Rattle.std.proofs.Common.{◌≡◌, ◌∷◌, suc, ◌+◌, ◌-◌, ◌*◌, ◌/◌, length, take, ap, arith}
use Rattle.std.proofs.lemmas.Int.{to_z-of_z}
use Rattle.host.specs.Tapes.{tape_meaning, four_of, fives_of}
use Rattle.host.proofs.Fives.{one_more, length_one_more, drop_one_more, fives_one_more, marked_one_more}
use Rattle.host.proofs.Fronts.{over_longer_front}
use Rattle.host.proofs.Steps.{ok_where_room, written_where_room}
use Rattle.host.proofs.tapes.TapeHostHost.put.Goals as goal

pub returns : goal.returns
returns c =
    let h = c.args.self.now in
    let s = h.sink.now in
    let n = h.filled in
    let v = c.args.value in
    let f = c.ranges.value in
    let e : c.to_be_bytes.result ≡ four_of c.args.value = simp to_z-of_z at c.to_be_bytes.ensures in
    let ys = c.copy_from_slice.new.self in
    let w : c.copy_from_slice.new.self ≡ 86 ∷ four_of c.args.value = rw e at c.copy_from_slice.ensures.after in
    let k = 5 * n + 5 - 5 * n in
    let five : 5 * n + 5 - 5 * n ≡ 5 = omega arith in
    let r : (length s - 5 * n) / 5 ≡ suc ((length s - 5 * (n + 1)) / 5) = omega arith in
    let l : length (one_more s n k ys) ≡ length s = length_one_more s n k ys (omega arith) five (ap length w) in
    let left : (length (one_more s n k ys) - 5 * (n + 1)) / 5 ≡ (length s - 5 * (n + 1)) / 5 = ap (λ i. (i - 5 * (n + 1)) / 5) l in
    let vs = fives_of (take (5 * (n + 1)) (one_more s n k ys)) in
    record {
      answer = ok_where_room (tape_meaning h) _ r;
      after = written_where_room (tape_meaning h) v vs _ _ r left (fives_one_more s n k ys v f (omega arith) w);
      stays = λ a p. record {
        memory = p.memory;
        reads = p.reads;
        holds = over_longer_front a.sink.now s (one_more s n k ys) (5 * n) (5 * (n + 1)) (omega arith) (omega arith) l (drop_one_more s n k ys (omega arith) five (ap length w)) p.holds;
        marks = λ m. marked_one_more s n k ys v f (omega arith) w (p.marks m);
        counts = p.counts;
      };
    }
