-- Among the words, only those of the name's length can be the name.
use Rattle.std.proofs.Common.{◌≡◌, eqb, [], filter, length, ap, refl, arith}
use Rattle.std.proofs.lemmas.Grind.{common_steps}
use Rattle.model.specs.Reading.{pick, same, words}
use Rattle.reader.proofs.Spelling.{by_size}
use Rattle.reader.proofs.words.word_of.Goals as goal

pub returns-in-1 : goal.returns-in-1
returns-in-1 c = by_size c.args.name.now 1 _ c.among.ensures c.in-1.is

pub returns-in-2 : goal.returns-in-2
returns-in-2 c = by_size c.args.name.now 2 _ c.among-in-2.ensures c.in-2.is

pub returns-in-3 : goal.returns-in-3
returns-in-3 c = by_size c.args.name.now 3 _ c.among-in-3.ensures c.in-3.is

pub returns-in-4 : goal.returns-in-4
returns-in-4 c = by_size c.args.name.now 4 _ c.among-in-4.ensures c.in-4.is

pub returns-in-5 : goal.returns-in-5
returns-in-5 c = by_size c.args.name.now 5 _ c.among-in-5.ensures c.in-5.is

pub returns-in-6 : goal.returns-in-6
returns-in-6 c = by_size c.args.name.now 6 _ c.among-in-6.ensures c.in-6.is

pub returns-in-7 : goal.returns-in-7
returns-in-7 c = by_size c.args.name.now 7 _ c.among-in-7.ensures c.in-7.is

pub returns-in-8 : goal.returns-in-8
returns-in-8 c = by_size c.args.name.now 8 _ c.among-in-8.ensures c.in-8.is

pub returns-in-10 : goal.returns-in-10
returns-in-10 c = by_size c.args.name.now 10 _ c.among-in-10.ensures c.in-10.is

pub returns-in-12 : goal.returns-in-12
returns-in-12 c = by_size c.args.name.now 12 _ c.among-in-12.ensures c.in-12.is

pub returns-in_default : goal.returns-in_default
returns-in_default c =
    let name = c.args.name.now in
    let lacks : [] ≡ filter (λ w. eqb (length name) (length w.0)) words = grind (arith, common_steps) in
    by_size name (length name) _ (ap (pick same name) lacks) refl
