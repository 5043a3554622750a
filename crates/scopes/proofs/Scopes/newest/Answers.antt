-- From the newest record down.
use Rattle.std.proofs.Common.{◌≡◌, ◌-◌, reverse, drop, length, ap, ◌∙◌, arith, length-drop, rules, tests}
use Rattle.std.proofs.lemmas.Iterator.Adapters.{YieldsList-from_rev_slice}
use Rattle.std.proofs.lemmas.Iterator.Search.{find_from_yields_List}
use Rattle.std.specs.List.{slice_range}
use Rattle.std.proofs.lemmas.List.{take_all}
use Rattle.pile.specs.Piles.{front}
use Rattle.model.specs.Reading.{same}
use Rattle.scopes.specs.Records.{newest, spelling}
use Rattle.scopes.proofs.Scanning.{found_newest}
use Rattle.scopes.proofs.Scopes.newest.Goals as goal

pub returns : goal.returns
returns c =
    let text = c.args.self.now.text.now in
    let name = c.args.name.now in
    let held = front c.args.self.now.records in
    let part : c.in_ok-records.records.now ≡ drop c.args.from held
    = c.in_ok-records.ensures.lookup.0.2 ∙ ap (λ xs. slice_range xs c.args.from (length xs)) c.filled.ensures ∙ take_all (length held - c.args.from) (drop c.args.from held) (omega (arith, length-drop c.args.from held)) in
    c.copied.ensures ∙ find_from_yields_List (λ n. same name (spelling text n)) _ _ c.find.result c.find.ensures.ran (YieldsList-from_rev_slice c.in_ok-records.records.now cc) (λ x b q k. search (rules, tests)) ∙ found_newest text name (reverse c.in_ok-records.records.now)
    ∙ ap (λ ns. newest text name (reverse ns)) part
