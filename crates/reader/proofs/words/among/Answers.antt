-- The first choice that is spelled like the name.
use Rattle.std.proofs.Common.{◌≡◌, eqb, rules, tests, ap, ◌∙◌}
use Rattle.std.proofs.lemmas.Iterator.{YieldsList-from_slice}
use Rattle.std.proofs.lemmas.Iterator.Search.{find_from_yields_List}
use Rattle.std.specs.Cmp.Lexicographic.{pointwise}
use Rattle.std.specs.Option.{option_map}
use Rattle.reader.specs.Pieces.{found}
use Rattle.reader.proofs.Spelling.{by_choice}
use Rattle.reader.proofs.words.among.Goals as goal

pub returns : goal.returns
returns c =
    let name = c.args.name.now in
    let choices = c.args.choices.now in
    let first = find_from_yields_List (λ e. pointwise eqb name e.0.now) _ _ c.find.result c.find.ensures.ran (YieldsList-from_slice choices cc) (λ x b q k. search (rules, tests)) in
    let word : c.map.result ≡ option_map (λ e. e.1) (option_map (λ x. x.now) c.find.result) = search rules in
    ap found (word ∙ ap (option_map (λ e. e.1)) first) ∙ by_choice name choices
