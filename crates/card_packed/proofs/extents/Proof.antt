-- `card_packed::extents` reads the extents of eight iters, which are all there are.
use mathlib.Core.Path.{◌≡◌, sym, ◌∙◌}
use mathlib.Core.List.{map}
use borrow.Author.Rules.{rules}
use lib.ListN.{length, get_or, length-map, get_or-map}
use Rattle.laws.proofs.Lists.{length_of}
use Rattle.card.specs.Card.{extent_of, none}
use Rattle.card.proofs.ReadBack.{eight_slots}
use Rattle.card_packed.proofs.extents.Statement.{statement}
use Rattle.card_packed.proofs.extents.Tie as tie

returns : tie.Need-returns
returns c =
    let at = c.args.iters.at in
    let eight : length at ≡ 8 = search (rules, length_of) in
    sym (eight_slots (λ k. (get_or at k none).extent) 0 (map extent_of at) (length-map at extent_of ∙ eight) (λ k h. get_or-map extent_of at k none))

pub extents_spec : {M : Type 1} → statement M
extents_spec =
    tie.close
    (tie.spec (λ c. search rules) (λ c. search rules) (λ c. search rules) (λ c. search rules) (λ c. search rules) (λ c. search rules)
    (λ c. search rules) (λ c. search rules) returns)
