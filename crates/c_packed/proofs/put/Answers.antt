-- What the copy leaves at a place of the column is its entry, and what stands at any other place stays.
use Rattle.std.proofs.Common.{rules, ◌≡◌, length}
use Rattle.std.proofs.lemmas.List.{places}
use Rattle.c_packed.proofs.put.Goals as goal

pub returns : goal.returns
returns c =
    let same : c.copy_from_slice.new.self ≡ c.args.entries = search rules in
    let long : length c.args.entries ≡ 8 = search rules in
    record {
      whole = search (rules, places);
      there = λ j h. search (rules, places);
      others = λ i j h apart. search (rules, places);
    }
