-- `outside_swizzled::first_by_adds` writes what the copies add to m, and then looks.
use borrow.Author.Rules.{rules}
use Rattle.outside_swizzled.proofs.first_by_adds.Statement.{statement}
use Rattle.outside_swizzled.proofs.first_by_adds.Tie as tie

first_m_requires : tie.Need-first_m-requires
first_m_requires c κs =
    let p = c in
    let s = p in
    (record { admits = s.requires.0.0; adds_there = p.put_adds.ensures }, s.requires.0.1, s.requires.0.2)

pub first_by_adds_spec : {M : Type 1} → statement M
first_by_adds_spec =
    tie.close
    (tie.spec (λ c κs. let s = c in (s.requires.0.0, s.requires.1)) first_m_requires (λ c. search rules) (λ c. c.first_m.ensures))
