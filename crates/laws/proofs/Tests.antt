-- A test of several parts says each of them.
use mathlib.Core.Path.{◌≡◌}
use mathlib.Core.Bool.{Bool, true, ◌&&◌, and-eq-true_iff}

pub three_of : (a b c : Bool) → (a && b && c) ≡ true → (a ≡ true) × (b ≡ true) × (c ≡ true)
three_of a b c e =
    let p = (and-eq-true_iff (a && b) c).0 e in let q = (and-eq-true_iff a b).0 p.0 in (q.0, q.1, p.1)

pub four_of : (a b c d : Bool) → (a && b && c && d) ≡ true → (a ≡ true) × (b ≡ true) × (c ≡ true) × (d ≡ true)
four_of a b c d e =
    let p = (and-eq-true_iff (a && b && c) d).0 e in let q = three_of a b c p.0 in (q.0, q.1, q.2, p.1)
