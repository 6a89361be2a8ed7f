-- Which registers are wrong, by where their values come from; and which kinds have values. By cases on the tests.
use mathlib.Core.Path.{◌≡◌, sym, ap, ◌∙◌}
use mathlib.Core.Bool.{true, false, not}
use mathlib.Core.List.{List}
use Prim.Native.Nat.{ℕ, ◌/◌, ◌%◌, ◌≤◌, ◌<◌}
use native.Mathlib.Omega.{arith}
use borrow.Author.Tests.{lt-ltb, le-ltb, leb-true}
use lib.Dec.{leb, ltb}
use Rattle.laws.proofs.Tests.{three_of}
use Rattle.fragment.specs.Kinds.{computations, place}
use Rattle.values.specs.declared.Register.{Register}
use Rattle.values.specs.declared.Register.TheVariants.{Empty}
use Rattle.values.specs.Rows.{entry}
use Rattle.values.specs.Values.{is_own, in_tile, dealt_entry}
use Rattle.values.specs.Registers.{is_matrix, is_of_sort, is_wrong}
use Rattle.dealing_moves.specs.Moves.{source_of}
use Rattle.dealing_moves.proofs.Sources.{own_source, dealt_from}

module _ (kind c n p : ℕ) where
  is_own_lem : p ≡ source_of kind c (n / 8) (n % 8) → p < 64 → is_own kind c (n / 8) (n % 8) ≡ true
  is_own_lem e k = own_source kind c (n / 8) (n % 8) ∙ ap (λ (q : ℕ). ltb q 64) (sym e) ∙ lt-ltb p 64 k

  -- a register that is not the computation's is not wrong, whatever it has
  pub not_wrong : (value : ℕ → ℕ → Register) → p ≡ source_of kind c (n / 8) (n % 8) → 64 ≤ p → is_wrong kind c value n ≡ false
  not_wrong value e k =
      let other : is_own kind c (n / 8) (n % 8) ≡ false = own_source kind c (n / 8) (n % 8) ∙ ap (λ (q : ℕ). ltb q 64) (sym e) ∙ le-ltb p 64 k in
      rw other

  -- one that is: by the sort of what it has
  pub wrong_own : (value : ℕ → ℕ → Register) → p ≡ source_of kind c (n / 8) (n % 8) → p < 64
      → is_wrong kind c value n ≡ not (is_of_sort kind (value (n / 8) (n % 8)))
  wrong_own value e k = rw (is_own_lem e k)

  -- what it would be dealt stands in the tile at its source
  pub at_source : (tile : List (List Register)) → p ≡ source_of kind c (n / 8) (n % 8) → p < 64
      → in_tile Empty tile (place kind (n / 8) (n % 8)) ≡ entry Empty tile (p / 8) (p % 8)
  at_source tile e k =
      let dealt : dealt_entry Empty kind c tile (n / 8) (n % 8) Empty ≡ in_tile Empty tile (place kind (n / 8) (n % 8)) = rw (is_own_lem e k) in
      sym dealt ∙ dealt_from Empty kind c tile (n / 8) (n % 8) Empty p e ∙ rw (lt-ltb (p / 8) 8 (omega (arith, k)))

pub matrix_kind : (kind c : ℕ) → is_matrix kind c ≡ true → 4 < kind
matrix_kind kind c e = omega (arith, leb-true 5 kind (three_of (leb 5 kind) (ltb kind 9) (ltb c (computations kind)) e).0)
