-- A column up to the count is the column of the listed iters, and what check 1 says of the counts.
use mathlib.Core.Path.{◌≡◌, sym, ap, ◌∙◌}
use mathlib.Core.Bool.{true, and-eq-true_iff}
use mathlib.Core.List.{List, map}
use Prim.Native.Nat.{ℕ, ◌≤◌}
use native.Mathlib.Omega.{arith}
use lib.Dec.{leb}
use lib.IntN.{ℤ}
use lib.ListN.{take}
use borrow.Author.Tests.{leb-true}
use Rattle.laws.proofs.Lists.{map_take}
use Rattle.card.specs.Lists.{within, product}
use Rattle.card.specs.Limits.{most_shard, most_replica}
use Rattle.card.specs.Card.{listed}
use Rattle.card.specs.Admission.{counts_fit}
use Rattle.card.specs.Packed.{card_of, ListOf}
use Rattle.card.specs.declared.Iter.{Iter}
use Rattle.card.specs.declared.Iters.{Iters}
use Rattle.card.specs.declared.Card.{Card}

module _ {A : Type 0} (f : Iter → A) (iters : Iters) where
  listed_column : {column : List A} → column ≡ map f iters.at → take iters.count column ≡ map f (listed iters)
  listed_column e = ap (take iters.count) e ∙ sym (map_take f iters.count iters.at)

pub listed_product : (f : Iter → ℕ) (iters : Iters) {column : List ℕ} → column ≡ map f iters.at
    → product (take iters.count column) ≡ product (map f (listed iters))
listed_product f iters e = ap product (listed_column f iters e)

-- what the counts of a card are after check 1
pub record Counted (card : Card) : Type 0 where
  pub some : 1 ≤ card.shard.count
  pub shard : card.shard.count ≤ most_shard
  pub replica : card.replica.count ≤ most_replica

pub counted : (card : Card) → counts_fit card ≡ true → Counted card
counted card t =
    let both = (and-eq-true_iff (within 1 most_shard card.shard.count) (leb card.replica.count most_replica)).0 t in
    let shard = (and-eq-true_iff (leb 1 card.shard.count) (leb card.shard.count most_shard)).0 both.0 in
    record {
      some = leb-true 1 card.shard.count shard.0;
      shard = leb-true card.shard.count most_shard shard.1;
      replica = leb-true card.replica.count most_replica both.1;
    }

-- after check 1 both lists of a packed card can be read
module _ (numbers : List ℕ) (strides : List ℤ) (t : counts_fit (card_of numbers strides) ≡ true) where
  pub shard_list : ListOf numbers 0
  shard_list = record { one_of_two = omega arith; few = (counted (card_of numbers strides) t).shard }

  pub replica_list : ListOf numbers 1
  replica_list = let n = counted (card_of numbers strides) t in record { one_of_two = omega arith; few = omega (arith, n.replica) }
