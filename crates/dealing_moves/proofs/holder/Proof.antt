-- `dealing_moves::holder` numbers the register that a place is answered to be held by: the answer picks the arm.
use Rattle.std.specs.Prelude.{Ok}
use mathlib.Core.Path.{◌≡◌, sym, ap, subst}
use Prim.Native.Nat.{ℕ, ◌+◌, ◌*◌, ◌<◌}
use native.Mathlib.Omega.{arith}
use borrow.Author.Rules.{rules}
use Rattle.fragment.specs.declared.Slot.{Slot}
use Rattle.fragment.specs.Kinds.{at}
use Rattle.fragment.specs.Fragment.{HolderAnswer}
use Rattle.fragment.proofs.Theorems.{stays_inside, leads_back}
use Rattle.values.proofs.Held.{slot_in_lanes}
use Rattle.dealing_moves.proofs.holder.Statement.{statement}
use Rattle.dealing_moves.proofs.holder.Tie as tie

-- the register that was answered to hold the place
held : (c : tie.In-Ok) → let a = c.args in
    HolderAnswer a.kind (at a.computation a.row a.column) (Ok c.in-Ok.slot)
held c =
    let a = c.args in
    subst (HolderAnswer a.kind (at a.computation a.row a.column)) c.in-Ok.is c.holder_of.ensures

inside : (c : tie.In-Ok) → let s = c.in-Ok.slot in (s.lane < 32) × (s.register < 8)
inside c =
    let a = c.args in
    slot_in_lanes a.kind (at a.computation a.row a.column) c.in-Ok.slot (held c)

returns : tie.Need-returns-in-Ok
returns c =
    let k = c in
    let a = k.args in
    let s : Slot = k.in-Ok.slot in
    sym (rw (stays_inside a.kind s (at a.computation a.row a.column) (held k.before.before))
    (ap (λ (t : Slot). 8 * t.lane + t.register) (leads_back a.kind s (at a.computation a.row a.column) (held k.before.before))))

returns_2 : tie.Need-returns-in-Err
returns_2 c =
    let a = c.args in
    let none = subst (HolderAnswer a.kind (at a.computation a.row a.column)) c.in-Err.is c.holder_of.ensures in
    rw none.0

pub holder_spec : {M : Type 1} → statement M
holder_spec =
    tie.close
    (tie.spec (λ c κs. search rules) (λ c. search rules) (λ c. let n = inside c.before in omega arith)
    (λ c. let n = inside c.before.before in omega arith) (λ c. search rules) returns returns_2)
