-- An approved card has classes times copies occupied cells: it has no idle pair, so each copy of a leader has a cell of its own.
use Rattle.std.specs.Prelude.{Ok, Result}
use mathlib.Core.Path.{◌≡◌, sym, ap, ◌∙◌}
use mathlib.Core.List.{List}
use Prim.Native.Nat.{ℕ, ◌*◌, ◌<◌}
use native.Mathlib.Omega.{arith}
use borrow.Author.Tests.{eq-eqb}
use lib.ListN.{length}
use Rattle.answers.specs.Refusals.{no_refusal}
use Rattle.answers.specs.declared.Refusal.{Refusal}
use Rattle.judgement.specs.declared.Approved.{Approved}
use Rattle.laws.proofs.Rungs.{apart}
use Rattle.card.specs.Card.{elements, copies}
use Rattle.card.specs.declared.Card.{Card}
use Rattle.card.proofs.Admitted.{sized}
use Rattle.rules.specs.Rules.{spot}
use Rattle.rules.specs.Copies.{cell_of}
use Rattle.rules.specs.Reuse.{leader, classes}
use Rattle.rules.specs.declared.Spot.TheVariants.{Inside}
use Rattle.rules.proofs.Reuse.{leader_at, leader_at_element, leader_at_leads, leader_at_once, leader_at_found}
use Rattle.idle.specs.Admission.{full_admission}
use Rattle.idle.proofs.Theorems.{admitted_exactly, checks_passed}
use Rattle.idle.proofs.Apart.{copies_apart}
use Rattle.claims.proofs.Apart.{CopiesApart, Led, all_occupied}
use Rattle.judgement.specs.Judgement.{placed, AllInside}
use Rattle.judgement.specs.Verdict.{VerdictPromise, verdict_numbers, approved_with}
use Rattle.judgement.proofs.Run.{lies_inside, few_copies, some_leads}
use Rattle.judgement.proofs.Theorems.{approved_passed}

module _ (card : Card) (eight : length card.lengths ≡ 8) where
  -- two different copies of one element never lie in one cell
  placed_apart : full_admission card ≡ no_refusal → AllInside card → CopiesApart (placed card) (elements card)
  placed_apart admitted inside f r s hf ownr owns e =
      let free = (admitted_exactly card).0 admitted in
      let hr : r < copies card = omega (arith, few_copies card f) in
      let hs : s < copies card = omega (arith, few_copies card f) in
      copies_apart card free.0 eight free.1 f r s (record { 0 = cell_of (spot card f r) }) hr hs (lies_inside (spot card f r) (inside f r hf hr))
      (lies_inside (spot card f s) (inside f s hf hs) ∙ ap (λ (c : ℕ). Inside (record { 0 = c })) (sym e))

  -- the elements that have copies of their own are the leaders
  led : (some : 0 < elements card) → Led (placed card) (elements card) (classes card) (copies card) (leader_at card some)
  led some = record {
    element = λ k h. leader_at_element card some k h;
    own = λ k h. rw (eq-eqb (leader card (leader_at card some k)) (leader_at card some k) (leader_at_leads card some k h));
    found = λ f h own. leader_at_found card some f h (some_leads card f own);
    once = leader_at_once card some;
  }

  pub approved_occupies : (before after : List ℕ) (n occupied m : ℕ) → VerdictPromise card before after (approved_with n occupied m)
      → occupied ≡ classes card * copies card
  approved_occupies before after n occupied m p =
      let passed = approved_passed card before after (approved_with n occupied m) p tt in
      let h = passed.2 in
      let sizes = sized card (checks_passed card h.0.admitted) in
      let some = sizes.some_elements in
      ap (λ (v : Result Approved Refusal). (verdict_numbers v).b) passed.3
      ∙ h.2.counted
      ∙ all_occupied (placed card) (elements card) passed.0 h.2.owners (placed_apart h.0.admitted h.1) (classes card) (copies card)
      (leader_at card some) sizes.some_copies (led some)
