-- `book_blocks::fill` fills bytes 0 to 507 and puts their check after them.
use mathlib.Core.Path.{◌≡◌, ap₂, ap, ◌∙◌}
use mathlib.Core.List.{List, ◌++◌}
use Prim.Native.Nat.{ℕ}
use Rattle.laws.proofs.Lists.{length_of}
use Rattle.card.proofs.ReadBack.{OfEight}
use Rattle.book.specs.Bytes.{bytes}
use Rattle.book.specs.Block.{check_of, body_of}
use Rattle.book_blocks.proofs.Laws.{body_is}
use native.Mathlib.Omega.{arith}
use borrow.Author.Rules.{rules}
use Rattle.book_blocks.proofs.fill.Statement.{statement}
use Rattle.book_blocks.proofs.fill.Tie as tie

eight : (s : tie.Start) → OfEight s.args.card
eight s = record { shard = search (rules, length_of); marks = search rules; replica = search (rules, length_of); offset = search rules; lengths = search rules }

returns : tie.Need-returns
returns c =
    let p = c in
    let g = p in
    let f = g in
    let w = f in
    let s = w in
    let body = body_is s.args.card s.args.note.now w.words_of-words.result f.fill_body.new.block (eight s.before.before.before.before.before.before.before.before.before.before.before.before.before) s.requires.1 f.fill_body.ensures.0 w.words_of-words.ensures.1 f.fill_body.ensures.1 in
    p.put_check.ensures ∙ ap₂ (λ (x : List ℕ) (y : ℕ). x ++ bytes 4 y) body (g.weigh-check.ensures ∙ ap check_of body)

pub fill_spec : {M : Type 1} → statement M
fill_spec = tie.close (tie.spec (λ c κs. search rules) (λ c κs. search rules) (λ c κs. search rules) (λ c κs. search rules) (λ c. search rules) returns)
