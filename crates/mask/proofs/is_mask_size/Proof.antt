-- `mask::is_mask_size` is the definition's own test, made of that of M.
use Rattle.mask.proofs.is_mask_size.Statement.{statement}
use Rattle.mask.proofs.is_mask_size.Tie as tie

pub is_mask_size_spec : {M : Type 1} → statement M
is_mask_size_spec = tie.close (tie.spec (λ c κs. tt) (λ c. rw c.is_mask_m.ensures))
