-- What the functions inside rely on, after the checks. Nothing here has to be believed: it is what they promise each other.
use Rattle.std.specs.Prelude.{◌≡◌, true, ℕ, ◌≤◌, ◌<◌}
use Rattle.swizzle.specs.Mode.{known_bits}
use Rattle.canonical.specs.Rule.{uses_lbo}
use Rattle.canonical.specs.declared.Canonical.{Canonical}

-- the numbers that the checks leave
pub record PassedChecks (a : Canonical) : Type 0 where
  pub its_bits : known_bits a.bits ≡ true
  pub its_mode : a.mode ≤ 3
  pub few_columns : a.k ≤ 8
  pub lbo_below : uses_lbo a.major a.mode ≡ true → a.lbo < 262144
  pub sbo_below : a.sbo < 262144

-- no stride is longer than the longest in bytes of 4-bit elements
abbrev pub longest : ℕ
longest = 524288

-- the strides of a layout, and how often its columns repeat
pub record StridesShort (k T wide rows columns : ℕ) : Type 0 where
  pub few : k ≤ 8
  pub short_T : T ≤ longest
  pub short_wide : wide ≤ longest
  pub short_rows : rows ≤ longest
  pub short_columns : columns ≤ longest
