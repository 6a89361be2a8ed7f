-- What is answered from the parts of a text on: if the machine stands there, the answer is that of the whole text. Nothing here has to be believed.
use Rattle.std.specs.Prelude.{ℕ, ◌<◌, ◌≡◌, false, List, eqb, pos, length, get_or, replicate}
use Rattle.notation.specs.Promise.{Answered, no_iters}
use Rattle.notation.specs.declared.Layout.{Layout}
use Rattle.notation.specs.declared.Reading.{Reading}
use Rattle.notation.specs.declared.Phase.TheVariants.{First, Plus, Opened, Ended}
use Rattle.notation.specs.declared.Part.TheVariants.{Several}
use Rattle.notation.specs.declared.Stand.{Stand}
use Rattle.reading_lists.specs.Lists.{spot_in, Standing, AxesRise}

-- no offset yet; no replica either
abbrev pub Still : Layout → Type 0
Still l = l.offset ≡ replicate 8 (pos 0)

abbrev pub Alone : Layout → Type 0
Alone l = (l.replica ≡ no_iters) × Still l

abbrev pub OffsetsAnswered : List ℕ → ℕ → Layout → Reading → Type 0
OffsetsAnswered t from l r = Still l → AxesRise t from 0 l → Answered t r

abbrev pub ReplicaAnswered : List ℕ → ℕ → Layout → Reading → Type 0
ReplicaAnswered t from l r = Still l → (s : Stand) → Standing t from Ended s l → Answered t r

abbrev pub SeveralAnswered : List ℕ → ℕ → Layout → Reading → Type 0
SeveralAnswered t from l r = Alone l → Standing t from First (spot_in Several 0 0) l → Answered t r

abbrev pub SingleAnswered : List ℕ → ℕ → Layout → Reading → Type 0
SingleAnswered t from l r = Alone l → (from < length t → eqb (get_or t from 0) 40 ≡ false) → (s : Stand) → Standing t from Opened s l → Answered t r

abbrev pub PlusAnswered : List ℕ → ℕ → Layout → Reading → Type 0
PlusAnswered t from l r = Alone l → (s : Stand) → Standing t from Plus s l → Answered t r
